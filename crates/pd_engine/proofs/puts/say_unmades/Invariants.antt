use Rattle.std.proofs.Common.{◌≤◌, take}
use Rattle.pd_say.specs.Gathering.{Says}
use Rattle.pd_stage.specs.Lines.{unmades_text}
use Rattle.pd_engine.proofs.puts.say_unmades.Given as goal

abbrev pub invariant-loop-key : goal.invariant-loop-key
invariant-loop-key g l = record {
  says : Says (g.L.Sink.taken l.fn.lines) l.fn.held.items (g.L.Sink.taken l.lines) l.held.items (unmades_text l.symbols l.patch (take l.key-index l.boxes));
  counted : g.L.Sink.faults l.fn.lines ≤ g.L.Sink.faults l.lines;
}
