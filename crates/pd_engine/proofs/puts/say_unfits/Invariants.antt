use Rattle.std.proofs.Common.{◌≤◌, take}
use Rattle.pd_say.specs.Gathering.{Says}
use Rattle.pd_engine.specs.Remarks.{unfits_held}
use Rattle.pd_engine.proofs.puts.say_unfits.Given as goal

abbrev pub invariant-loop-key : goal.invariant-loop-key
invariant-loop-key g l = record {
  says : Says (g.L.Sink.taken l.fn.lines) l.fn.held.items (g.L.Sink.taken l.lines) l.held.items (unfits_held l.patch (take l.key-index l.boxes));
  counted : g.L.Sink.faults l.fn.lines ≤ g.L.Sink.faults l.lines;
}
