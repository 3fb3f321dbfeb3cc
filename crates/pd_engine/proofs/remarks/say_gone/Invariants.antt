use Rattle.std.proofs.Common.{◌≤◌, take}
use Rattle.pd_say.specs.Gathering.{Says}
use Rattle.pd_stage.specs.Lines.{path_in, gone_text}
use Rattle.pd_engine.proofs.remarks.say_gone.Given as goal

abbrev pub invariant-loop-wire : goal.invariant-loop-wire
invariant-loop-wire g l = record {
  says : Says (g.L.Sink.taken l.fn.lines) l.fn.held.items (g.L.Sink.taken l.lines) l.held.items (gone_text (path_in l.patch l.canvas) (take l.wire-index l.gone));
  counted : g.L.Sink.faults l.fn.lines ≤ g.L.Sink.faults l.lines;
}
