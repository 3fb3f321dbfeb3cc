use Rattle.std.proofs.Common.{◌≤◌, take}
use Rattle.pd_say.specs.Gathering.{Says}
use Rattle.pd_engine.specs.Remarks.{wires_text}
use Rattle.pd_engine.proofs.puts.say_wires.Given as goal

abbrev pub invariant-loop-wire : goal.invariant-loop-wire
invariant-loop-wire g l = record {
  says : Says (g.L.Sink.taken l.fn.lines) l.fn.held.items (g.L.Sink.taken l.lines) l.held.items (wires_text l.patch l.canvas (take l.wire-index l.wires));
  counted : g.L.Sink.faults l.fn.lines ≤ g.L.Sink.faults l.lines;
}
