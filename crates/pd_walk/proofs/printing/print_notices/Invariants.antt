use Rattle.std.proofs.Common.{◌≤◌, take}
use Rattle.pd_say.specs.Gathering.{Says}
use Rattle.pd_walk.specs.Acts.{notices_text}
use Rattle.pd_walk.proofs.printing.print_notices.Given as goal

abbrev pub invariant-loop-notice : goal.invariant-loop-notice
invariant-loop-notice g l = record {
  says : Says (g.L.Sink.taken l.fn.lines) l.fn.held.items (g.L.Sink.taken l.lines) l.held.items (notices_text l.symbols (take l.notice-index l.notices));
  counted : g.L.Sink.faults l.fn.lines ≤ g.L.Sink.faults l.lines;
}
