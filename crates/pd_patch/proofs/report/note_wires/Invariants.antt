use Rattle.std.proofs.Common.{◌≡◌, ◌++◌, take}
use Rattle.pd_patch.specs.Report.{unfit_wires}
use Rattle.pd_patch.proofs.report.note_wires.Given as goal

abbrev pub invariant-loop-wire : goal.invariant-loop-wire
invariant-loop-wire l = l.notices.items ≡ l.fn.notices.items ++ unfit_wires l.web l.grove l.canvas (take l.wire-index l.wires)
