use Rattle.std.proofs.Common.{◌≡◌, ◌++◌, take}
use Rattle.pd_patch.specs.Report.{unfit_among}
use Rattle.pd_patch.proofs.report.note_unfit.Given as goal

abbrev pub invariant-loop-canvas : goal.invariant-loop-canvas
invariant-loop-canvas l = l.notices.items ≡ l.fn.notices.items ++ unfit_among l.web l.grove (take l.canvas-index l.canvases)
