use Rattle.std.proofs.Common.{◌≡◌, ◌++◌, take}
use Rattle.pd_patch.specs.Report.{loops_among}
use Rattle.pd_patch.proofs.report.note_loops.Given as goal

abbrev pub invariant-loop-canvas : goal.invariant-loop-canvas
invariant-loop-canvas l = l.notices.items ≡ l.fn.notices.items ++ loops_among l.patch.orders.items (take l.canvas-index l.canvases)
