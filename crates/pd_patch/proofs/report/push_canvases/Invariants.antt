use Rattle.std.proofs.Common.{◌≡◌, ◌++◌, take}
use Rattle.pd_patch.specs.Report.{canvases_inside}
use Rattle.pd_patch.proofs.report.push_canvases.Given as goal

abbrev pub invariant-loop-key : goal.invariant-loop-key
invariant-loop-key l = l.canvases.items ≡ l.fn.canvases.items ++ canvases_inside l.grove (take l.key-index l.boxes)
