use Rattle.std.proofs.Common.{◌≡◌, take}
use Rattle.pd_patch.specs.Report.{loads_among}
use Rattle.pd_patch.proofs.report.load_boxes.Given as goal

abbrev pub invariant-loop-key : goal.invariant-loop-key
invariant-loop-key l = l.fresh.items ≡ loads_among l.grove (take l.key-index l.boxes)
