use Rattle.std.proofs.Common.{◌≡◌, ◌++◌, take}
use Rattle.pd_patch.specs.Report.{unmade_among}
use Rattle.pd_patch.proofs.report.note_unmade.Given as goal

abbrev pub invariant-loop-key : goal.invariant-loop-key
invariant-loop-key l = l.notices.items ≡ l.fn.notices.items ++ unmade_among l.grove (take l.key-index l.boxes)
