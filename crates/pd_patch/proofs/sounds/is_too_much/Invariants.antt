use Rattle.std.proofs.Common.{◌≡◌, ◌+◌, take}
use Rattle.pd_patch.specs.Sounds.{sound_in}
use Rattle.pd_patch.proofs.sounds.is_too_much.Given as goal

abbrev pub invariant-loop-row : goal.invariant-loop-row
invariant-loop-row l = sound_in l.rate (take l.row-index l.rows) + l.left ≡ 16777216
