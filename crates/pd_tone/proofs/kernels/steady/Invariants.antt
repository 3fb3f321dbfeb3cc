use Rattle.std.proofs.Common.{◌≡◌, take, replicate}
use Rattle.pd_tone.proofs.kernels.steady.Given as goal

abbrev pub invariant-loop-i : goal.invariant-loop-i
invariant-loop-i l = take l.i l.input ≡ replicate l.i l.first
