use Rattle.std.proofs.Common.{◌≡◌, ◌*◌, ◌++◌, take, drop, length}
use Rattle.pd_mix.specs.Samples.{frames}
use Rattle.pd_mix.proofs.samples.write_channels.Given as goal

abbrev pub invariant-loop-i : goal.invariant-loop-i
invariant-loop-i l = record {
  out : take (4 * l.i) l.out ++ frames (drop l.i l.left) (drop l.i l.right) ≡ frames l.left l.right;
  len : length l.out ≡ 256;
  left : length l.left ≡ 64;
}
