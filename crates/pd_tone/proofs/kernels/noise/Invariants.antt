use Rattle.std.proofs.Common.{◌≡◌, ◌-◌, ◌++◌, take, map, length}
use Rattle.pd_tone.specs.Tones.{seeds, seed_after, noise}
use Rattle.pd_tone.proofs.kernels.noise.Given as goal

abbrev pub invariant-loop-i : goal.invariant-loop-i
invariant-loop-i l = record {
  room : length l.output ≡ 64;
  seed : seed_after (64 - l.i) l.now ≡ seed_after 64 l.seed;
  samples : take l.i l.output ++ map noise (seeds (64 - l.i) l.now) ≡ map noise (seeds 64 l.seed);
}
