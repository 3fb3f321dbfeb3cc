use Rattle.std.proofs.Common.{◌≡◌, ◌<◌, ◌≤◌, ◌+◌, ◌-◌, ◌*◌, ◌/◌, ◌%◌, ◌^◌, ◌++◌, take, map, length, replicate}
use Rattle.pd_tone.specs.Cosine.{cosine}
use Rattle.pd_tone.specs.Tones.{phases, phase_after}
use Rattle.pd_tone.proofs.kernels.osc_steady.Given as goal

abbrev pub invariant-loop-i : goal.invariant-loop-i
invariant-loop-i l = record {
  room : length l.output ≡ 64;
  within : l.index < 2048;
  word : l.now < 2 ^ 64;
  near : l.now * l.part % 2 ^ 64 ≤ (l.i + 1) * l.part;
  phase : phase_after (l.part * 2048) (l.index * l.part + l.now * l.part / 2 ^ 64) (replicate (64 - l.i) l.fn.step) ≡ phase_after (l.part * 2048) l.phase (replicate 64 l.fn.step);
  samples : take l.i l.output ++ map (cosine (l.part * 2048)) (phases (l.part * 2048) (l.index * l.part + l.now * l.part / 2 ^ 64) (replicate (64 - l.i) l.fn.step))
      ≡ map (cosine (l.part * 2048)) (phases (l.part * 2048) l.phase (replicate 64 l.fn.step));
}
