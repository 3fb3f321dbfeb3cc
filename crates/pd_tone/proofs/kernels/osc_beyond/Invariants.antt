use Rattle.std.proofs.Common.{◌≡◌, ◌*◌, ◌++◌, take, drop, map, length}
use Rattle.pd_tone.specs.Cosine.{cosine}
use Rattle.pd_tone.specs.Tones.{phases, phase_after}
use Rattle.pd_tone.proofs.kernels.osc_beyond.Given as goal

abbrev pub invariant-loop-i : goal.invariant-loop-i
invariant-loop-i l = record {
  room : length l.output ≡ 64;
  phase : phase_after (l.part * 2048) l.now (drop l.i l.input) ≡ phase_after (l.part * 2048) l.phase l.input;
  samples : take l.i l.output ++ map (cosine (l.part * 2048)) (phases (l.part * 2048) l.now (drop l.i l.input)) ≡ map (cosine (l.part * 2048)) (phases (l.part * 2048) l.phase l.input);
}
