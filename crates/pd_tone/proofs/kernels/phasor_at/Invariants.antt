use Rattle.std.proofs.Common.{◌≡◌, ◌*◌, ◌++◌, take, drop, map, length}
use Rattle.pd_tone.specs.Tones.{phases, phase_after, share}
use Rattle.pd_tone.proofs.kernels.phasor_at.Given as goal

abbrev pub invariant-loop-i : goal.invariant-loop-i
invariant-loop-i l = record {
  room : length l.output ≡ 64;
  phase : phase_after (l.hertz * 1000000000) l.now (drop l.i l.input) ≡ phase_after (l.hertz * 1000000000) l.phase l.input;
  samples : take l.i l.output ++ map (share l.hertz) (phases (l.hertz * 1000000000) l.now (drop l.i l.input)) ≡ map (share l.hertz) (phases (l.hertz * 1000000000) l.phase l.input);
}
