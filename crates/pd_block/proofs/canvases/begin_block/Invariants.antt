use Rattle.std.proofs.Common.{◌≡◌}
use Rattle.pd_block.specs.Nets.{net_of, sound_of}
use Rattle.pd_block.proofs.BeginLemmas.{begun_below}
use Rattle.pd_block.proofs.canvases.begin_block.Given as goal

abbrev pub invariant-loop-key : goal.invariant-loop-key
invariant-loop-key l = record {
  net : net_of l.patch ≡ net_of l.initial.patch;
  sound : sound_of l.patch ≡ begun_below l.key (sound_of l.initial.patch);
}
