use Rattle.std.proofs.Common.{◌≡◌, take}
use Rattle.pd_block.specs.Nets.{net_of, sound_of, stuck_at}
use Rattle.pd_block.specs.Blocks.{each, silenced}
use Rattle.pd_block.proofs.canvases.silence_stuck.Given as goal

abbrev pub invariant-loop-place : goal.invariant-loop-place
invariant-loop-place l = record {
  net : net_of l.patch ≡ net_of l.initial.patch;
  sound : sound_of l.patch ≡ each silenced (sound_of l.initial.patch) (take l.place (stuck_at (net_of l.initial.patch) l.canvas));
}
