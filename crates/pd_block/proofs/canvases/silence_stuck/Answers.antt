use Rattle.std.proofs.Common.{◌∙◌}
use Rattle.pd_block.specs.Nets.{net_of, sound_of}
use Rattle.pd_block.proofs.WalkLemmas.{stuck_step}
use Rattle.pd_block.proofs.canvases.silence_stuck.Goals as goal

pub loop-place-preserved : goal.loop-place-preserved
loop-place-preserved c = record {
  net = c.silence_place.ensures.net ∙ c.loop-place.invariant.net;
  sound = stuck_step (net_of c.args.patch.now) (net_of c.loop-place.patch) c.args.canvas c.loop-place.place (sound_of c.args.patch.now) (sound_of c.loop-place.patch)
      (sound_of c.silence_place.new.patch) c.loop-place.invariant.net c.loop-place.invariant.sound c.silence_place.ensures.sound;
}
