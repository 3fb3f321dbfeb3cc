use Rattle.std.proofs.Common.{◌∙◌, ap}
use Rattle.pd_block.specs.Nets.{Sound, sound_of}
use Rattle.pd_block.specs.Blocks.{begun_at}
use Rattle.pd_block.proofs.BeginLemmas.{below_more}
use Rattle.pd_block.proofs.canvases.begin_block.Goals as goal

pub loop-key-preserved : goal.loop-key-preserved
loop-key-preserved c = record {
  net = c.begin_key.ensures.net ∙ c.loop-key.invariant.net;
  sound = below_more (sound_of c.args.patch.now) (sound_of c.begin_key.new.patch) c.loop-key.key
      (c.begin_key.ensures.sound ∙ ap (λ (s : Sound). begun_at s c.loop-key.key) c.loop-key.invariant.sound);
}
