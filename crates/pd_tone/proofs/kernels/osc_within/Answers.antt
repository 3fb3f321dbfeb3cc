use Rattle.std.proofs.Common.{arith, ◌*◌}
use Rattle.pd_tone.specs.Cosine.{cosine}
use Rattle.pd_tone.proofs.Blocks.{whole}
use Rattle.pd_tone.proofs.kernels.osc_within.Goals as goal

pub returns-clause-samples : goal.returns-clause-samples
returns-clause-samples c = whole (cosine (c.args.part * 2048)) (c.args.part * 2048) c.loop-i.now c.loop-i.i c.args.input.now c.loop-i.output _ (omega arith) (omega arith) c.loop-i.invariant.samples
