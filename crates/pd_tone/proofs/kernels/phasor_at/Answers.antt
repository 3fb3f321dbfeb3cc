use Rattle.std.proofs.Common.{arith, ◌*◌}
use Rattle.pd_tone.specs.Tones.{share}
use Rattle.pd_tone.proofs.Blocks.{whole}
use Rattle.pd_tone.proofs.kernels.phasor_at.Goals as goal

pub returns-clause-samples : goal.returns-clause-samples
returns-clause-samples c = whole (share c.args.hertz) (c.args.hertz * 1000000000) c.loop-i.now c.loop-i.i c.args.input.now c.loop-i.output _ (omega arith) (omega arith) c.loop-i.invariant.samples
