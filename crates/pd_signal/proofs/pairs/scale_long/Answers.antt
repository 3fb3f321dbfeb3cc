use Rattle.std.proofs.Common.{arith}
use Rattle.pd_num.specs.Scale.{billionths, product_of}
use Rattle.pd_signal.proofs.LoopLemmas.{map_ended}
use Rattle.pd_signal.proofs.pairs.scale_long.Goals as goal

pub returns : goal.returns
returns c = map_ended (λ x. product_of billionths x c.args.factor) c.args.x.now c.loop-i.out _ c.loop-i.i (omega arith) (omega (arith, c.loop-i.invariant.len)) c.loop-i.invariant.out
