use Rattle.std.proofs.Common.{arith}
use Rattle.pd_signal.proofs.LoopLemmas.{zip_ended}
use Rattle.pd_signal.proofs.pairs.add_all.Goals as goal

pub returns : goal.returns
returns c = zip_ended _ c.args.x.now c.args.y.now c.loop-i.out _ c.loop-i.i (omega arith) (omega (arith, c.loop-i.invariant.len)) c.loop-i.invariant.out
