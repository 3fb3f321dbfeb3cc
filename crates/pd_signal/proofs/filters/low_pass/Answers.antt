use Rattle.std.proofs.Common.{arith}
use Rattle.pd_signal.proofs.LoopLemmas.{low_ended}
use Rattle.pd_signal.proofs.filters.low_pass.Goals as goal

pub returns-clause-out : goal.returns-clause-out
returns-clause-out c = low_ended _ c.loop-i.present c.args.x.now c.loop-i.out _ c.loop-i.i (omega arith) (omega (arith, c.loop-i.invariant.len)) c.loop-i.invariant.out
