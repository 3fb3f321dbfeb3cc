use Rattle.std.proofs.Common.{arith}
use Rattle.pd_signal.proofs.LoopLemmas.{kept_ended}
use Rattle.pd_signal.proofs.filters.keep_all.Goals as goal

pub returns-clause-out : goal.returns-clause-out
returns-clause-out c =
    kept_ended c.loop-i.before c.loop-i.value c.args.x.now c.args.y.now c.loop-i.out _ c.loop-i.i (omega arith) (omega (arith, c.loop-i.invariant.len)) c.loop-i.invariant.out
