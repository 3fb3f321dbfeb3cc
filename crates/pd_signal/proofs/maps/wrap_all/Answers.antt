use Rattle.std.proofs.Common.{arith}
use Rattle.pd_signal.proofs.LoopLemmas.{map_ended}
use Rattle.pd_signal.proofs.maps.wrap_all.Goals as goal

pub returns : goal.returns
returns c = map_ended _ c.args.x.now c.loop-i.out _ c.loop-i.i (omega arith) (omega (arith, c.loop-i.invariant.len)) c.loop-i.invariant.out
