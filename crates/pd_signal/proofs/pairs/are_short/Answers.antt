use Rattle.std.proofs.Common.{arith}
use Rattle.std.proofs.lemmas.Nat.{le_or_l, le_or_r}
use Rattle.pd_signal.specs.Shorts.{short_of}
use Rattle.pd_signal.proofs.ShortLemmas.{map_same}
use Rattle.pd_signal.proofs.pairs.are_short.Goals as goal

pub loop-i-preserved : goal.loop-i-preserved
loop-i-preserved c = record {
  same = λ small rest.
      c.loop-i.invariant.same (omega (arith, small, le_or_l c.loop-i.bits c.raised-bits.result))
      (map_same short_of c.args.x.now c.loop-i.i c.index-x-i.result (omega arith) (c.raised-bits.ensures.short (omega (arith, small, le_or_r c.loop-i.bits c.raised-bits.result))) rest);
}
