use Rattle.std.proofs.Common.{arith}
use Rattle.std.proofs.lemmas.Nat.{le_or_l, le_or_r}
use Rattle.pd_num.specs.Scale.{billionths, sum_of}
use Rattle.pd_mix.specs.Sums.{short_sum}
use Rattle.pd_mix.proofs.SumLemmas.{zip_same}
use Rattle.pd_mix.proofs.sums.are_small.Goals as goal

pub loop-i-preserved : goal.loop-i-preserved
loop-i-preserved c = record {
  same = λ small rest.
      c.loop-i.invariant.same (omega (arith, small, le_or_l c.loop-i.bits c.raised-bits.result))
      (zip_same short_sum (sum_of billionths) c.args.x.now c.args.y.now c.loop-i.i c.index-x-i.result c.index-y-i.result (omega arith) (omega arith)
      (c.raised-bits.ensures.short (omega (arith, small, le_or_r c.loop-i.bits c.raised-bits.result))) rest);
}
