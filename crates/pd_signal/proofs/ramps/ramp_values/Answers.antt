use Rattle.std.proofs.Common.{◌≡◌, ◌∙◌, sym, ap, map, take, arith, rules}
use Rattle.std.specs.List.{range_with_len}
use Rattle.std.proofs.lemmas.List.{take_all}
use Rattle.pd_signal.specs.Ramps.{slope_sample}
use Rattle.pd_signal.proofs.LoopLemmas.{range_more}
use Rattle.pd_signal.proofs.ramps.ramp_values.Goals as goal

pub loop-i-preserved : goal.loop-i-preserved
loop-i-preserved c = record {
  out = range_more _ c.loop-i.out _ c.loop-i.i _ (omega (arith, c.loop-i.invariant.len)) c.sample.ensures c.loop-i.invariant.out;
  len = search rules;
}

pub returns : goal.returns
returns c =
    let all : take c.loop-i.i c.loop-i.out ≡ c.loop-i.out = take_all c.loop-i.i c.loop-i.out (omega (arith, c.loop-i.invariant.len)) in
    let n : c.loop-i.i ≡ 64 = omega arith in
    sym all ∙ (c.loop-i.invariant.out ∙ ap (λ k. map (slope_sample c.args.slope.now) (range_with_len c.args.slope.now.at k)) n)
