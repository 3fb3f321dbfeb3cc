use Rattle.std.proofs.Common.{◌≡◌, ◌∙◌, sym, ap, take, replicate, arith}
use Rattle.std.proofs.lemmas.List.{take_all}
use Rattle.pd_signal.proofs.maps.fill.Goals as goal

pub returns : goal.returns
returns c =
    let all : take c.loop-x.x-index c.loop-x.out ≡ c.loop-x.out = take_all c.loop-x.x-index c.loop-x.out (omega (arith, c.loop-x.invariant.len)) in
    let n : c.loop-x.x-index ≡ 64 = omega arith in
    sym all ∙ (c.loop-x.invariant.out ∙ ap (λ k. replicate k c.args.value) n)
