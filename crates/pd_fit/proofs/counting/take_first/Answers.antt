use Rattle.std.proofs.Common.{◌++◌, take, drop, sym, ap, ◌∙◌}
use Rattle.std.proofs.Math.Seq.{take-add}
use Rattle.std.proofs.lemmas.List.{drop-drop}
use Rattle.pd_fit.proofs.counting.take_first.Goals as goal

pub loop-preserved : goal.loop-preserved
loop-preserved c =
    let all = c.args.stack.now.items in
    let i = c.loop.counter in (
      c.in_ok-take_one.ensures.taken ∙ ap (λ xs. xs ++ take 1 c.loop.stack.items) c.loop.invariant.0 ∙ ap (λ ys. take i all ++ take 1 ys) c.loop.invariant.1 ∙ sym (take-add i 1 all),
      c.in_ok-take_one.ensures.rest ∙ ap (λ ys. drop 1 ys) c.loop.invariant.1 ∙ drop-drop 1 i all,
    )
