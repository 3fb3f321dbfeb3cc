use Rattle.std.proofs.Common.{◌≡◌, ℕ, List, length, Option, sym, ◌∙◌, subst, arith}
use Rattle.slab.specs.Slab.{get}
use Rattle.pd_grove.specs.Telling.{keys_in}
use Rattle.pd_grove.specs.Pruning.{LiesInOf, IsInsideOf, LiesInFirst, IsPartOfFirst, AreThere, Leave}
use Rattle.pd_grove.proofs.PruningLemmas.{loses_one, gains_then, element_at, first_then, next_there, first_all, box_goes, box_gone, canvas_goes, canvas_gone, none_goes}
use Rattle.pd_grove.proofs.prunes.+pruning.Goals as goal

pub prune_boxes-loop-key-preserved : goal.prune_boxes-loop-key-preserved
prune_boxes-loop-key-preserved t c =
    let p = c.prune_box.ensures in
    let I = c.loop-key.invariant in
    let n₀ = get c.args.nodes.now in
    let n₁ = get c.loop-key.nodes in
    let n₂ = get c.prune_box.new.nodes in
    let b₀ = get c.args.boards.now in
    let b₁ = get c.loop-key.boards in
    let b₂ = get c.prune_box.new.boards in
    let ks = c.args.keys.now in
    let n = c.loop-key.key-index in
    let at = element_at ks n c.loop-key-test.true in
    record {
      leave = λ ns bs root x F is T.
          let L = I.leave ns bs root x F is T in
          first_then ns n₀ n₁ n₂ bs b₀ b₁ b₂ root x n _ F ks is at L (p.leave ns bs root F (next_there ns n₀ n₁ bs b₀ b₁ root x n _ _ F ks is at c.loop-key-test.true T L));
      no_box_comes = gains_then n₀ n₁ n₂ I.no_box_comes p.no_box_comes;
      no_canvas_comes = gains_then b₀ b₁ b₂ I.no_canvas_comes p.no_canvas_comes;
      nodes_len = (let x = I.nodes_len in let y = p.nodes_len in omega (arith, x, y));
      boards_len = (let x = I.boards_len in let y = p.boards_len in omega (arith, x, y));
      nodes_capacity = p.nodes_capacity ∙ I.nodes_capacity;
      boards_capacity = p.boards_capacity ∙ I.boards_capacity;
    }

pub prune_boxes-returns-clause-leave : goal.prune_boxes-returns-clause-leave
prune_boxes-returns-clause-leave t c = λ ns bs root x F is T.
    first_all ns (get c.args.nodes.now) (get c.loop-key.nodes) bs (get c.args.boards.now) (get c.loop-key.boards) c.args.keys.now c.loop-key.key-index c.loop-key-test.false (c.loop-key.invariant.leave ns bs root x F is T)

pub prune_box-returns-in-Some-clause-leave : goal.prune_box-returns-in-Some-clause-leave
prune_box-returns-in-Some-clause-leave t c = λ ns bs root F T.
    let u = c.try_remove.ensures.updates in
    let n₀ = get c.args.nodes.now in
    let n₁ = get c.try_remove.new.self in
    box_goes ns n₀ n₁ (get c.prune_inside.new.nodes) bs (get c.args.boards.now) (get c.prune_inside.new.boards) root c.args.key c.in-Some.node F T
    (sym c.try_remove.ensures.value ∙ c.in-Some.is) (loses_one n₀ n₁ c.args.key u.changed u.others) (λ H. c.prune_inside.ensures.leave ns bs root F H)

pub prune_box-returns-in_default-clause-leave : goal.prune_box-returns-in_default-clause-leave
prune_box-returns-in_default-clause-leave t c = λ ns bs root F T.
    let u = c.try_remove.ensures.updates in
    let n₀ = get c.args.nodes.now in
    let n₁ = get c.try_remove.new.self in
    box_gone ns n₀ n₁ bs (get c.args.boards.now) c.args.key T (sym c.try_remove.ensures.value ∙ c.in_default.is) (loses_one n₀ n₁ c.args.key u.changed u.others)

pub prune_inside-returns-in-Some-clause-leave : goal.prune_inside-returns-in-Some-clause-leave
prune_inside-returns-in-Some-clause-leave t c = λ ns bs root F T.
    let P : Option ℕ → Type 0 = λ o. AreThere ns (get c.args.nodes.now) bs (get c.args.boards.now) (LiesInOf ns bs o) (IsInsideOf ns bs o) in
    let Q : Option ℕ → Type 0 = λ o. Leave (get c.args.nodes.now) (get c.prune_canvas.new.nodes) (get c.args.boards.now) (get c.prune_canvas.new.boards) (LiesInOf ns bs o) (IsInsideOf ns bs o) in
    subst Q (sym c.in-Some.is) (c.prune_canvas.ensures.leave ns bs root F (subst P c.in-Some.is T))

pub prune_inside-returns-in_default-clause-leave : goal.prune_inside-returns-in_default-clause-leave
prune_inside-returns-in_default-clause-leave t c = λ ns bs root F T.
    let n = get c.args.nodes.now in
    let b = get c.args.boards.now in
    let Q : Option ℕ → Type 0 = λ o. Leave n n b b (LiesInOf ns bs o) (IsInsideOf ns bs o) in
    subst Q (sym c.in_default.is) (none_goes ns n bs b)

pub prune_canvas-returns-in-Some-clause-leave : goal.prune_canvas-returns-in-Some-clause-leave
prune_canvas-returns-in-Some-clause-leave t c = λ ns bs root F T.
    let u = c.try_remove.ensures.updates in
    let n₀ = get c.args.nodes.now in
    let n₁ = get c.prune_boxes.new.nodes in
    let b₀ = get c.args.boards.now in
    let b₁ = get c.try_remove.new.self in
    let b₂ = get c.prune_boxes.new.boards in
    let k = c.args.canvas in
    let P : List ℕ → Type 0 = λ ks. ks ≡ keys_in (bs k) → AreThere ns n₀ bs b₁ (LiesInFirst ns bs ks (length ks)) (IsPartOfFirst ns bs ks (length ks))
    → Leave n₀ n₁ b₁ b₂ (LiesInFirst ns bs ks (length ks)) (IsPartOfFirst ns bs ks (length ks)) in
    canvas_goes ns n₀ n₁ bs b₀ b₁ b₂ root k c.in-Some.board F T (sym c.try_remove.ensures.value ∙ c.in-Some.is) (loses_one b₀ b₁ k u.changed u.others)
    (subst P c.as_slice.ensures.value (λ is H. c.prune_boxes.ensures.leave ns bs root k F is H))

pub prune_canvas-returns-in_default-clause-leave : goal.prune_canvas-returns-in_default-clause-leave
prune_canvas-returns-in_default-clause-leave t c = λ ns bs root F T.
    let u = c.try_remove.ensures.updates in
    let b₀ = get c.args.boards.now in
    let b₁ = get c.try_remove.new.self in
    canvas_gone ns (get c.args.nodes.now) bs b₀ b₁ root c.args.canvas F T (sym c.try_remove.ensures.value ∙ c.in_default.is) (loses_one b₀ b₁ c.args.canvas u.changed u.others)
