use Rattle.std.proofs.Common.{◌≡◌, ◌+◌, ◌-◌, ◌≤◌, ℕ, List, ◌++◌, drop, sym, ap, ◌∙◌, subst}
use Rattle.std.proofs.lemmas.List.{drop_more, drop_all}
use Rattle.std.specs.Option.{option_copied}
use Rattle.slab.specs.Slab.{get}
use Rattle.pd_tree.specs.Trees.{Trees, zeros_in}
use Rattle.pd_grove.specs.Standing.{Stands}
use Rattle.pd_grove.specs.TextOrder.{deep}
use Rattle.pd_grove.proofs.TextOrders.{Told, told_next, told_end, box_told}
use Rattle.pd_grove.proofs.text_order.+zeros.Goals as goal

pub push_zeros-loop-key-preserved : goal.push_zeros-loop-key-preserved
push_zeros-loop-key-preserved t c = λ b d u S l.
    let P : List ℕ → Type 0 = λ ks. Told (get c.args.nodes.now) (get c.args.boards.now) b d ks c.args.left c.args.zeros.now.items c.loop-key.zeros.items u in
    told_next (get c.args.nodes.now) (get c.args.boards.now) b d _ (drop (c.loop-key.key-index + 1) c.args.keys.now) c.args.left c.args.zeros.now.items c.loop-key.zeros.items c.push_zeros_at.new.zeros.items u
    (λ v T m. c.in_ok-push_zeros_at.ensures b d v T m)
    (subst P (drop_more c.args.keys.now c.loop-key.key-index 0 c.loop-key-test.true) (c.loop-key.invariant b d u S l))

pub push_zeros-returns : goal.push_zeros-returns
push_zeros-returns t c = λ b d u S l.
    let P : List ℕ → Type 0 = λ ks. Told (get c.args.nodes.now) (get c.args.boards.now) b d ks c.args.left c.args.zeros.now.items c.loop-key.zeros.items u in
    told_end (get c.args.nodes.now) (get c.args.boards.now) b d c.args.left c.args.zeros.now.items c.loop-key.zeros.items u
    (subst P (drop_all c.loop-key.key-index c.args.keys.now c.loop-key-test.false) (c.loop-key.invariant b d u S l))

pub push_zeros_at-returns-in_ok-push_zeros : goal.push_zeros_at-returns-in_ok-push_zeros
push_zeros_at-returns-in_ok-push_zeros t c = λ b d u S l.
    let Q : List ℕ → Type 0 = λ ks. (b' d' : ℕ) (t' : Trees) → Stands (get c.args.nodes.now) (get c.args.boards.now) b' d' ks t' → deep t' ≤ c.args.left - 1 → c.push_zeros.new.zeros.items ≡ c.push_own.new.zeros.items ++ zeros_in t' in
    box_told (get c.args.nodes.now) (get c.args.boards.now) b d c.args.key c.in-Some-inner.inner c.args.left c.in-Some.node.now c.in-Some-get.board.now c.args.zeros.now.items c.push_own.new.zeros.items c.push_zeros.new.zeros.items u
    (sym c.get.ensures ∙ ap option_copied c.in-Some.is) c.in-Some-inner.is (sym c.get-2.ensures ∙ ap option_copied c.in-Some-get.is) S l c.in_ok-push_own.ensures (subst Q c.as_slice.ensures.value (λ b' d' t' S' l'. c.in_ok-push_zeros.ensures b' d' t' S' l'))
