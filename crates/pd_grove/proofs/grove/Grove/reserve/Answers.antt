use Rattle.std.proofs.Common.{◌≡◌, ◌≢◌, ℕ, Option, Some, IsSome, refl, sym, ap, ◌∙◌, subst}
use mathlib.Core.Logic.{⊎_elim}
use Rattle.std.proofs.lemmas.Bool.{cases_eq}
use Rattle.slab.specs.Slab.{Slab, get, with_value}
use Rattle.slab.proofs.SlabLemmas.{Updates-with_value}
use Rattle.pd_grove.specs.declared.boards.Board.{Board}
use Rattle.pd_grove.specs.Telling.{keys_in}
use Rattle.pd_grove.proofs.LabelledLemmas.{labels_longer}
use Rattle.pd_grove.proofs.grove.Grove.reserve.Goals as goal

live : (o : Option Board) (b : Board) → o ≡ Some b → IsSome o
live o b e = subst (λ z. IsSome z) (sym e) refl

pub invariant_of-self-2 : goal.invariant_of-self-2
invariant_of-self-2 c =
    let g = c.args.self.now in
    let k = c.args.canvas in
    let s = c.reserve-2.new.self in
    let b = c.index_mut.result.now in
    let after : Board = record { holder = b.holder; depth = b.depth; sheet = b.sheet; nodes = c.reserve-3.new.self } in
    let is : get s k ≡ Some b = c.index_mut.ensures.value in
    let u = Updates-with_value s k after (live (get s k) b is) in
    let same : (x : ℕ) → get s x ≡ get g.boards x = (λ x. ap (λ (v : Slab Board). get v x) c.reserve-2.ensures.rest_kept) in
    let here : keys_in (get (with_value s k after) k) ≡ keys_in (get g.boards k) =
    ap keys_in u.changed ∙ c.reserve-3.ensures.items ∙ sym (ap keys_in is) ∙ ap keys_in (same k) in
    record {
      labelled = labels_longer g.labels c.reach.new.self (get g.boards) (get (with_value s k after)) c.reach.ensures.longer c.reach.ensures.same
          (λ x. ⊎_elim
          (λ (e : x ≡ k). subst (λ y. keys_in (get (with_value s k after) y) ≡ keys_in (get g.boards y)) (sym e) here)
          (λ (d : x ≢ k). ap keys_in (u.others x d) ∙ ap keys_in (same x))
          (cases_eq x k))
          g.labelled;
    }
