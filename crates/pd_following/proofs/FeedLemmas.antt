-- Feeds stay in order where a box has one port more.
use Rattle.std.proofs.Common.{◌≡◌, ◌≢◌, ℕ, zero, suc, Bool, cond, List, [], ◌∷◌, map, slice_get, Some, inl, inr, eq-eqb, refl, sym, ap, ◌∙◌, subst, arith}
use Rattle.std.proofs.lemmas.Bool.{cases_eq}
use Rattle.std.proofs.lemmas.Option.{none-some, same_Some}
use Rattle.pd_grove.specs.declared.ports.Side.{Side}
use Rattle.pd_grove.specs.declared.ports.Side.TheVariants.{Inlets, Outlets}
use Rattle.pd_web.specs.declared.jacks.Jack.{Jack}
use Rattle.pd_web.specs.declared.web.Hop.{Hop}
use Rattle.pd_web.specs.declared.web.Web.{Web}
use Rattle.pd_web.specs.Hops.{feed_hops}
use Rattle.pd_seek.specs.Places.{label_at, AreInOrder, IsNoLater}
use Rattle.pd_moving.specs.Orders.{AreAllInOrder, HasOwnLabel}
use Rattle.pd_following.specs.Raising.{up, raised, Raises}
use Rattle.pd_following.proofs.ListLemmas.{up_or, up_order}
use Rattle.pd_following.proofs.RaiseLemmas.{differ_test}

-- an element of a mapped list is that of one of the list
pub mapped_from : {X Y : Type 0} (f : X → Y) (xs : List X) (i : ℕ) (y : Y) → slice_get (map f xs) i ≡ Some y → (x : X) × (slice_get xs i ≡ Some x) × (f x ≡ y)
mapped_from f [] i y e = absurd (none-some y e)
mapped_from f (x ∷ xs) zero y e = (x, refl, same_Some (f x) y e)
mapped_from f (x ∷ xs) (suc i) y e = mapped_from f xs i y e

pub none_ordered : (labels : List ℕ) (feeds : List Hop) → feeds ≡ [] → AreInOrder labels feeds
none_ordered labels feeds none i j g h l a b = absurd (none-some g (ap (λ (hops : List Hop). slice_get hops i) (sym none) ∙ a))

module _ (w w' : Web) (key at : ℕ) (jack : Jack) (labels : List ℕ) where
  inlets_ordered : Raises w w' key Inlets at jack → AreAllInOrder labels w → AreAllInOrder labels w'
  inlets_ordered X order n i = elim (cases_eq n key) [
    | inr d ↦ subst (AreInOrder labels) (sym (X.others n i d)) (order n i)
    | inl e ↦ elim (up_or at i) [
      | inl new ↦ none_ordered labels (feed_hops w' n i) (ap (λ x. feed_hops w' x i) e ∙ ap (feed_hops w' key) new ∙ X.came)
      | inr o ↦ subst (AreInOrder labels) (sym (ap (λ x. feed_hops w' x i) e ∙ ap (feed_hops w' key) o.1 ∙ X.own o.0)) (order key o.0)
    ]
  ]

  pub raised_later : (g h : Hop) → ((label_at labels g.node ≡ label_at labels key → g.node ≡ key)) → ((label_at labels h.node ≡ label_at labels key → h.node ≡ key)) → IsNoLater labels g h
      → IsNoLater labels (raised key at g) (raised key at h)
  raised_later g h own also (inl less) = inl less
  raised_later g h own also (inr same) = inr (
    same.0,
    elim (cases_eq g.node key) [
      | inl e ↦
          let f : h.node ≡ key = also (sym same.0 ∙ ap (label_at labels) e) in
          let a = ap (λ (b : Bool). cond b (up at g.port) g.port) (eq-eqb g.node key e) in
          let b = ap (λ (b : Bool). cond b (up at h.port) h.port) (eq-eqb h.node key f) in
          let u = up_order at g.port h.port same.1 in
          omega (arith, a, b, u)
      | inr d ↦
          let f : h.node ≢ key = (λ e. d (own (same.0 ∙ ap (label_at labels) e))) in
          let a = ap (λ (b : Bool). cond b (up at g.port) g.port) (differ_test g.node key d) in
          let b = ap (λ (b : Bool). cond b (up at h.port) h.port) (differ_test h.node key f) in
          let l = same.1 in
          omega (arith, a, b, l)
    ],
  )

  outlets_ordered : Raises w w' key Outlets at jack → HasOwnLabel labels w key → AreAllInOrder labels w → AreAllInOrder labels w'
  outlets_ordered X own order n i = subst (AreInOrder labels) (sym (X.across n i)) (λ p q g' h' l a b.
      let g = mapped_from (raised key at) (feed_hops w n i) p g' a in
      let h = mapped_from (raised key at) (feed_hops w n i) q h' b in
      subst (λ (x : Hop). IsNoLater labels x h') g.2 (subst (λ (x : Hop). IsNoLater labels (raised key at g.0) x) h.2
      (raised_later g.0 h.0 (own n i p g.0 g.1) (own n i q h.0 h.1) (order n i p q g.0 h.0 l g.1 h.1))))

pub feeds_raised : (w w' : Web) (key : ℕ) (side : Side) (at : ℕ) (jack : Jack) (labels : List ℕ) → Raises w w' key side at jack → HasOwnLabel labels w key → AreAllInOrder labels w → AreAllInOrder labels w'
feeds_raised w w' key Inlets at jack labels X own order = inlets_ordered w w' key at jack labels X order
feeds_raised w w' key Outlets at jack labels X own order = outlets_ordered w w' key at jack labels X own order
