-- Where a box that has come holds no canvas, no canvas has come.
use Rattle.std.proofs.Common.{arith, ◌≡◌, ◌≢◌, ℕ, zero, suc, ◌+◌, ◌<◌, List, refl, sym, ap, ◌∙◌, subst}
use Rattle.std.specs.Prelude.{Option, Some, None, slice_get}
use Rattle.std.proofs.lemmas.Option.{none-some}
use Rattle.slab.specs.Slab.{get}
use Rattle.pd_grove.specs.declared.nodes.Node.{Node}
use Rattle.pd_grove.specs.declared.boards.Board.{Board}
use Rattle.pd_grove.specs.declared.grove.Grove.{Grove}
use Rattle.pd_grove.specs.Owning.{board_in}
use Rattle.pd_grove.specs.Telling.{keys_in, inner_in}
use Rattle.pd_grove.specs.Standing.{depth_of}
use Rattle.pd_grove.specs.Forest.{IsForest, holder_in}
use Rattle.pd_grove.specs.Grafts.{HasPartMore}
use Rattle.pd_placing.proofs.GroveLemmas.{live_or_none}

some_of : (o : Option ℕ) → o ≢ None → (x : ℕ) × (o ≡ Some x)
some_of None h = absurd (h refl)
some_of (Some x) h = (x, refl)

home_of : (o : Option Node) (j : ℕ) → inner_in o ≡ Some j → (x : ℕ) × (board_in o ≡ Some x)
home_of None j h = absurd (none-some j h)
home_of (Some n) j h = (n.board, refl)

module _ (nodes nodes' : ℕ → Option Node) (boards boards' : ℕ → Option Board) (root c k : ℕ) (before behind : List ℕ) (F : IsForest nodes boards root)
    (P : HasPartMore nodes nodes' boards boards' c k before behind) (leaf : inner_in (nodes' k) ≡ None) where
  -- a canvas that came would lie in another one that came, and so on without an end
  none_below : (m d : ℕ) → depth_of (boards' d) < m → boards d ≡ None → boards' d ≡ None
  none_below zero d low none = absurd (omega (arith, low))
  none_below (suc m) d low none = live_or_none (boards' d) (λ e. e) (λ s.
      let at = some_of (holder_in (boards' d)) (P.closed d none s) in
      let l = at.0 in
      let inner : inner_in (nodes' l) ≡ Some d = P.held d l none at.1 in
      live_or_none (nodes l)
      (λ e.
      let differ : l ≢ k = (λ (same : l ≡ k). none-some d (sym leaf ∙ ap (λ y. inner_in (nodes' y)) (sym same) ∙ inner)) in
      let home = home_of (nodes' l) d inner in
      let p = P.placed l home.0 e differ home.1 in
      let deep : depth_of (boards' d) ≡ depth_of (boards' home.0) + 1 = P.deeper l home.0 d e home.1 inner in
      let above : boards' home.0 ≡ None = none_below m home.0 (omega (arith, low, deep)) p.0 in
      absurd (none-some l (sym (ap (λ (b : Option Board). slice_get (keys_in b) p.1) above) ∙ p.2)))
      (λ t.
      let was : inner_in (nodes l) ≡ Some d = sym (ap inner_in (P.boxes_stay l t)) ∙ inner in
      absurd (none-some l (sym (ap holder_in none) ∙ F.inside l d was))))

  pub none_new : (d : ℕ) → boards d ≡ None → boards' d ≡ None
  none_new d none = none_below (suc (depth_of (boards' d))) d (omega arith) none
