-- Orders where a box has come into a canvas, has gone from it, or has become another.
use Rattle.std.proofs.Common.{arith, ◌≡◌, ◌≢◌, ℕ, zero, suc, ◌+◌, ◌<◌, ◌≤◌, List, [], ◌∷◌, ◌++◌, length, refl, sym, ap, ◌∙◌, subst, inl, inr}
use Rattle.std.specs.Prelude.{Option, Some, None, IsSome, slice_get}
use Rattle.std.proofs.lemmas.Bool.{cases_eq}
use Rattle.std.proofs.lemmas.Option.{none-some, same_Some}
use Rattle.slab.specs.Slab.{get}
use Rattle.pd_order.specs.Graph.{tally, take_out}
use Rattle.pd_order.specs.Listing.{Listing}
use Rattle.pd_order.proofs.Basics.{tally-append}
use Rattle.pd_links.specs.declared.links.Links.{Links}
use Rattle.pd_grove.specs.declared.nodes.Node.{Node}
use Rattle.pd_grove.specs.declared.boards.Board.{Board}
use Rattle.pd_grove.specs.declared.grove.Grove.{Grove}
use Rattle.pd_grove.specs.declared.seeds.Seed.{Seed}
use Rattle.pd_grove.specs.Owning.{board_in}
use Rattle.pd_grove.specs.Telling.{keys_in, inner_in}
use Rattle.pd_grove.specs.Forest.{IsForest}
use Rattle.pd_grove.specs.Grafts.{HasPartMore, TakesBox}
use Rattle.pd_grove.specs.Refits.{Refits}
use Rattle.pd_web.specs.Canvases.{keys_at}
use Rattle.pd_patch.specs.Listing.{IsThere}
use Rattle.pd_patch.specs.Orders.{is_signal_node}
use Rattle.pd_patch.specs.Telling.{order_in}
use Rattle.pd_patch.proofs.ListingLemmas.{place_in, counted_at}
use Rattle.pd_patch.proofs.CanvasLemmas.{once_apart}
use Rattle.pd_wiring.specs.Graphs.{canvas_graph, signal_boxes, AreOrderedBy}
use Rattle.pd_placing.specs.Placing.{IsOrdered, LacksBox, AreOrderedBut}
use Rattle.pd_placing.specs.Groves.{AreBothOwn, IsAlikeBut, IsAlike}
use Rattle.pd_placing.proofs.ListLemmas.{away_stays, between_out, fewer_left, out_gone}
use Rattle.pd_placing.proofs.LeafLemmas.{none_new}
use Rattle.pd_placing.proofs.GroveLemmas.{order_live, live_order, order_none, live_or_none, lives, box_lives, none_there, none_signal, lacks_none, none_lacks, carried_but, carried_whole, carried_canvas}

-- a key that isn't in a list isn't in its front
none_before : (k : ℕ) (xs ys zs : List ℕ) → zs ≡ xs ++ ys → tally k zs ≡ 0 → tally k xs ≡ 0
none_before k xs ys zs e h = let a = ap (tally k) e ∙ tally-append k xs ys in omega (arith, a, h)

-- what is left of a list stands in it
left_there : (k x : ℕ) (xs : List ℕ) → 0 < tally x (take_out k xs) → IsThere xs x
left_there k x xs l = let f = fewer_left k x xs in place_in x xs (omega (arith, l, f))

same_node : (a b : Option Node) → a ≡ b → is_signal_node a ≡ is_signal_node b
same_node a b e = ap is_signal_node e

-- A box has come.

module _ (g h : Grove) (l : Links) (c k : ℕ) (before behind : List ℕ) (O : AreBothOwn g h) (P : HasPartMore (get g.nodes) (get h.nodes) (get g.boards) (get h.boards) c k before behind) where
  comes_new : tally k (keys_at g c) ≡ 0
  comes_new = none_there k (keys_at g c) (λ at. none-some c (sym (ap board_in P.vacant) ∙ O.one.home c at.0 k at.1))

  comes_signal : (d x : ℕ) → IsThere (keys_at g d) x → is_signal_node (get h.nodes x) ≡ is_signal_node (get g.nodes x)
  comes_signal d x at = same_node (get h.nodes x) (get g.nodes x) (P.boxes_stay x (box_lives (get g.nodes x) d (O.one.home d at.0 x at.1)))

  comes_alike : IsAlikeBut g h c k
  comes_alike =
      let was : take_out k (keys_at g c) ≡ keys_at g c = away_stays k (keys_at g c) comes_new in
      let front : tally k before ≡ 0 = none_before k before behind (keys_at g c) P.had comes_new in
      record {
        keys = ap (take_out k) P.has ∙ between_out k before behind front ∙ sym P.had ∙ sym was;
        signal = λ x at. comes_signal c x (subst (λ (ys : List ℕ). IsThere ys x) was at);
      }

  pub comes_canvas : (orders : List (Option Listing)) → IsOrdered g l orders c → LacksBox h l orders c k
  comes_canvas orders o = carried_but g h l c O k orders comes_alike
      (lacks_none g l c k orders (none_signal g c k comes_new) (order_live (canvas_graph g l c) (signal_boxes g c) (get g.boards c) (order_in orders c) P.live o))

  pub comes_other : (orders : List (Option Listing)) (d : ℕ) → d ≢ c → (get g.boards d ≡ None → get h.boards d ≡ None) → IsOrdered g l orders d → IsOrdered h l orders d
  comes_other orders d differ none o = carried_canvas g h l d O orders
      (live_or_none (get g.boards d) (λ e. none e ∙ sym e) (λ s. P.canvases_stay d differ s)) (comes_signal d) o

  pub comes_all : (orders : List (Option Listing)) → ((d : ℕ) → get g.boards d ≡ None → get h.boards d ≡ None) → AreOrderedBy g l orders → AreOrderedBut h l orders c k
  comes_all orders none o = record { lacks = comes_canvas orders (o c); others = λ d differ. comes_other orders d differ (none d) (o d) }

  -- where the box holds no canvas, none has come with it
  pub comes_leaf : (orders : List (Option Listing)) (root : ℕ) → IsForest (get g.nodes) (get g.boards) root → inner_in (get h.nodes k) ≡ None → AreOrderedBy g l orders → AreOrderedBut h l orders c k
  comes_leaf orders root F leaf o = comes_all orders (none_new (get g.nodes) (get h.nodes) (get g.boards) (get h.boards) root c k before behind F P leaf) o

-- A box has gone.

module _ (g h : Grove) (l : Links) (c k : ℕ) (n : Node) (before behind : List ℕ) (O : AreBothOwn g h) (T : TakesBox (get g.nodes) (get h.nodes) (get g.boards) (get h.boards) c k n before behind) where
  goes_had : keys_at g c ≡ before ++ k ∷ behind
  goes_had = ap keys_in T.board ∙ T.had

  goes_has : keys_at h c ≡ before ++ behind
  goes_has = ap keys_in T.without ∙ T.has

  goes_away : tally k (keys_at h c) ≡ 0
  goes_away = none_there k (keys_at h c) (λ at. none-some c (sym (ap board_in T.gone) ∙ O.other.home c at.0 k at.1))

  goes_signal : (d x : ℕ) → IsThere (keys_at h d) x → is_signal_node (get h.nodes x) ≡ is_signal_node (get g.nodes x)
  goes_signal d x at = same_node (get h.nodes x) (get g.nodes x) (T.none_comes x (box_lives (get h.nodes x) d (O.other.home d at.0 x at.1)))

  goes_alike : IsAlikeBut g h c k
  goes_alike =
      let front : tally k before ≡ 0 = none_before k before behind (keys_at h c) goes_has goes_away in
      let left : take_out k (keys_at g c) ≡ keys_at h c = ap (take_out k) goes_had ∙ between_out k before behind front ∙ sym goes_has in
      record {
        keys = away_stays k (keys_at h c) goes_away ∙ sym left;
        signal = λ x at. goes_signal c x (subst (λ (ys : List ℕ). IsThere ys x) left at);
      }

  pub goes_canvas : (orders : List (Option Listing)) → LacksBox g l orders c k → IsOrdered h l orders c
  goes_canvas orders lacks =
      let live : IsSome (get h.boards c) = subst (λ (b : Option Board). IsSome b) (sym T.without) refl in
      live_order (canvas_graph h l c) (signal_boxes h c) (get h.boards c) (order_in orders c) live
      (none_lacks h l c k orders (none_signal h c k goes_away) (carried_but g h l c O k orders goes_alike lacks))

  pub goes_other : (orders : List (Option Listing)) (d : ℕ) → d ≢ c → (get h.boards d ≡ None → order_in orders d ≡ None) → (IsSome (get h.boards d) → IsOrdered g l orders d) → IsOrdered h l orders d
  goes_other orders d differ none o = live_or_none (get h.boards d)
      (λ e. order_none (canvas_graph h l d) (signal_boxes h d) (get h.boards d) (order_in orders d) e (none e))
      (λ s. let e : get h.boards d ≡ get g.boards d = T.no_canvas_comes d differ s in
      carried_canvas g h l d O orders e (λ x at. goes_signal d x (subst (λ (ys : List ℕ). IsThere ys x) (sym (ap keys_in e)) at)) (o s))

  pub goes_all : (orders : List (Option Listing)) → LacksBox g l orders c k → ((d : ℕ) → get h.boards d ≡ None → order_in orders d ≡ None)
      → ((d : ℕ) → d ≢ c → IsSome (get h.boards d) → IsOrdered g l orders d) → AreOrderedBy h l orders
  goes_all orders lacks none others d = elim (cases_eq d c) [
    | inl same ↦ subst (λ (x : ℕ). IsOrdered h l orders x) (sym same) (goes_canvas orders lacks)
    | inr differ ↦ goes_other orders d differ (none d) (others d differ)
  ]

  -- where the box held no canvas, none goes with it
  pub goes_leaf : (orders : List (Option Listing)) → inner_in (get g.nodes k) ≡ None → AreOrderedBut g l orders c k → AreOrderedBy h l orders
  goes_leaf orders leaf o d = elim (cases_eq d c) [
    | inl same ↦ subst (λ (x : ℕ). IsOrdered h l orders x) (sym same) (goes_canvas orders o.lacks)
    | inr differ ↦
        let e : get h.boards d ≡ get g.boards d = T.boards_stay d differ (λ L. none-some L.0 (sym leaf ∙ L.1)) in
        carried_canvas g h l d O orders e (λ x at. goes_signal d x (subst (λ (ys : List ℕ). IsThere ys x) (sym (ap keys_in e)) at)) (o.others d differ)
  ]

-- A box has become another.

module _ (g h : Grove) (l : Links) (c k : ℕ) (n : Node) (before behind : List ℕ) (seeds rest : List Seed) (O : AreBothOwn g h)
    (R : Refits (get g.nodes) (get h.nodes) (get g.boards) (get h.boards) c k n before behind seeds rest) where
  changes_keys : keys_at h c ≡ keys_at g c
  changes_keys = R.put.has ∙ sym (ap keys_in R.taken.board ∙ R.taken.had)

  -- a box of a canvas that was there all the time was there all the time
  changes_there : (d x : ℕ) → x ≢ k → IsSome (R.boards_left d) → IsThere (keys_at h d) x → get h.nodes x ≡ get g.nodes x
  changes_there d x differ live at = live_or_none (R.nodes_left x)
      (λ e. let p = R.put.placed x d e differ (O.other.home d at.0 x at.1) in absurd (gone (R.boards_left d) p.0 live))
      (λ s. R.put.boxes_stay x s ∙ R.taken.none_comes x s) where
        gone : (b : Option Board) → b ≡ None → IsSome b → ⊥
        gone None e s = absurd (cc)
        gone (Some b) e s = none-some b (sym e)

  changes_live : IsSome (R.boards_left c)
  changes_live = subst (λ (b : Option Board). IsSome b) (sym R.taken.without) refl

  changes_signal : (x : ℕ) → x ≢ k → IsThere (keys_at g c) x → is_signal_node (get h.nodes x) ≡ is_signal_node (get g.nodes x)
  changes_signal x differ at = same_node (get h.nodes x) (get g.nodes x) (changes_there c x differ changes_live (subst (λ (ys : List ℕ). IsThere ys x) (sym changes_keys) at))

  changes_alike : IsAlikeBut g h c k
  changes_alike = record {
    keys = ap (take_out k) changes_keys;
    signal = λ x at.
        let l = counted_at x (take_out k (keys_at g c)) at.0 at.1 in
        changes_signal x (λ e. other x l e) (left_there k x (keys_at g c) l);
  } where
    other : (x : ℕ) → 0 < tally x (take_out k (keys_at g c)) → x ≡ k → ⊥
    other x l e =
        let m : 0 < tally k (take_out k (keys_at g c)) = subst (λ (y : ℕ). 0 < tally y (take_out k (keys_at g c))) e l in
        let none = out_gone k (keys_at g c) (once_apart (keys_at g c) (O.one.once c) k) in absurd (omega (arith, m, none))

  pub changes_lacks : (orders : List (Option Listing)) → LacksBox g l orders c k → LacksBox h l orders c k
  changes_lacks orders lacks = carried_but g h l c O k orders changes_alike lacks

  pub changes_canvas : (orders : List (Option Listing)) → is_signal_node (get h.nodes k) ≡ is_signal_node (get g.nodes k) → IsOrdered g l orders c → IsOrdered h l orders c
  changes_canvas orders same o =
      let was : IsSome (get g.boards c) = subst (λ (b : Option Board). IsSome b) (sym R.taken.board) refl in
      let signal : (x : ℕ) → IsThere (keys_at g c) x → is_signal_node (get h.nodes x) ≡ is_signal_node (get g.nodes x) = (λ (x : ℕ) (at : IsThere (keys_at g c) x). elim (cases_eq x k) [
        | inl e ↦ subst (λ (y : ℕ). is_signal_node (get h.nodes y) ≡ is_signal_node (get g.nodes y)) (sym e) same
        | inr differ ↦ changes_signal x differ at
      ]) in
      live_order (canvas_graph h l c) (signal_boxes h c) (get h.boards c) (order_in orders c) R.put.lives
      (carried_whole g h l c O orders (record { keys = changes_keys; signal = signal }) (order_live (canvas_graph g l c) (signal_boxes g c) (get g.boards c) (order_in orders c) was o))

  pub changes_other : (orders : List (Option Listing)) (d : ℕ) → d ≢ c → IsSome (R.boards_left d) → IsOrdered g l orders d → IsOrdered h l orders d
  changes_other orders d differ live o =
      let e : get h.boards d ≡ get g.boards d = R.put.canvases_stay d differ live ∙ R.taken.no_canvas_comes d differ live in
      let away : (x : ℕ) → IsThere (keys_at h d) x → x ≡ k → ⊥ = (λ (x : ℕ) (at : IsThere (keys_at h d) x) (same : x ≡ k).
      differ (same_Some d c (sym (O.other.home d at.0 x at.1) ∙ ap (λ y. board_in (get h.nodes y)) same ∙ R.put.lies))) in
      carried_canvas g h l d O orders e (λ x at.
      let bt : IsThere (keys_at h d) x = subst (λ (ys : List ℕ). IsThere ys x) (sym (ap keys_in e)) at in
      same_node (get h.nodes x) (get g.nodes x) (changes_there d x (λ same. away x bt same) live bt)) o

-- Boxes that have changed in what an order doesn't see.

pub alike_all : (g h : Grove) (l : Links) (orders : List (Option Listing)) → AreBothOwn g h → h.boards ≡ g.boards
    → ((k : ℕ) → is_signal_node (get h.nodes k) ≡ is_signal_node (get g.nodes k)) → AreOrderedBy g l orders → AreOrderedBy h l orders
alike_all g h l orders O e same o d = carried_canvas g h l d O orders (ap (λ bs. get bs d) e) (λ x at. same x) (o d)
