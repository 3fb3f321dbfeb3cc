-- The order of a canvas in two groves that look alike to it.
use Rattle.std.proofs.Common.{arith, ◌≡◌, ◌≢◌, ℕ, ◌+◌, ◌<◌, ◌≤◌, ◌==◌, true, false, cond, List, [], ◌∷◌, ◌++◌, length, refl, sym, ap, ◌∙◌, subst, inl, inr}
use Rattle.std.specs.Prelude.{Option, Some, None, IsSome, slice_get}
use Rattle.std.proofs.lemmas.Bool.{cases_eq}
use Rattle.std.proofs.lemmas.Option.{none-some}
use Rattle.slab.specs.Slab.{get}
use Rattle.pd_order.specs.Graph.{Graph, tally, take_out, IsOrder}
use Rattle.pd_order.specs.Listing.{Listing}
use Rattle.pd_order.proofs.Basics.{zero_or, tally-append}
use Rattle.pd_order.proofs.SameLemmas.{same_order}
use Rattle.pd_links.specs.declared.links.Links.{Links}
use Rattle.pd_links.specs.Linked.{feeders_of}
use Rattle.pd_label.specs.Labels.{Rise}
use Rattle.pd_grove.specs.declared.nodes.Node.{Node}
use Rattle.pd_grove.specs.declared.boards.Board.{Board}
use Rattle.pd_grove.specs.declared.grove.Grove.{Grove}
use Rattle.pd_grove.specs.Owning.{AreOwn, board_in}
use Rattle.pd_grove.specs.Telling.{keys_in}
use Rattle.pd_web.specs.Canvases.{keys_at}
use Rattle.pd_patch.specs.Listing.{IsThere}
use Rattle.pd_patch.specs.Orders.{is_signal_node, signal_among}
use Rattle.pd_patch.specs.Telling.{order_in}
use Rattle.pd_patch.proofs.ListingLemmas.{place_in, counted_at}
use Rattle.pd_patch.proofs.CanvasLemmas.{fewer_kept}
use Rattle.pd_wiring.specs.Graphs.{lies_in, canvas_graph, signal_boxes, IsOrderIn, HasOrderBy, AreOrderedBy}
use Rattle.pd_wiring.proofs.GraphLemmas.{lies_there}
use Rattle.pd_placing.specs.Placing.{IsOrdered, LacksBox, StayBut}
use Rattle.pd_placing.specs.Groves.{AreBothOwn, IsAlikeBut, IsAlike}
use Rattle.pd_placing.proofs.ListLemmas.{away_stays, fewer_left, none_passing, out_passing, same_passing, rise_left, ranked_alike}

-- Orders and canvases that may be missing.

pub order_by : (g h : Graph) (ns ms : List ℕ) (o : Option Listing) → ((chain stuck : List ℕ) → IsOrder g ns chain stuck → IsOrder h ms chain stuck) → IsOrderIn g ns o → IsOrderIn h ms o
order_by g h ns ms None f o = o
order_by g h ns ms (Some l) f o = f l.chain l.stuck o

pub order_live : (g : Graph) (ns : List ℕ) (b : Option Board) (o : Option Listing) → IsSome b → HasOrderBy g ns b o → IsOrderIn g ns o
order_live g ns None o live h = absurd (cc)
order_live g ns (Some b) o live h = h

pub live_order : (g : Graph) (ns : List ℕ) (b : Option Board) (o : Option Listing) → IsSome b → IsOrderIn g ns o → HasOrderBy g ns b o
live_order g ns None o live h = absurd (cc)
live_order g ns (Some b) o live h = h

-- where the canvas is the same
pub order_kept : (g h : Graph) (ns ms : List ℕ) (b b' : Option Board) (o : Option Listing) → b' ≡ b → (IsOrderIn g ns o → IsOrderIn h ms o) → HasOrderBy g ns b o → HasOrderBy h ms b' o
order_kept g h ns ms b b' o e f k = subst (λ (x : Option Board). HasOrderBy h ms x o) (sym e) (by b k) where
  by : (b : Option Board) → HasOrderBy g ns b o → HasOrderBy h ms b o
  by None k = k
  by (Some x) k = f k

-- a canvas that doesn't live has no order
pub order_none : (g : Graph) (ns : List ℕ) (b : Option Board) (o : Option Listing) → b ≡ None → o ≡ None → HasOrderBy g ns b o
order_none g ns None o e h = h
order_none g ns (Some b) o e h = absurd (none-some b (sym e))

pub live_or_none : {A P : Type 0} (o : Option A) → (o ≡ None → P) → (IsSome o → P) → P
live_or_none None f g = f refl
live_or_none (Some a) f g = g refl

pub lives : (b : Option Board) (i k : ℕ) → slice_get (keys_in b) i ≡ Some k → IsSome b
lives None i k e = absurd (none-some k e)
lives (Some b) i k e = refl

pub box_lives : (o : Option Node) (c : ℕ) → board_in o ≡ Some c → IsSome o
box_lives None c e = absurd (none-some c e)
box_lives (Some n) c e = refl

-- a key that isn't in a list
pub none_there : (k : ℕ) (xs : List ℕ) → (IsThere xs k → ⊥) → tally k xs ≡ 0
none_there k xs h = zero_or (tally k xs) (λ l. absurd (h (place_in k xs l)))

pub none_signal : (g : Grove) (c k : ℕ) → tally k (keys_at g c) ≡ 0 → tally k (signal_boxes g c) ≡ 0
none_signal g c k e = let f = fewer_kept (λ x. is_signal_node (get g.nodes x)) (keys_at g c) k in omega (arith, e, f)

pub none_silent : (g : Grove) (c k : ℕ) → is_signal_node (get g.nodes k) ≡ false → tally k (signal_boxes g c) ≡ 0
none_silent g c k e = none_passing (λ x. is_signal_node (get g.nodes x)) k (keys_at g c) e

-- an order that has no part for the box lacks it
pub lacks_none : (g : Grove) (l : Links) (c k : ℕ) (orders : List (Option Listing)) → tally k (signal_boxes g c) ≡ 0 → IsOrderIn (canvas_graph g l c) (signal_boxes g c) (order_in orders c) → LacksBox g l orders c k
lacks_none g l c k orders e h = subst (λ (ns : List ℕ). IsOrderIn (canvas_graph g l c) ns (order_in orders c)) (sym (away_stays k (signal_boxes g c) e)) h

pub none_lacks : (g : Grove) (l : Links) (c k : ℕ) (orders : List (Option Listing)) → tally k (signal_boxes g c) ≡ 0 → LacksBox g l orders c k → IsOrderIn (canvas_graph g l c) (signal_boxes g c) (order_in orders c)
none_lacks g l c k orders e h = subst (λ (ns : List ℕ). IsOrderIn (canvas_graph g l c) ns (order_in orders c)) (away_stays k (signal_boxes g c) e) h

-- Two groves.

module _ (g h : Grove) (l : Links) (c : ℕ) (O : AreBothOwn g h) where
  -- the same boxes of the canvas, in one order in both
  carried : (ks chain stuck : List ℕ) → Rise g.labels ks → Rise h.labels ks → ((x : ℕ) → 0 < tally x ks → IsThere (keys_at g c) x) → ((x : ℕ) → 0 < tally x ks → IsThere (keys_at h c) x)
      → ((x : ℕ) → 0 < tally x ks → is_signal_node (get h.nodes x) ≡ is_signal_node (get g.nodes x))
      → IsOrder (canvas_graph g l c) (signal_among g ks) chain stuck → IsOrder (canvas_graph h l c) (signal_among h ks) chain stuck
  carried ks chain stuck R S at bt sig o =
      let same : signal_among h ks ≡ signal_among g ks = same_passing (λ x. is_signal_node (get g.nodes x)) (λ x. is_signal_node (get h.nodes x)) ks sig in
      same_order (canvas_graph g l c) (canvas_graph h l c) (signal_among g ks) (signal_among h ks) chain stuck
      (record {
        ranks = λ x y p q. ranked_alike g.labels h.labels ks x y R S (among x p) (among y q);
        feeders = λ x u p.
            let a : lies_in g c x ≡ true = lies_there g c x O.one (at x (among x p)) in
            let b : lies_in h c x ≡ true = lies_there h c x O.other (bt x (among x p)) in rw (a, b) refl;
      }) (λ x. ap (tally x) (sym same)) o where
        among : (x : ℕ) → 0 < tally x (signal_among g ks) → 0 < tally x ks
        among x p = let f = fewer_kept (λ y. is_signal_node (get g.nodes y)) ks x in omega (arith, p, f)

  pub carried_but : (k : ℕ) (orders : List (Option Listing)) → IsAlikeBut g h c k → LacksBox g l orders c k → LacksBox h l orders c k
  carried_but k orders A lacks =
      let ks = take_out k (keys_at g c) in
      let at : take_out k (signal_boxes g c) ≡ signal_among g ks = out_passing (λ x. is_signal_node (get g.nodes x)) k (keys_at g c) in
      let bt : take_out k (signal_boxes h c) ≡ signal_among h ks = out_passing (λ x. is_signal_node (get h.nodes x)) k (keys_at h c) ∙ ap (signal_among h) A.keys in
      let one : (x : ℕ) → 0 < tally x ks → IsThere (keys_at g c) x = (λ (x : ℕ) (p : 0 < tally x ks). let f = fewer_left k x (keys_at g c) in place_in x (keys_at g c) (omega (arith, p, f))) in
      let other : (x : ℕ) → 0 < tally x ks → IsThere (keys_at h c) x = (λ (x : ℕ) (p : 0 < tally x ks).
      let q : 0 < tally x (take_out k (keys_at h c)) = subst (λ (ys : List ℕ). 0 < tally x ys) (sym A.keys) p in
      let f = fewer_left k x (keys_at h c) in place_in x (keys_at h c) (omega (arith, q, f))) in
      let S : Rise h.labels ks = subst (λ (ys : List ℕ). Rise h.labels ys) A.keys (rise_left h.labels k (keys_at h c) (h.labelled.rise c)) in
      order_by (canvas_graph g l c) (canvas_graph h l c) (take_out k (signal_boxes g c)) (take_out k (signal_boxes h c)) (order_in orders c)
      (λ chain stuck o. subst (λ (ns : List ℕ). IsOrder (canvas_graph h l c) ns chain stuck) (sym bt)
      (carried ks chain stuck (rise_left g.labels k (keys_at g c) (g.labelled.rise c)) S one other (λ x p. A.signal x (place_in x ks p))
      (subst (λ (ns : List ℕ). IsOrder (canvas_graph g l c) ns chain stuck) at o))) lacks

  pub carried_whole : (orders : List (Option Listing)) → IsAlike g h c → IsOrderIn (canvas_graph g l c) (signal_boxes g c) (order_in orders c) → IsOrderIn (canvas_graph h l c) (signal_boxes h c) (order_in orders c)
  carried_whole orders A o =
      let ks = keys_at g c in
      let same : signal_boxes h c ≡ signal_among h ks = ap (signal_among h) A.keys in
      order_by (canvas_graph g l c) (canvas_graph h l c) (signal_boxes g c) (signal_boxes h c) (order_in orders c)
      (λ chain stuck o. subst (λ (ns : List ℕ). IsOrder (canvas_graph h l c) ns chain stuck) (sym same)
      (carried ks chain stuck (g.labelled.rise c) (subst (λ (ys : List ℕ). Rise h.labels ys) A.keys (h.labelled.rise c)) (λ x p. place_in x ks p)
      (λ x p. subst (λ (ys : List ℕ). IsThere ys x) (sym A.keys) (place_in x ks p)) (λ x p. A.signal x (place_in x ks p)) o)) o

  -- a canvas that is the same, with boxes that are the same
  pub carried_canvas : (orders : List (Option Listing)) → get h.boards c ≡ get g.boards c → ((x : ℕ) → IsThere (keys_at g c) x → is_signal_node (get h.nodes x) ≡ is_signal_node (get g.nodes x))
      → IsOrdered g l orders c → IsOrdered h l orders c
  carried_canvas orders e sig o = order_kept (canvas_graph g l c) (canvas_graph h l c) (signal_boxes g c) (signal_boxes h c) (get g.boards c) (get h.boards c) (order_in orders c) e
      (carried_whole orders (record { keys = ap keys_in e; signal = sig })) o

-- Orders in their list.

-- a canvas has its order, and each other one has it as before
pub each_ordered : (g : Grove) (l : Links) (old new : List (Option Listing)) (c : ℕ) → IsSome (get g.boards c) → IsOrderIn (canvas_graph g l c) (signal_boxes g c) (order_in new c) → StayBut old new c
    → ((d : ℕ) → d ≢ c → IsOrdered g l old d) → AreOrderedBy g l new
each_ordered g l old new c live o stay others d = elim (cases_eq d c) [
  | inl same ↦ subst (λ (x : ℕ). IsOrdered g l new x) (sym same) (live_order (canvas_graph g l c) (signal_boxes g c) (get g.boards c) (order_in new c) live o)
  | inr differ ↦ still_ordered g l old new d (stay d differ) (others d differ)
] where
  still_ordered : (g : Grove) (l : Links) (old new : List (Option Listing)) (d : ℕ) → order_in new d ≡ order_in old d → IsOrdered g l old d → IsOrdered g l new d
  still_ordered g l old new d e h = subst (λ (o : Option Listing). HasOrderBy (canvas_graph g l d) (signal_boxes g d) (get g.boards d) o) (sym e) h

pub others_ordered : (g : Grove) (l : Links) (old new : List (Option Listing)) (c : ℕ) → StayBut old new c → AreOrderedBy g l old → (d : ℕ) → d ≢ c → IsOrdered g l new d
others_ordered g l old new c stay h d differ = subst (λ (o : Option Listing). HasOrderBy (canvas_graph g l d) (signal_boxes g d) (get g.boards d) o) (sym (stay d differ)) (h d)
