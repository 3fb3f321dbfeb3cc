-- A box without wires in the graph of its canvas, and places in the list of orders.
use Rattle.std.proofs.Common.{arith, ◌≡◌, ℕ, zero, suc, ◌+◌, ◌-◌, ◌<◌, ◌≤◌, ◌==◌, Bool, true, false, cond, List, [], ◌∷◌, ◌++◌, length, refl, sym, ap, ◌∙◌, subst}
use Rattle.std.specs.Prelude.{Option, Some, None, IsSome, slice_get, nat_lt}
use Rattle.std.proofs.lemmas.Bool.Decides.{nat_tests}
use Rattle.std.proofs.lemmas.Option.{none-some, same_Some}
use Rattle.slab.specs.Slab.{get}
use Rattle.pd_order.specs.Graph.{Graph, tally, take_out, IsAlone, IsLawful, IsOrder}
use Rattle.pd_order.specs.Listing.{Listing}
use Rattle.pd_order.proofs.Basics.{by_test, same_node, other_node, ltb', ltb-true', ltb-false'}
use Rattle.pd_links.specs.declared.links.Links.{Links}
use Rattle.pd_links.specs.Linked.{feeders_of, followers_of}
use Rattle.pd_grove.specs.declared.boards.Board.{Board}
use Rattle.pd_grove.specs.declared.grove.Grove.{Grove}
use Rattle.pd_grove.specs.Labelled.{label_of}
use Rattle.pd_web.specs.Canvases.{keys_at}
use Rattle.pd_patch.specs.Listing.{IsThere}
use Rattle.pd_patch.specs.Telling.{order_in}
use Rattle.pd_wiring.specs.Graphs.{is_key, lies_in, canvas_graph, signal_boxes, IsOrderIn, HasOrderBy, AreOrderedBy}
use Rattle.pd_wiring.proofs.GraphLemmas.{box_there}
use Rattle.pd_placing.specs.Room.{HasPlaces, SameLists, IsSameButRoom, IsEmptyOrder}
use Rattle.pd_placing.specs.Placing.{is_last, IsLoose, StayBut}
use Rattle.pd_placing.proofs.ListLemmas.{fewer_left, out_gone}

-- Boxes.

pub alone_in : (g : Grove) (l : Links) (c k : ℕ) → IsLoose l k → IsAlone (canvas_graph g l c) k
alone_in g l c k h = record {
  unfed = nothing (lies_in g c k) (feeders_of l k) h.unfed;
  unfollowed = nothing (lies_in g c k) (followers_of l k) h.unfollowed;
} where
  nothing : (b : Bool) (xs : List ℕ) → xs ≡ [] → cond b xs [] ≡ []
  nothing true xs e = e
  nothing false xs e = refl

key_found : (k : ℕ) (o : Option ℕ) → is_key k o ≡ true → o ≡ Some k
key_found k None h = cc
key_found k (Some d) h = ap (λ x. Some x) (same_node d k h)

below : (xs : List ℕ) (i k : ℕ) → slice_get xs i ≡ Some k → i < length xs
below [] i k e = absurd (none-some k e)
below (x ∷ xs) zero k e = omega arith
below (x ∷ xs) (suc i) k e = let rest = below xs i k e in omega (arith, rest)

-- the label of the last box is above those of the others
pub last_behind : (g : Grove) (c k : ℕ) → tally k (signal_boxes g c) ≤ 1 → is_last (keys_at g c) k ≡ true → (x : ℕ) → 0 < tally x (take_out k (signal_boxes g c)) → label_of g x < label_of g k
last_behind g c k once last x h =
    let keys = keys_at g c in
    let at : slice_get keys (length keys - 1) ≡ Some k = key_found k (slice_get keys (length keys - 1)) last in
    let f = fewer_left k x (signal_boxes g c) in
    let p : IsThere keys x = box_there g c x (omega (arith, h, f)) in
    let low : p.0 < length keys = below keys p.0 x p.1 in
    by_test (ltb' p.0 (length keys - 1))
    (λ t. g.labelled.rise c p.0 (length keys - 1) x k (ltb-true' p.0 (length keys - 1) t) p.1 at)
    (λ t. let l : length keys - 1 ≤ p.0 = ltb-false' p.0 (length keys - 1) t in
    let e : p.0 ≡ length keys - 1 = omega (arith, l, low) in
    let same : x ≡ k = same_Some x k (sym p.1 ∙ ap (slice_get keys) e ∙ at) in
    let m : 0 < tally k (take_out k (signal_boxes g c)) = subst (λ (y : ℕ). 0 < tally y (take_out k (signal_boxes g c))) same h in
    let none = out_gone k (signal_boxes g c) once in absurd (omega (arith, m, none)))

-- Orders in their list.

pub lt_from : (m n : ℕ) → nat_lt m n ≡ true → m < n
lt_from m n h = grind (arith, nat_tests)

pub some_there : (orders : List (Option Listing)) (c : ℕ) → IsSome (order_in orders c) → c < length orders
some_there [] c h = absurd (cc)
some_there (o ∷ orders) zero h = omega arith
some_there (o ∷ orders) (suc c) h = let rest = some_there orders c h in omega (arith, rest)

pub placed_there : (orders : List (Option Listing)) (c n : ℕ) → HasPlaces (order_in orders c) n → c < length orders
placed_there orders c n h = some_there orders c (some (order_in orders c) h) where
  some : (o : Option Listing) → HasPlaces o n → IsSome o
  some None h = absurd h
  some (Some o) h = refl

pub none_past : (orders : List (Option Listing)) (c : ℕ) → length orders ≤ c → order_in orders c ≡ None
none_past [] c l = refl
none_past (o ∷ orders) zero l = absurd (omega (arith, l))
none_past (o ∷ orders) (suc c) l = none_past orders c (omega (arith, l))

pub none_more : (orders : List (Option Listing)) (c : ℕ) → order_in (orders ++ None ∷ []) c ≡ order_in orders c
none_more [] zero = refl
none_more [] (suc c) = refl
none_more (o ∷ orders) zero = refl
none_more (o ∷ orders) (suc c) = none_more orders c

-- an order with more room is the order of the same canvases
room_ordered : (g : Graph) (ns : List ℕ) (b : Option Board) (o p : Option Listing) → IsSameButRoom o p → HasOrderBy g ns b o → HasOrderBy g ns b p
room_ordered g ns None None p s h = s
room_ordered g ns None (Some o) p s h = absurd (none-some o (sym h))
room_ordered g ns (Some b) None p s h = absurd h
room_ordered g ns (Some b) (Some o) None s h = absurd s
room_ordered g ns (Some b) (Some o) (Some p) s h = rw (s.chain, s.stuck) h

pub room_all : (old new : List (Option Listing)) (c : ℕ) → IsSameButRoom (order_in old c) (order_in new c) → StayBut old new c → (g : Grove) (l : Links) → AreOrderedBy g l old → AreOrderedBy g l new
room_all old new c s stay g l h d = by_test (d == c)
    (λ t. let e : d ≡ c = same_node d c t in
    room_ordered (canvas_graph g l d) (signal_boxes g d) (get g.boards d) (order_in old d) (order_in new d) (subst (λ (x : ℕ). IsSameButRoom (order_in old x) (order_in new x)) (sym e) s) (h d))
    (λ t. let e : order_in new d ≡ order_in old d = stay d (other_node d c t) in
    subst (λ (o : Option Listing). HasOrderBy (canvas_graph g l d) (signal_boxes g d) (get g.boards d) o) (sym e) (h d))

-- the order of no boxes
pub empty_order : (g : Graph) (o : Option Listing) → IsEmptyOrder o → IsOrderIn g [] o
empty_order g None h = h
empty_order g (Some o) h = rw (h.0, h.1) (record { listed = tt; ended = λ x r. let n = r.node in absurd (omega (arith, n)); rest = λ x. refl; by_rank = tt })
