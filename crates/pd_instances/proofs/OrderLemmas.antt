-- Canvases that have come get their orders, one after the other.
use Rattle.std.proofs.Common.{◌≡◌, ◌≢◌, ℕ, suc, ◌+◌, ◌≤◌, Bool, true, false, cond, filter, List, [], ◌∷◌, ◌++◌, drop, length, Option, Some, None, IsTrue, refl, sym, ap, ◌∙◌, subst, inl, inr, arith}
use Rattle.std.specs.Prelude.{◌⊎◌}
use mathlib.Core.Logic.{⊎_elim}
use Rattle.std.specs.List.{AllZip}
use Rattle.std.proofs.lemmas.Bool.{cases_eq, false≢true}
use Rattle.std.proofs.lemmas.Option.{none-some, same_Some}
use Rattle.slab.specs.Slab.{get}
use Rattle.pd_order.specs.Graph.{total}
use Rattle.pd_order.specs.Listing.{Listing}
use Rattle.pd_links.specs.declared.links.Links.{Links}
use Rattle.pd_grove.specs.declared.boards.Board.{Board}
use Rattle.pd_grove.specs.declared.grove.Grove.{Grove}
use Rattle.pd_grove.specs.Telling.{inner_in}
use Rattle.pd_owning.specs.Bound.{is_among}
use Rattle.pd_patch.specs.Telling.{order_in}
use Rattle.pd_placing.specs.Placing.{StayBut}
use Rattle.pd_placing.specs.Room.{HasPlaces, TakesMore}
use Rattle.pd_wiring.specs.Graphs.{canvas_graph, signal_boxes, IsOrderIn}
use Rattle.pd_instances.specs.Needs.{Inside, inside_at, inside_held, inside_seen, IsOrderRoom}
use Rattle.pd_instances.specs.Layers.{AreNextOrders, OrdersAll}
use Rattle.pd_instances.specs.Part.{looks_held, looks_of}
use Rattle.pd_instances.proofs.OpenLemmas.{among_here, among_left, last_or}

drop_zero : {X : Type 0} (xs : List X) → drop 0 xs ≡ xs
drop_zero [] = refl
drop_zero (x ∷ xs) = refl

pub orders_none : (g : Grove) (l : Links) (old : List (Option Listing)) → OrdersAll g l old old []
orders_none g l old = record { is = λ k c t e. absurd (false≢true t); others = λ c out. refl }

module _ (g : Grove) (l : Links) (old mid new : List (Option Listing)) (ks : List ℕ) (k : ℕ) (A : OrdersAll g l old mid ks) where
  abbrev Ordered : List (Option Listing) → ℕ → Type 0
  Ordered orders c = IsOrderIn (canvas_graph g l c) (signal_boxes g c) (order_in orders c)

  -- a canvas more has its order
  pub orders_more : (c : ℕ) → inner_in (get g.nodes k) ≡ Some c → IsOrderIn (canvas_graph g l c) (signal_boxes g c) (order_in new c) → StayBut mid new c → OrdersAll g l old new (ks ++ k ∷ [])
  orders_more c holds here stay = record {
    is = λ x d t e. ⊎_elim
        (λ (s : x ≡ k).
        let same : d ≡ c = same_Some d c (sym e ∙ ap (λ y. inner_in (get g.nodes y)) s ∙ holds) in
        subst (λ y. Ordered new y) (sym same) here)
        (λ (s : IsTrue (is_among ks x)). ⊎_elim
        (λ (q : d ≡ c). subst (λ y. Ordered new y) (sym q) here)
        (λ (f : d ≢ c). subst (λ o. IsOrderIn (canvas_graph g l d) (signal_boxes g d) o) (sym (stay d f)) (A.is x d s e)) (cases_eq d c)) (last_or ks k x t);
    others = λ d out.
        stay d (λ q. out k (among_here ks k) (holds ∙ ap (λ y. Some y) (sym q))) ∙ A.others d (λ x s. out x (among_left ks k x s));
  }

  -- a box that holds none changes nothing
  pub orders_same : inner_in (get g.nodes k) ≡ None → OrdersAll g l old mid (ks ++ k ∷ [])
  orders_same none = record {
    is = λ x d t e. ⊎_elim
        (λ (s : x ≡ k). absurd (none-some d (sym none ∙ ap (λ y. inner_in (get g.nodes y)) (sym s) ∙ e)))
        (λ (s : IsTrue (is_among ks x)). A.is x d s e) (last_or ks k x t);
    others = λ d out. A.others d (λ x s. out x (among_left ks k x s));
  }

-- a box more
pub orders_next : (g : Grove) (l : Links) (old mid new : List (Option Listing)) (ks : List ℕ) (k : ℕ) → OrdersAll g l old mid ks
    → ((c : ℕ) → inner_in (get g.nodes k) ≡ Some c → IsOrderIn (canvas_graph g l c) (signal_boxes g c) (order_in new c))
    → ((c : ℕ) → inner_in (get g.nodes k) ≡ Some c → StayBut mid new c) → (inner_in (get g.nodes k) ≡ None → (c : ℕ) → order_in new c ≡ order_in mid c) → OrdersAll g l old new (ks ++ k ∷ [])
orders_next g l old mid new ks k A order others none = by (inner_in (get g.nodes k)) refl
  where
    by : (o : Option ℕ) → inner_in (get g.nodes k) ≡ o → OrdersAll g l old new (ks ++ k ∷ [])
    by None e =
        let S = orders_same g l old mid new ks k A e in
        record { is = λ x c t h. subst (λ o. IsOrderIn (canvas_graph g l c) (signal_boxes g c) o) (sym (none e c)) (S.is x c t h); others = λ c out. none e c ∙ S.others c out }
    by (Some c) e = orders_more g l old mid new ks k A c e (order c e) (others c e)

bound : (b : Bool) (k : ℕ) (ks js : List ℕ) → length js ≤ length ks → length (cond b (k ∷ js) js) ≤ suc (length ks)
bound true k ks js l = omega (arith, l)
bound false k ks js l = omega (arith, l)

-- Rooms.

pub next_order : (is js : List Inside) (orders : List Listing) → AllZip IsOrderRoom (is ++ js) orders → length is ≤ 1 → AreNextOrders is orders
next_order [] js orders A l = tt
next_order (i ∷ is) js [] A l = absurd A
next_order (i ∷ is) js (o ∷ orders) A l = A.0

pub one_inside : (g : Grove) (k : ℕ) → length (inside_at g k) ≤ 1
one_inside g k = by (inner_in (get g.nodes k))
  where
    seen : (o : Option Board) → length (inside_seen o) ≤ 1
    seen None = omega arith
    seen (Some b) = omega arith

    by : (o : Option ℕ) → length (inside_held g o) ≤ 1
    by None = omega arith
    by (Some c) = seen (get g.boards c)

pub orders_left : (is js : List Inside) (orders : List Listing) → AllZip IsOrderRoom (is ++ js) orders → AllZip IsOrderRoom js (drop (length is) orders)
orders_left [] js orders A = subst (λ os. AllZip IsOrderRoom js os) (sym (drop_zero orders)) A
orders_left (i ∷ is) js [] A = absurd A
orders_left (i ∷ is) js (o ∷ orders) A = orders_left is js orders A.1

pub kept_few : (p : ℕ → Bool) (ks : List ℕ) → length (filter p ks) ≤ length ks
kept_few p [] = omega arith
kept_few p (k ∷ ks) = bound (p k) k ks (filter p ks) (kept_few p ks)

pub places_fit : (o : Option Listing) (x : Listing) (n m : ℕ) → o ≡ Some x → TakesMore x n → m ≤ n → HasPlaces o m
places_fit o x n m e T l = subst (λ y. HasPlaces y m) (sym e) (record { room = (let r = T.room in omega (arith, r, l)); few = (let f = T.few in omega (arith, f, l)) })

-- Looks.

pub looks_last : (g : Grove) (l : Links) (ks : List ℕ) (k : ℕ) → looks_of g l (ks ++ k ∷ []) ≡ looks_of g l ks + looks_held g l (inner_in (get g.nodes k))
looks_last g l [] k = omega arith
looks_last g l (x ∷ ks) k = let h = looks_last g l ks k in omega (arith, h)
