-- What a patch keeps by key, where boxes go one after the other.
use Rattle.std.proofs.Common.{◌≡◌, ◌≢◌, ℕ, ℤ, ◌+◌, ◌<◌, ◌≤◌, ◌==◌, Bool, true, false, cond, not, ◌||◌, List, [], ◌∷◌, ◌++◌, filter, map, length, Option, Some, None, IsTrue, nat_eq, inl, inr, refl, sym, ap, ◌∙◌, arith}
use Rattle.std.specs.Prelude.{slice_get, slice_set, option_and_then, ◌⊎◌}
use mathlib.Core.Logic.{⊎_elim}
use lib.ListN.{get_or}
use Rattle.std.proofs.lemmas.Bool.{cases_eq, false≢true}
use Rattle.std.proofs.lemmas.List.{length-map}
use Rattle.std.proofs.lemmas.Option.{none-some, same_Some, slice_get-get_or, slice_get_past}
use Rattle.slab.specs.Slab.{get}
use Rattle.pd_clock.specs.Queue.{Clock, without}
use Rattle.pd_order.specs.Listing.{Listing}
use Rattle.pd_order.proofs.Basics.{by_test}
use Rattle.pd_grove.specs.declared.grove.Grove.{Grove}
use Rattle.pd_grove.specs.declared.spots.Spot.{Spot}
use Rattle.pd_grove.specs.Telling.{inner_in}
use Rattle.pd_grove.specs.TextOrder.{keys_of_spots}
use Rattle.pd_owning.specs.Bound.{is_among}
use Rattle.pd_web.specs.declared.web.Web.{Web}
use Rattle.pd_web.specs.Changes.{KeepsRoom}
use Rattle.pd_web.specs.Hops.{ports_told, port_told}
use Rattle.pd_web.specs.Sockets.{made_at}
use Rattle.pd_ports.specs.Boxes.{HasPorts, but_of}
use Rattle.pd_ports.specs.Known.{KnowsHomes}
use Rattle.pd_patch.specs.Numbers.{AreApart}
use Rattle.pd_patch.specs.Telling.{order_in}
use Rattle.pd_patch.specs.Values.{Blocks, block_at}
use Rattle.pd_boxes.specs.Rows.{PutsUnder}
use Rattle.pd_boxes.proofs.RowLemmas.{row_put}
use Rattle.pd_clearing.specs.Clearing.{without_all, DropsAll}
use Rattle.pd_clearing.specs.Layers.{but_of_all, ClosesAll, DropsOrders, DropsUnder}
use Rattle.pd_clearing.proofs.LoosenLemmas.{among_itself, among_next, among_or_next, among_still, none_next}

-- Clocks.

both_kept : {X : Type 0} (f g : X → Bool) (x : X) (us vs : List X) (a b : Bool) → f x ≡ a → g x ≡ b → filter f us ≡ filter g vs → filter f (cond b (x ∷ us) us) ≡ filter g (cond a (x ∷ vs) vs)
both_kept f g x us vs true true e h q =
    ap (λ (c : Bool). cond c (x ∷ filter f us) (filter f us)) e ∙ ap (λ ys. x ∷ ys) q ∙ ap (λ (c : Bool). cond c (x ∷ filter g vs) (filter g vs)) (sym h)
both_kept f g x us vs true false e h q = q ∙ ap (λ (c : Bool). cond c (x ∷ filter g vs) (filter g vs)) (sym h)
both_kept f g x us vs false true e h q = ap (λ (c : Bool). cond c (x ∷ filter f us) (filter f us)) e ∙ q
both_kept f g x us vs false false e h q = q

filter_swap : {X : Type 0} (f g : X → Bool) (xs : List X) → filter f (filter g xs) ≡ filter g (filter f xs)
filter_swap f g [] = refl
filter_swap f g (x ∷ xs) = both_kept f g x (filter g xs) (filter f xs) (f x) (g x) refl refl (filter_swap f g xs)

pub without_next : (ps : List Spot) (p : Spot) (cs : List Clock) → without_all (keys_of_spots (ps ++ p ∷ [])) cs ≡ without p.node (without_all (keys_of_spots ps) cs)
without_next [] p cs = refl
without_next (q ∷ ps) p cs =
    ap (without q.node) (without_next ps p cs) ∙ filter_swap (λ c. not (c.owner == q.node)) (λ c. not (c.owner == p.node)) (without_all (keys_of_spots ps) cs)

-- Ports.

but_none : (o : Option (ℕ × ℕ)) → o ≡ but_of_all [] o
but_none None = refl
but_none (Some x) = refl

but_next : (ps : List Spot) (p : Spot) (o : Option (ℕ × ℕ)) → but_of p.node (but_of_all (keys_of_spots ps) o) ≡ but_of_all (keys_of_spots (ps ++ p ∷ [])) o
but_next ps p None = refl
but_next ps p (Some x) = by_test (is_among (keys_of_spots ps) x.0)
    (λ t. ap (λ (b : Bool). but_of p.node (cond b None (Some x))) t ∙ ap (λ (b : Bool). cond b None (Some x)) (sym (among_still ps p x.0 t)))
    (λ f. ap (λ (b : Bool). but_of p.node (cond b None (Some x))) f
    ∙ ap (λ (b : Bool). cond b None (Some x)) (sym (among_next ps p x.0 ∙ ap (λ b. b || nat_eq x.0 p.node) f)))

pub closes_none : (w : Web) → KnowsHomes w → ClosesAll w w []
closes_none w known = record {
  gone = λ side k at. absurd (false≢true at);
  unmade = λ k at. absurd (false≢true at);
  ports = λ side k out. refl;
  made = λ k out. refl;
  lines = λ k. refl;
  fans = λ k outlet. refl;
  feeds = λ k inlet. refl;
  homes = λ j. but_none (port_told w j);
  room = λ k n m r. r;
  known = known;
}

pub closes_next : (w v u : Web) (ps : List Spot) (p : Spot) → ClosesAll w v (keys_of_spots ps) → HasPorts v u p.node (λ _. []) false → ((j : ℕ) → port_told u j ≡ but_of p.node (port_told v j)) → KeepsRoom v u → KnowsHomes u
    → ClosesAll w u (keys_of_spots (ps ++ p ∷ []))
closes_next w v u ps p C G homes room known = record {
  gone = λ side k at. ⊎_elim
      (λ (e : k ≡ p.node). ap (ports_told u side) e ∙ G.ports side)
      (λ (d : k ≢ p.node). G.other_ports side k d ∙ C.gone side k (before k d at))
      (cases_eq k p.node);
  unmade = λ k at. ⊎_elim
      (λ (e : k ≡ p.node). ap (made_at u.sockets.items) e ∙ G.made)
      (λ (d : k ≢ p.node). G.others_made k d ∙ C.unmade k (before k d at))
      (cases_eq k p.node);
  ports = λ side k out. let n = none_next ps p k out in G.other_ports side k n.1 ∙ C.ports side k n.0;
  made = λ k out. let n = none_next ps p k out in G.others_made k n.1 ∙ C.made k n.0;
  lines = λ k. G.lines k ∙ C.lines k;
  fans = λ k outlet. G.fans k outlet ∙ C.fans k outlet;
  feeds = λ k inlet. G.feeds k inlet ∙ C.feeds k inlet;
  homes = λ j. homes j ∙ ap (but_of p.node) (C.homes j) ∙ but_next ps p (port_told w j);
  room = λ k n m r. room k n m (C.room k n m r);
  known = known;
} where
  before : (k : ℕ) → k ≢ p.node → IsTrue (is_among (keys_of_spots (ps ++ p ∷ [])) k) → IsTrue (is_among (keys_of_spots ps) k)
  before k d at = ⊎_elim (λ (a : IsTrue (is_among (keys_of_spots ps) k)). a) (λ (e : k ≡ p.node). absurd (d e)) (among_or_next ps p k at)

-- Orders.

this_or_not : (o : Option ℕ) (c : ℕ) → (o ≡ Some c) ⊎ (o ≡ Some c → ⊥)
this_or_not None c = inr (λ e. none-some c e)
this_or_not (Some x) c = ⊎_elim (λ (e : x ≡ c). inl (ap (λ y. Some y) e)) (λ (d : x ≢ c). inr (λ e. d (same_Some x c e))) (cases_eq x c)

pub orders_none : (g : Grove) (orders : List (Option Listing)) → DropsOrders g orders orders []
orders_none g orders = record { gone = λ c h. absurd (false≢true h.1); others = λ c never. refl }

pub orders_next : (g : Grove) (old mid new : List (Option Listing)) (ps : List Spot) (p : Spot) (canvas : Option ℕ) → DropsOrders g old mid (keys_of_spots ps) → canvas ≡ inner_in (get g.nodes p.node)
    → ((c : ℕ) → canvas ≡ Some c → order_in new c ≡ None) → ((c : ℕ) → (canvas ≡ Some c → ⊥) → order_in new c ≡ order_in mid c) → DropsOrders g old new (keys_of_spots (ps ++ p ∷ []))
orders_next g old mid new ps p canvas D is none others = record {
  gone = λ c h. ⊎_elim
      (λ (e : canvas ≡ Some c). none c e)
      (λ (d : canvas ≡ Some c → ⊥). others c d ∙ D.gone c (⊎_elim
      (λ (a : IsTrue (is_among (keys_of_spots ps) h.0)). (h.0, a, h.2))
      (λ (e : h.0 ≡ p.node). absurd (d (is ∙ ap (λ k. inner_in (get g.nodes k)) (sym e) ∙ h.2)))
      (among_or_next ps p h.0 h.1)))
      (this_or_not canvas c);
  others = λ c never. others c (λ e. never (p.node, among_itself ps p, sym is ∙ e)) ∙ D.others c (λ h. never (h.0, among_still ps p h.0 h.1, h.2));
}

-- Blocks.

none_of : (outlet : ℕ) (o : Option (List (List ℤ))) → o ≡ Some [] → option_and_then (λ own. slice_get own outlet) o ≡ None
none_of outlet o e = ap (option_and_then (λ own. slice_get own outlet)) e ∙ slice_get_past [] outlet (omega arith)

pub dropped : {A : Type 0} (f : A → List (List ℤ)) (vs : List A) (k : ℕ) (v : A) → k < length vs → f v ≡ [] → DropsUnder (map f vs) (map f (slice_set vs k v)) k
dropped f vs k v l e =
    let P = row_put f vs k v l in
    record { gone = λ outlet. none_of outlet (slice_get (map f (slice_set vs k v)) k) (P.is ∙ ap (λ (x : List (List ℤ)). Some x) e); others = P.others }

pub none_there : {A : Type 0} (f : A → List (List ℤ)) (vs : List A) (k : ℕ) → length vs ≤ k → DropsUnder (map f vs) (map f vs) k
none_there f vs k l =
    let long = length-map vs f in
    record { gone = λ outlet. ap (option_and_then (λ own. slice_get own outlet)) (slice_get_past (map f vs) k (omega (arith, long, l))); others = λ j d. refl }

pub drops_none : (blocks : Blocks) → DropsAll blocks blocks []
drops_none blocks = record { gone = λ k outlet at. absurd (false≢true at); others = λ k out. refl }

pub drops_next : (old mid new : Blocks) (ps : List Spot) (p : Spot) → DropsAll old mid (keys_of_spots ps) → DropsUnder mid new p.node → DropsAll old new (keys_of_spots (ps ++ p ∷ []))
drops_next old mid new ps p D E = record {
  gone = λ k outlet at. ⊎_elim
      (λ (e : k ≡ p.node). ap (λ x. block_at new x outlet) e ∙ E.gone outlet)
      (λ (d : k ≢ p.node). ap (option_and_then (λ own. slice_get own outlet)) (E.others k d) ∙ D.gone k outlet (⊎_elim
      (λ (a : IsTrue (is_among (keys_of_spots ps) k)). a)
      (λ (e : k ≡ p.node). absurd (d e))
      (among_or_next ps p k at)))
      (cases_eq k p.node);
  others = λ k out. let n = none_next ps p k out in E.others k n.1 ∙ D.others k n.0;
}

-- Numbers.

pub element_at : (keys : List ℕ) (i : ℕ) → i < length keys → slice_get keys i ≡ Some (get_or keys i 0)
element_at keys i l = slice_get-get_or keys i 0 l

-- the numbers that are still to be lowered stay
pub later_on : (keys now new : List ℕ) (i : ℕ) → AreApart keys → i < length keys → PutsUnder now new (get_or keys i 0) i → ((j k : ℕ) → i ≤ j → slice_get keys j ≡ Some k → slice_get now k ≡ Some (j + 1))
    → (j k : ℕ) → i + 1 ≤ j → slice_get keys j ≡ Some k → slice_get new k ≡ Some (j + 1)
later_on keys now new i apart within P later j k l at =
    P.others k (λ e. let same = apart i j k (element_at keys i within ∙ ap (λ x. Some x) (sym e)) at in absurd (omega (arith, same, l))) ∙ later j k (omega (arith, l)) at
