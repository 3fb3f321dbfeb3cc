-- A wire sought in a list by going along it.
use Rattle.std.proofs.Common.{◌≡◌, ℕ, zero, suc, ◌+◌, ◌-◌, ◌≤◌, ◌<◌, ◌==◌, true, false, cond, List, [], ◌∷◌, map, length, drop, slice_get, slice_index_or, Option, Some, None, refl, sym, ap, ◌∙◌, subst, inl, inr, eq-eqb, ne_eqb, arith}
use Rattle.std.specs.Prelude.{option_map}
use Rattle.std.proofs.lemmas.Bool.{cases_eq}
use Rattle.std.proofs.lemmas.Bool.Decides.{nat_tests}
use Rattle.std.proofs.lemmas.List.{length-map}
use Rattle.std.proofs.lemmas.Option.{none-some, same_Some, slice_get-map, slice_get_within, slice_get-get_or, slice_get_past}
use Rattle.pd_wire.specs.Book.{StandsAt}
use Rattle.pd_web.specs.declared.sockets.Spot.{Spot}
use Rattle.pd_web.specs.declared.web.Hop.{Hop}
use Rattle.pd_web.specs.declared.web.Web.{Web}
use Rattle.pd_web.specs.Wiring.{source_at, sink_at}
use Rattle.pd_web.specs.Hops.{hop_by, hop_to, hop_from}
use Rattle.pd_web.specs.declared.lines.Line.{Line}
use Rattle.pd_seek.specs.Places.{comes_later, IsPlace, IsNoLater, AreInOrder, first_later, leads_to, key_to}

pub key_kept : (k : ℕ) (o : Option Spot) → (hop_by k o).key ≡ k
key_kept k None = refl
key_kept k (Some s) = refl

-- a hop has the key from which it is told
abbrev pub KeepsKey : (ℕ → Hop) → Type 0
KeepsKey f = (k : ℕ) → (f k).key ≡ k

pub to_kept : (w : Web) → KeepsKey (hop_to w)
to_kept w k = key_kept k (slice_get w.spots.items (sink_at w.book k))

pub from_kept : (w : Web) → KeepsKey (hop_from w)
from_kept w k = key_kept k (slice_get w.spots.items (source_at w.book k))

-- no key stands twice
abbrev pub IsOnce : List ℕ → Type 0
IsOnce keys = (i j k : ℕ) → slice_get keys i ≡ Some k → slice_get keys j ≡ Some k → i ≡ j

some_mapped : (f : ℕ → Hop) → KeepsKey f → (o : Option ℕ) (h : Hop) → option_map f o ≡ Some h → o ≡ Some h.key
some_mapped f same None h e = absurd (none-some h e)
some_mapped f same (Some k) h e = ap (λ x. Some x) (sym (same k) ∙ ap (λ (x : Hop). x.key) (same_Some (f k) h e))

pub key_listed : (f : ℕ → Hop) → KeepsKey f → (keys : List ℕ) (i : ℕ) (h : Hop) → slice_get (map f keys) i ≡ Some h → slice_get keys i ≡ Some h.key
key_listed f same keys i h e = some_mapped f same (slice_get keys i) h (sym (slice_get-map f keys i) ∙ e)

-- how many keys stand before this one
abbrev pub place_of : List ℕ → ℕ → ℕ
place_of [] k = zero
place_of (x ∷ xs) k = cond (x == k) zero (suc (place_of xs k))

place_found : (xs : List ℕ) (i k : ℕ) → slice_get xs i ≡ Some k → slice_get xs (place_of xs k) ≡ Some k
place_found [] i k h = absurd (none-some k h)
place_found (x ∷ xs) zero k h =
    let same = same_Some x k h in ap (λ b. slice_get (x ∷ xs) (cond b zero (suc (place_of xs k)))) (eq-eqb x k same) ∙ h
place_found (x ∷ xs) (suc i) k h = elim (cases_eq x k) [
  | inl same ↦ ap (λ b. slice_get (x ∷ xs) (cond b zero (suc (place_of xs k)))) (eq-eqb x k same) ∙ ap (λ y. Some y) same
  | inr differ ↦ ap (λ b. slice_get (x ∷ xs) (cond b zero (suc (place_of xs k)))) (ne_eqb x k differ) ∙ place_found xs i k h
]

pub place_is : (xs : List ℕ) (i k : ℕ) → IsOnce xs → slice_get xs i ≡ Some k → place_of xs k ≡ i
place_is xs i k once h = once (place_of xs k) i k (place_found xs i k h) h

-- what stands before a place
abbrev pub item_before : List Hop → ℕ → Option Hop
item_before hops zero = None
item_before hops (suc i) = slice_get hops i

-- how many wires stand up to this one
abbrev pub up_to : List ℕ → Option Hop → ℕ
up_to keys None = zero
up_to keys (Some h) = suc (place_of keys h.key)

last_before : (hops : List Hop) → slice_get hops (length hops - 1) ≡ item_before hops (length hops)
last_before [] = refl
last_before (h ∷ hs) = let e : suc (length hs) - 1 ≡ length hs = omega arith in ap (slice_get (h ∷ hs)) e

-- the feeds from a place on come later
pub record Sought (labels : List ℕ) (l : Line) (keys : List ℕ) (feeds : List Hop) (next : Option ℕ) (hop : Option Hop) (place : ℕ) : Type 0 where
  pub here : hop ≡ item_before feeds place
  pub stands : StandsAt keys place next
  pub later : (i : ℕ) (h : Hop) → place ≤ i → slice_get feeds i ≡ Some h → comes_later labels l h ≡ true

pub sought_from : (labels : List ℕ) (l : Line) (keys : List ℕ) (f : ℕ → Hop) (hop : Option Hop) → hop ≡ slice_get (map f keys) (length (map f keys) - 1)
    → Sought labels l keys (map f keys) None hop (length keys)
sought_from labels l keys f hop last = record {
  here = last ∙ last_before (map f keys) ∙ ap (item_before (map f keys)) (length-map keys f);
  stands = (omega arith, slice_get_past keys (length keys) (omega arith));
  later = λ i h far at. let below = slice_get_within (map f keys) i h at in let same = length-map keys f in absurd (omega (arith, below, same, far));
}

-- the place before which a hop is, and that the next hop behind it comes later
pub sought_more : (labels : List ℕ) (l : Line) (keys : List ℕ) (f : ℕ → Hop) (next : Option ℕ) (h : Hop) (i : ℕ) → KeepsKey f → Sought labels l keys (map f keys) next (Some h) (suc i) → comes_later labels l h ≡ true
    → (before : Option Hop) → before ≡ item_before (map f keys) i → Sought labels l keys (map f keys) (Some h.key) before i
sought_more labels l keys f next h i same s hit before is =
    let at : slice_get (map f keys) i ≡ Some h = sym s.here in
    record {
      here = is;
      stands = (let far = s.stands.0 in omega (arith, far), key_listed f same keys i h at);
      later = λ j g far there. elim (cases_eq j i) [
        | inl equal ↦
            ap (comes_later labels l) (same_Some g h (sym there ∙ ap (slice_get (map f keys)) equal ∙ at)) ∙ hit
        | inr differ ↦ s.later j g (omega (arith, differ, far)) there
      ];
    }

-- a hop stands behind the one before it
pub hop_place : (labels : List ℕ) (l : Line) (keys : List ℕ) (f : ℕ → Hop) (next : Option ℕ) (h : Hop) (place : ℕ) → KeepsKey f → IsOnce keys → Sought labels l keys (map f keys) next (Some h) place → place ≡ suc (place_of keys h.key)
hop_place labels l keys f next h zero same once s = absurd (none-some h (sym s.here))
hop_place labels l keys f next h (suc i) same once s = ap (λ n. suc n) (sym (place_is keys i h.key once (key_listed f same keys i h (sym s.here))))

pub place_found_at : (labels : List ℕ) (l : Line) (keys : List ℕ) (f : ℕ → Hop) (next : Option ℕ) (hop : Option Hop) (place : ℕ) → Sought labels l keys (map f keys) next hop place
    → ((h : Hop) → hop ≡ Some h → comes_later labels l h ≡ false) → IsPlace labels l (map f keys) place
place_found_at labels l keys f next hop place s miss = record {
  within = let far = s.stands.0 in let same = length-map keys f in omega (arith, far, same);
  behind = s.later;
  before = λ i h is at. miss h (s.here ∙ ap (item_before (map f keys)) (is ∙ (let e : i + 1 ≡ suc i = omega arith in e)) ∙ at);
}

-- In feeds that are in order all before a place come no later.

not_later : (labels : List ℕ) (l : Line) (g h : Hop) → comes_later labels l h ≡ false → IsNoLater labels g h → comes_later labels l g ≡ false
not_later labels l g h miss (inl less) = grind (arith, nat_tests)
not_later labels l g h miss (inr same) = grind (arith, nat_tests)

none_before : (labels : List ℕ) (l : Line) (feeds : List Hop) (place : ℕ) → AreInOrder labels feeds → IsPlace labels l feeds place → (i : ℕ) (h : Hop) → i < place → slice_get feeds i ≡ Some h → comes_later labels l h ≡ false
none_before labels l feeds zero order p i h low at = absurd (omega (arith, low))
none_before labels l feeds (suc n) order p i h low at =
    let far = p.within in
    let last = slice_get-get_or feeds n h (omega (arith, far)) in
    not_later labels l h (slice_index_or feeds n h) (p.before n (slice_index_or feeds n h) (omega arith) last) (order i n h (slice_index_or feeds n h) (omega (arith, low)) at last)

first_at : (labels : List ℕ) (l : Line) (feeds : List Hop) (place : ℕ) → ((i : ℕ) (h : Hop) → i < place → slice_get feeds i ≡ Some h → comes_later labels l h ≡ false)
    → ((i : ℕ) (h : Hop) → place ≤ i → slice_get feeds i ≡ Some h → comes_later labels l h ≡ true)
    → option_map (λ (h : Hop). h.key) (slice_get feeds place) ≡ first_later labels l feeds
first_at labels l [] place none all = refl
first_at labels l (h ∷ hs) zero none all = sym (ap (λ b. cond b (Some h.key) (first_later labels l hs)) (all zero h (omega arith) refl))
first_at labels l (h ∷ hs) (suc n) none all =
    first_at labels l hs n (λ i g low at. none (suc i) g (omega arith) at) (λ i g far at. all (suc i) g (omega arith) at)
    ∙ sym (ap (λ b. cond b (Some h.key) (first_later labels l hs)) (none zero h (omega arith) refl))

key_of_hop : (f : ℕ → Hop) → KeepsKey f → (o : Option ℕ) → o ≡ option_map (λ (h : Hop). h.key) (option_map f o)
key_of_hop f same None = refl
key_of_hop f same (Some k) = ap (λ x. Some x) (sym (same k))

pub place_first : (labels : List ℕ) (l : Line) (keys : List ℕ) (f : ℕ → Hop) (next : Option ℕ) (place : ℕ) → KeepsKey f → StandsAt keys place next → IsPlace labels l (map f keys) place → AreInOrder labels (map f keys)
    → next ≡ first_later labels l (map f keys)
place_first labels l keys f next place same stands p order =
    sym stands.1 ∙ key_of_hop f same (slice_get keys place) ∙ ap (option_map (λ (h : Hop). h.key)) (sym (slice_get-map f keys place))
    ∙ first_at labels l (map f keys) place (none_before labels l (map f keys) place order p) p.behind

-- Along a fan-out.

-- how many wires stand before this one
abbrev pub passed : List ℕ → Option Hop → ℕ
passed keys None = length keys
passed keys (Some h) = place_of keys h.key

-- none before this place leads along the line
pub record Passed (l : Line) (hops : List Hop) (next : Option Hop) (place : ℕ) : Type 0 where
  pub here : next ≡ slice_get hops place
  pub rest : key_to l (drop place hops) ≡ key_to l hops

pub passed_none : (l : Line) (hops : List Hop) (next : Option Hop) → next ≡ slice_get hops 0 → Passed l hops next 0
passed_none l hops next is = record { here = is; rest = refl }

drop_at : (hops : List Hop) (i : ℕ) (h : Hop) → slice_get hops i ≡ Some h → drop i hops ≡ h ∷ drop (i + 1) hops
drop_at [] i h at = absurd (none-some h at)
drop_at (x ∷ xs) zero h at = ap (λ y. y ∷ xs) (same_Some x h at)
drop_at (x ∷ xs) (suc i) h at = let e : suc i + 1 ≡ suc (i + 1) = omega arith in drop_at xs i h at ∙ ap (λ n. h ∷ drop n (x ∷ xs)) (sym e)

pub passed_more : (l : Line) (hops : List Hop) (h : Hop) (i : ℕ) (next : Option Hop) → Passed l hops (Some h) i → leads_to l h ≡ false → next ≡ slice_get hops (i + 1) → Passed l hops next (i + 1)
passed_more l hops h i next p miss is = record {
  here = is;
  rest = sym (ap (key_to l) (drop_at hops i h (sym p.here)) ∙ ap (λ b. cond b (Some h.key) (key_to l (drop (i + 1) hops))) miss) ∙ p.rest;
}

pub passed_found : (l : Line) (hops : List Hop) (h : Hop) (i : ℕ) → Passed l hops (Some h) i → leads_to l h ≡ true → Some h.key ≡ key_to l hops
passed_found l hops h i p hit =
    sym (ap (key_to l) (drop_at hops i h (sym p.here)) ∙ ap (λ b. cond b (Some h.key) (key_to l (drop (i + 1) hops))) hit) ∙ p.rest

past : (l : Line) (hops : List Hop) (i : ℕ) → None ≡ slice_get hops i → None ≡ key_to l (drop i hops)
past l [] zero e = refl
past l [] (suc i) e = refl
past l (h ∷ hs) zero e = absurd (none-some h e)
past l (h ∷ hs) (suc i) e = past l hs i e

pub passed_all : (l : Line) (hops : List Hop) (i : ℕ) → Passed l hops None i → None ≡ key_to l hops
passed_all l hops i p = past l hops i p.here ∙ p.rest

-- the place of the next wire
pub passed_place : (keys : List ℕ) (f : ℕ → Hop) (l : Line) (h : Hop) (i : ℕ) → KeepsKey f → IsOnce keys → Passed l (map f keys) (Some h) i → (i ≡ place_of keys h.key) × (i < length keys)
passed_place keys f l h i same once p =
    let at = key_listed f same keys i h (sym p.here) in
    (sym (place_is keys i h.key once at), slice_get_within keys i h.key at)

-- the wire before which nothing is left to go over stands first
up_to_is : (labels : List ℕ) (l : Line) (keys : List ℕ) (f : ℕ → Hop) (next : Option ℕ) (hop : Option Hop) (place : ℕ) → KeepsKey f → IsOnce keys → Sought labels l keys (map f keys) next hop place → place ≡ up_to keys hop
up_to_is labels l keys f next None zero same once s = refl
up_to_is labels l keys f next None (suc i) same once s =
    let far = s.stands.0 in
    let long = length-map keys f in
    let d : Hop = record { key = 0; node = 0; port = 0 } in
    absurd (none-some (slice_index_or (map f keys) i d) (s.here ∙ slice_get-get_or (map f keys) i d (omega (arith, far, long))))
up_to_is labels l keys f next (Some h) place same once s = hop_place labels l keys f next h place same once s

pub sought_at : (labels : List ℕ) (l : Line) (keys : List ℕ) (f : ℕ → Hop) (next : Option ℕ) (hop : Option Hop) (place : ℕ) → KeepsKey f → IsOnce keys → Sought labels l keys (map f keys) next hop place
    → Sought labels l keys (map f keys) next hop (up_to keys hop)
sought_at labels l keys f next hop place same once s =
    let P : ℕ → Type 0 = Sought labels l keys (map f keys) next hop in subst P (up_to_is labels l keys f next hop place same once s) s

-- what is known of the feed before one
pub record IsBefore (hops : List Hop) (h : Hop) (before : Option Hop) : Type 0 where
  pub at_front : slice_get hops 0 ≡ Some h → before ≡ None
  pub behind : (i : ℕ) → slice_get hops (i + 1) ≡ Some h → before ≡ slice_get hops i

before_is : (hops : List Hop) (h : Hop) (before : Option Hop) (i : ℕ) → IsBefore hops h before → slice_get hops i ≡ Some h → before ≡ item_before hops i
before_is hops h before zero b at = b.at_front at
before_is hops h before (suc i) b at = let e : i + 1 ≡ suc i = omega arith in b.behind i (ap (slice_get hops) e ∙ at)

sought_here : (labels : List ℕ) (l : Line) (keys : List ℕ) (f : ℕ → Hop) (next : Option ℕ) (last : Option Hop) (h : Hop) → Sought labels l keys (map f keys) next last (up_to keys last) → last ≡ Some h
    → Sought labels l keys (map f keys) next (Some h) (suc (place_of keys h.key))
sought_here labels l keys f next last h s is = let P : Option Hop → Type 0 = λ o. Sought labels l keys (map f keys) next o (up_to keys o) in subst P is s

pub sought_step : (labels : List ℕ) (l : Line) (keys : List ℕ) (f : ℕ → Hop) (next : Option ℕ) (last : Option Hop) (h : Hop) (before : Option Hop) → KeepsKey f → IsOnce keys
    → Sought labels l keys (map f keys) next last (up_to keys last) → last ≡ Some h → comes_later labels l h ≡ true → IsBefore (map f keys) h before
    → Sought labels l keys (map f keys) (Some h.key) before (up_to keys before) × (up_to keys before < up_to keys last)
sought_step labels l keys f next last h before same once s is hit b =
    let here = sought_here labels l keys f next last h s is in
    let more = sought_more labels l keys f next h (place_of keys h.key) same here hit before (before_is (map f keys) h before (place_of keys h.key) b (sym here.here)) in
    let there = up_to_is labels l keys f (Some h.key) before (place_of keys h.key) same once more in
    let was : up_to keys last ≡ suc (place_of keys h.key) = ap (up_to keys) is in
    (sought_at labels l keys f (Some h.key) before (place_of keys h.key) same once more, omega (arith, there, was))

passed_at : (l : Line) (keys : List ℕ) (f : ℕ → Hop) (next : Option Hop) (place : ℕ) → KeepsKey f → IsOnce keys → Passed l (map f keys) next place → place ≤ length keys
    → Passed l (map f keys) next (passed keys next) × (place ≤ passed keys next)
passed_at l keys f None place same once p far =
    let long = length-map keys f in
    let none = slice_get_past (map f keys) (length keys) (omega (arith, long)) in
    (record { here = sym none; rest = sym (past l (map f keys) (length keys) (sym none)) ∙ passed_all l (map f keys) place p }, far)
passed_at l keys f (Some h) place same once p far =
    let there = (passed_place keys f l h place same once p).0 in
    let P : ℕ → Type 0 = Passed l (map f keys) (Some h) in
    (subst P there p, omega (arith, there))

passed_here : (l : Line) (keys : List ℕ) (f : ℕ → Hop) (next : Option Hop) (h : Hop) → Passed l (map f keys) next (passed keys next) → next ≡ Some h → Passed l (map f keys) (Some h) (place_of keys h.key)
passed_here l keys f next h p is = let P : Option Hop → Type 0 = λ o. Passed l (map f keys) o (passed keys o) in subst P is p

pub passed_first : (l : Line) (keys : List ℕ) (f : ℕ → Hop) (next : Option Hop) → KeepsKey f → IsOnce keys → next ≡ slice_get (map f keys) 0 → Passed l (map f keys) next (passed keys next)
passed_first l keys f next same once is = (passed_at l keys f next 0 same once (passed_none l (map f keys) next is) (omega arith)).0

pub passed_step : (l : Line) (keys : List ℕ) (f : ℕ → Hop) (next : Option Hop) (h : Hop) (after : Option Hop) → KeepsKey f → IsOnce keys → Passed l (map f keys) next (passed keys next) → next ≡ Some h → leads_to l h ≡ false
    → ((i : ℕ) → slice_get (map f keys) i ≡ Some h → after ≡ slice_get (map f keys) (i + 1))
    → Passed l (map f keys) after (passed keys after) × (length keys - passed keys after < length keys - passed keys next)
passed_step l keys f next h after same once p is miss behind =
    let here = passed_here l keys f next h p is in
    let more = passed_more l (map f keys) h (place_of keys h.key) after here miss (behind (place_of keys h.key) (sym here.here)) in
    let low = (passed_place keys f l h (place_of keys h.key) same once here).1 in
    let at = passed_at l keys f after (place_of keys h.key + 1) same once more (omega (arith, low)) in
    let far = at.1 in
    let was : passed keys next ≡ place_of keys h.key = ap (passed keys) is in
    (at.0, omega (arith, far, was, low))

pub passed_hit : (l : Line) (keys : List ℕ) (f : ℕ → Hop) (next : Option Hop) (h : Hop) → Passed l (map f keys) next (passed keys next) → next ≡ Some h → leads_to l h ≡ true → Some h.key ≡ key_to l (map f keys)
passed_hit l keys f next h p is hit = passed_found l (map f keys) h (place_of keys h.key) (passed_here l keys f next h p is) hit

pub passed_end : (l : Line) (keys : List ℕ) (f : ℕ → Hop) (next : Option Hop) → Passed l (map f keys) next (passed keys next) → next ≡ None → None ≡ key_to l (map f keys)
passed_end l keys f next p is =
    let P : Option Hop → Type 0 = λ o. Passed l (map f keys) o (passed keys o) in passed_all l (map f keys) (length keys) (subst P is p)
