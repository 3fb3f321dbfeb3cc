-- The wires that are gathered are those of the canvas that go.
use Rattle.std.proofs.Common.{◌≡◌, ◌≢◌, ℕ, ◌+◌, ◌<◌, ◌≤◌, ◌==◌, Bool, true, false, cond, not, ◌&&◌, ◌||◌, List, [], ◌∷◌, length, slice_get, Option, Some, refl, sym, ap, ◌∙◌, subst, inl, inr, eqb-true, arith}
use Rattle.std.specs.Prelude.{◌⊎◌}
use Rattle.std.specs.List.{flat_map, range_with_len, Contains}
use Rattle.std.specs.List.Sorted.{IsStrictlyIncreasing}
use Rattle.std.specs.Option.{option_map_or}
use mathlib.Core.Logic.{⊎_elim}
use Rattle.std.proofs.lemmas.Bool.{cases_eq, cases_lt}
use Rattle.std.proofs.lemmas.List.Kept.{AllPairs-from_increasing}
use Rattle.std.proofs.lemmas.Option.{same_Some}
use Rattle.pd_object.specs.declared.kinds.Kind.{Kind}
use Rattle.pd_grove.specs.declared.ports.Side.{Side}
use Rattle.pd_grove.specs.declared.ports.Side.TheVariants.{Inlets, Outlets}
use Rattle.pd_web.specs.declared.web.Hop.{Hop}
use Rattle.pd_web.specs.declared.web.Web.{Web}
use Rattle.pd_web.specs.Canvases.{keys_at}
use Rattle.pd_web.specs.Hops.{ports_told, fan_hops, feed_hops}
use Rattle.pd_web.specs.Changes.{hop_at, IsListed, Meet}
use Rattle.pd_present.specs.Presents.{number_in}
use Rattle.pd_patch.specs.declared.patch.Patch.{Patch}
use Rattle.pd_patch.specs.Linked.{ShareCanvas}
use Rattle.pd_patch.specs.Listing.{IsThere}
use Rattle.pd_wiring.specs.Changes.{CanRewire}
use Rattle.pd_wiring.proofs.WebLemmas.{line_inside}
use Rattle.pd_taking.specs.Loosening.{hops_at, line_at}
use Rattle.pd_taking.proofs.LoosenLemmas.{none_beyond}
use Rattle.pd_misfits.specs.Misfits.{picked, picks, wants, wire_from, wire_of}
use Rattle.pd_misfits.specs.declared.wires.Fate.{Fate}
use Rattle.pd_misfits.specs.Ranks.{rank_of, own_ranks, rank_fed, inlet_ranks, fed_ranks, ranks_at, wires_under}
use Rattle.pd_misfits.proofs.ListLemmas.{contains_in, flat_none, flat_same, from_flat, from_map, from_range, in_contained, in_either, in_flat, in_left, in_listed, in_map, in_range, in_right, listed_in, rise_from, IsIn}
use Rattle.pd_misfits.proofs.RankLemmas.{from_ranks, in_ranks, ranks_from, ranks_give, ranks_rise, under_is}

-- Bools.

pub not_so : (b : Bool) → not b ≡ true → b ≡ false
not_so true e = cc
not_so false e = refl

pub both_left : (a b : Bool) → (a && b) ≡ true → a ≡ true
both_left true b e = refl
both_left false b e = cc

pub both_right : (a b : Bool) → (a && b) ≡ true → b ≡ true
both_right true b e = e
both_right false b e = cc

second_then : (a b : Bool) → a ≡ false → (a || b) ≡ true → b ≡ true
second_then true b f e = cc
second_then false b f e = e

none_in : {X : Type 0} (x : X) (xs : List X) → xs ≡ [] → IsIn x xs → ⊥
none_in x [] e h = h
none_in x (y ∷ ys) e h = cc

-- what a choice has
pub chosen : {X : Type 0} (b : Bool) (x y : X) → IsIn y (cond b (x ∷ []) []) → (b ≡ true) × (x ≡ y)
chosen true x y h = (refl, ⊎_elim (λ (e : x ≡ y). e) (λ (n : IsIn y []). absurd n) h)
chosen false x y h = absurd h

pub choose : {X : Type 0} (b : Bool) (x : X) → b ≡ true → IsIn x (cond b (x ∷ []) [])
choose true x e = inl refl
choose false x e = cc

any_or_none : (g : Hop → Bool) (hops : List Hop) → ((h : Hop) × (IsIn h hops × (g h ≡ true))) ⊎ ((h : Hop) → IsIn h hops → g h ≡ false)
any_or_none g [] = inr (λ h i. absurd i)
any_or_none g (x ∷ xs) = step (g x) refl (any_or_none g xs)
  where
    step : (b : Bool) → g x ≡ b → ((h : Hop) × (IsIn h xs × (g h ≡ true))) ⊎ ((h : Hop) → IsIn h xs → g h ≡ false)
        → ((h : Hop) × (IsIn h (x ∷ xs) × (g h ≡ true))) ⊎ ((h : Hop) → IsIn h (x ∷ xs) → g h ≡ false)
    step true e r = inl (x, (inl refl, e))
    step false e (inl f) = inl (f.0, (inr f.1.0, f.1.1))
    step false e (inr n) = inr (λ h i. ⊎_elim (λ (s : x ≡ h). ap g (sym s) ∙ e) (λ (j : IsIn h xs). n h j) i)

nothing_else : {X : Type 0} (b : Bool) (x : X) → b ≡ false → cond b (x ∷ []) [] ≡ []
nothing_else true x e = cc
nothing_else false x e = refl

from_zero : (n : ℕ) → 0 + n ≡ n
from_zero n = omega arith

-- a port with a wire is there
pub port_there : (w : Web) (side : Side) (box port : ℕ) (h : Hop) → IsIn h (hops_at w side box port) → port < length (ports_told w side box)
port_there w side box port h i = ⊎_elim
    (λ (l : port < length (ports_told w side box)). l)
    (λ (l : length (ports_told w side box) ≤ port). absurd (none_in h (hops_at w side box port) (none_beyond w side box port l) i))
    (cases_lt port (length (ports_told w side box)))

module _ (fate : Fate) (p : Patch) (canvas key : ℕ) (k : Kind) (R : CanRewire p) (meet : Meet p.web) (here : IsThere (keys_at p.grove canvas) key) where
  pub number_is : (i node : ℕ) → slice_get (keys_at p.grove canvas) i ≡ Some node → number_in p.numbers.items node ≡ i
  number_is i node e = ap (λ (o : Option ℕ). option_map_or (λ (n : ℕ). n) o 0) (R.numbers canvas i node e)

  -- a wire to the box comes from a box of its canvas
  pub feeder : (inlet : ℕ) (h : Hop) → IsIn h (feed_hops p.web key inlet) → IsThere (keys_at p.grove canvas) h.node
  feeder inlet h i =
      let l = listed_in h (feed_hops p.web key inlet) i in
      let f = meet.fanned key inlet l.0 h l.1 in
      let share : ShareCanvas p.grove h.node key = line_inside p.grove p.web h.key (line_at Inlets key inlet h) R.inside (record { place = f.0; stands = f.1 }) in
      let same : share.canvas ≡ canvas = same_Some share.canvas canvas (sym (R.own.home share.canvas share.other.0 key share.other.1) ∙ R.own.home canvas here.0 key here.1) in
      subst (λ c. IsThere (keys_at p.grove c) h.node) same share.one

  own_in : (x : ℕ) → IsIn x (own_ranks p.web p.numbers.items key) → IsIn x (ranks_from p.web 0 (keys_at p.grove canvas))
  own_in x a =
      let n = length (ports_told p.web Outlets key) in
      let m = from_map (rank_of (number_in p.numbers.items key)) (range_with_len 0 n) x a in
      let r = from_range 0 n m.0 m.1.0 in
      let l = r.1 in
      let same : rank_of (0 + here.0) m.0 ≡ x = ap (λ i. rank_of i m.0) (from_zero here.0 ∙ sym (number_is here.0 key here.1)) ∙ m.1.1 in
      subst (λ y. IsIn y (ranks_from p.web 0 (keys_at p.grove canvas))) same (in_ranks p.web 0 (keys_at p.grove canvas) here.0 key m.0 here.1 (omega (arith, l)))

  fed_in : (x : ℕ) → IsIn x (fed_ranks fate p.web p.numbers.items key k) → IsIn x (ranks_from p.web 0 (keys_at p.grove canvas))
  fed_in x b =
      let F = from_flat (inlet_ranks fate p.web p.numbers.items key k) (range_with_len 0 (length (ports_told p.web Inlets key))) x b in
      let G = from_flat (rank_fed fate p.web p.numbers.items key k F.of) (feed_hops p.web key F.of) x F.has in
      let h = G.of in
      let e = chosen (wants fate p.web key k (line_at Inlets key F.of h)) (rank_of (number_in p.numbers.items h.node) h.port) x G.has in
      let t = feeder F.of h G.is_in in
      let l = listed_in h (feed_hops p.web key F.of) G.is_in in
      let f = meet.fanned key F.of l.0 h l.1 in
      let there : h.port < length (ports_told p.web Outlets h.node) = port_there p.web Outlets h.node h.port (hop_at h.key key F.of) (in_listed (hop_at h.key key F.of) (fan_hops p.web h.node h.port) f.0 f.1) in
      let same : rank_of (0 + t.0) h.port ≡ x = ap (λ i. rank_of i h.port) (from_zero t.0 ∙ sym (number_is t.0 h.node t.1)) ∙ e.1 in
      subst (λ y. IsIn y (ranks_from p.web 0 (keys_at p.grove canvas))) same (in_ranks p.web 0 (keys_at p.grove canvas) t.0 h.node h.port t.1 there)

  in_all : (x : ℕ) → IsIn x (ranks_at fate p.web p.numbers.items key k) → IsIn x (ranks_from p.web 0 (keys_at p.grove canvas))
  in_all x h = ⊎_elim
      (λ (a : IsIn x (own_ranks p.web p.numbers.items key)). own_in x a)
      (λ (b : IsIn x (fed_ranks fate p.web p.numbers.items key k)). fed_in x b)
      (in_either x (own_ranks p.web p.numbers.items key) (fed_ranks fate p.web p.numbers.items key k) h)

  -- an outlet of another box from which a wire comes that goes
  goes_in : (node o : ℕ) (h : Hop) → (node ≡ key → ⊥) → IsIn h (fan_hops p.web node o) → picks fate p.web key k (line_at Outlets node o h) ≡ true
      → IsIn (rank_of (number_in p.numbers.items node) o) (fed_ranks fate p.web p.numbers.items key k)
  goes_in node o h d i g =
      let l = listed_in h (fan_hops p.web node o) i in
      let at : (node == key || h.node == key) ≡ true = both_left (node == key || h.node == key) (wants fate p.web key k (line_at Outlets node o h)) g in
      let meant : wants fate p.web key k (line_at Outlets node o h) ≡ true = both_right (node == key || h.node == key) (wants fate p.web key k (line_at Outlets node o h)) g in
      let to : h.node ≡ key = eqb-true h.node key (second_then (node == key) (h.node == key) (other node d) at) in
      let fed : IsListed (feed_hops p.web key h.port) (hop_at h.key node o) = subst (λ n. IsListed (feed_hops p.web n h.port) (hop_at h.key node o)) to (meet.fed node o l.0 h l.1) in
      let meant_there : wants fate p.web key k (record { source = node; outlet = o; sink = key; inlet = h.port }) ≡ true =
      subst (λ n. wants fate p.web key k (record { source = node; outlet = o; sink = n; inlet = h.port }) ≡ true) to meant in
      let is_in = in_listed (hop_at h.key node o) (feed_hops p.web key h.port) fed.0 fed.1 in
      let rank = rank_of (number_in p.numbers.items node) o in
      let there = port_there p.web Inlets key h.port (hop_at h.key node o) is_in in
      in_flat (inlet_ranks fate p.web p.numbers.items key k) (range_with_len 0 (length (ports_told p.web Inlets key))) h.port rank (in_range 0 (length (ports_told p.web Inlets key)) h.port (omega arith) (omega (arith, there)))
      (in_flat (rank_fed fate p.web p.numbers.items key k h.port) (feed_hops p.web key h.port) (hop_at h.key node o) rank is_in
      (choose (wants fate p.web key k (record { source = node; outlet = o; sink = key; inlet = h.port })) rank meant_there))
    where
      other : (n : ℕ) → (n ≡ key → ⊥) → (n == key) ≡ false
      other n d = step (n == key) refl
        where
          step : (b : Bool) → (n == key) ≡ b → b ≡ false
          step true e = absurd (d (eqb-true n key e))
          step false e = refl

  gives : (y : ℕ) → IsIn y (ranks_from p.web 0 (keys_at p.grove canvas))
      → IsIn y (ranks_at fate p.web p.numbers.items key k) ⊎ (wires_under fate p.web p.numbers.items (keys_at p.grove canvas) key k y ≡ [])
  gives y h =
      let r = from_ranks p.web 0 (keys_at p.grove canvas) y h in
      let number : number_in p.numbers.items r.node ≡ r.place = number_is r.place r.node r.here in
      let same : rank_of (number_in p.numbers.items r.node) r.outlet ≡ y = ap (λ i. rank_of i r.outlet) (number ∙ sym (from_zero r.place)) ∙ sym r.is in
      let within = r.within in
      ⊎_elim
      (λ (e : r.node ≡ key).
      let range = range_with_len 0 (length (ports_told p.web Outlets key)) in
      let l : r.outlet < length (ports_told p.web Outlets key) = subst (λ n. r.outlet < length (ports_told p.web Outlets n)) e within in
      let own : rank_of (number_in p.numbers.items key) r.outlet ≡ y = ap (λ n. rank_of (number_in p.numbers.items n) r.outlet) (sym e) ∙ same in
      inl (in_left y (own_ranks p.web p.numbers.items key) (fed_ranks fate p.web p.numbers.items key k)
      (subst (λ z. IsIn z (own_ranks p.web p.numbers.items key)) own
      (in_map (rank_of (number_in p.numbers.items key)) range r.outlet (in_range 0 (length (ports_told p.web Outlets key)) r.outlet (omega arith) (omega (arith, l)))))))
      (λ (d : r.node ≢ key). ⊎_elim
      (λ (f : (h : Hop) × (IsIn h (fan_hops p.web r.node r.outlet) × (picks fate p.web key k (line_at Outlets r.node r.outlet h) ≡ true))).
      inl (in_right y (own_ranks p.web p.numbers.items key) (fed_ranks fate p.web p.numbers.items key k)
      (subst (λ z. IsIn z (fed_ranks fate p.web p.numbers.items key k)) same (goes_in r.node r.outlet f.0 d f.1.0 f.1.1))))
      (λ (n : (h : Hop) → IsIn h (fan_hops p.web r.node r.outlet) → picks fate p.web key k (line_at Outlets r.node r.outlet h) ≡ false).
      inr (ap (wires_under fate p.web p.numbers.items (keys_at p.grove canvas) key k) r.is
      ∙ under_is fate p.web p.numbers.items (keys_at p.grove canvas) key k (0 + r.place) r.outlet r.node (ap (slice_get (keys_at p.grove canvas)) (from_zero r.place) ∙ r.here) within
      ∙ flat_none (wire_from fate p.web p.numbers.items key k r.node r.outlet) (fan_hops p.web r.node r.outlet)
      (λ h i. nothing_else (picks fate p.web key k (line_at Outlets r.node r.outlet h)) (wire_of p.numbers.items h.key (line_at Outlets r.node r.outlet h)) (n h i))))
      (any_or_none (λ h. picks fate p.web key k (line_at Outlets r.node r.outlet h)) (fan_hops p.web r.node r.outlet)))
      (cases_eq r.node key)

  -- what outlets in order give, of which these may be the ones
  pub gathered_are : (ranks : List ℕ) → IsStrictlyIncreasing ranks → ((x : ℕ) → Contains ranks x → Contains (ranks_at fate p.web p.numbers.items key k) x)
      → ((x : ℕ) → Contains (ranks_at fate p.web p.numbers.items key k) x → Contains ranks x)
      → flat_map (wires_under fate p.web p.numbers.items (keys_at p.grove canvas) key k) ranks ≡ picked fate p canvas key k
  gathered_are ranks rise are all =
      flat_same (wires_under fate p.web p.numbers.items (keys_at p.grove canvas) key k) (ranks_from p.web 0 (keys_at p.grove canvas)) ranks
      (rise_from ranks (AllPairs-from_increasing ranks rise)) (ranks_rise p.web 0 (keys_at p.grove canvas))
      (λ x i. in_all x (in_contained x (ranks_at fate p.web p.numbers.items key k) (are x (contains_in x ranks i))))
      (λ y i. ⊎_elim
      (λ (a : IsIn y (ranks_at fate p.web p.numbers.items key k)). inl (in_contained y ranks (all y (contains_in y (ranks_at fate p.web p.numbers.items key k) a))))
      (λ (n : wires_under fate p.web p.numbers.items (keys_at p.grove canvas) key k y ≡ []). inr n) (gives y i))
      ∙ ranks_give fate p.web p.numbers.items (keys_at p.grove canvas) key k 0 (keys_at p.grove canvas) (λ j. ap (slice_get (keys_at p.grove canvas)) (sym (from_zero j)))
