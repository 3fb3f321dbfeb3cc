-- Along a list of wires, of which each gives a list.
use Rattle.std.proofs.Common.{◌≡◌, ◌≢◌, ℕ, zero, suc, ◌+◌, ◌-◌, ◌<◌, ◌≤◌, ◌==◌, cond, List, [], ◌∷◌, ◌++◌, map, length, take, Option, Some, None, refl, sym, ap, ◌∙◌, eq-eqb, ne_eqb, arith, append-nil}
use Rattle.std.specs.Prelude.{slice_get, option_map}
use Rattle.std.specs.List.{flat_map}
use mathlib.Core.Logic.{⊎_elim}
use Rattle.std.proofs.Math.Seq.{take-suc}
use Rattle.std.proofs.lemmas.Bool.{cases_eq, cases_lt}
use Rattle.std.proofs.lemmas.List.{flat_map_more, take_all}
use Rattle.std.proofs.lemmas.Option.{none-some, same_Some, slice_get-map, slice_get_within, get_or_from_slice_get}
use Rattle.pd_grove.specs.declared.ports.Side.TheVariants.{Inlets, Outlets}
use Rattle.pd_web.specs.declared.sockets.Spot.{Spot}
use Rattle.pd_web.specs.declared.web.Hop.{Hop}
use Rattle.pd_web.specs.declared.web.Web.{Web}
use Rattle.pd_web.specs.Hops.{fan_keys, feed_keys, hop_by, hop_to, hop_from}
use Rattle.pd_web.specs.Wiring.{source_at, sink_at}
use Rattle.pd_taking.specs.Loosening.{hops_at}

-- no wire stands twice
abbrev pub AreOnce : List Hop → Type 0
AreOnce hops = (i j : ℕ) (g h : Hop) → slice_get hops i ≡ Some g → slice_get hops j ≡ Some h → g.key ≡ h.key → i ≡ j

-- how many wires stand before the one of this key
abbrev place_of : List Hop → ℕ → ℕ
place_of [] k = zero
place_of (h ∷ hops) k = cond (h.key == k) zero (suc (place_of hops k))

-- how many wires were passed
abbrev pub passed : List Hop → Option Hop → ℕ
passed hops None = length hops
passed hops (Some h) = place_of hops h.key

place_found : (hops : List Hop) (i : ℕ) (h : Hop) → slice_get hops i ≡ Some h → (g : Hop) × ((slice_get hops (place_of hops h.key) ≡ Some g) × (g.key ≡ h.key))
place_found [] i h e = absurd (none-some h e)
place_found (x ∷ hops) zero h e =
    let same : x.key ≡ h.key = ap (λ (y : Hop). y.key) (same_Some x h e) in
    (x, (ap (λ b. slice_get (x ∷ hops) (cond b zero (suc (place_of hops h.key)))) (eq-eqb x.key h.key same), same))
place_found (x ∷ hops) (suc i) h e =
    let f = place_found hops i h e in
    ⊎_elim
    (λ (same : x.key ≡ h.key). (x, (ap (λ b. slice_get (x ∷ hops) (cond b zero (suc (place_of hops h.key)))) (eq-eqb x.key h.key same), same)))
    (λ (d : x.key ≢ h.key). (f.0, (ap (λ b. slice_get (x ∷ hops) (cond b zero (suc (place_of hops h.key)))) (ne_eqb x.key h.key d) ∙ f.1.0, f.1.1)))
    (cases_eq x.key h.key)

place_is : (hops : List Hop) (i : ℕ) (h : Hop) → AreOnce hops → slice_get hops i ≡ Some h → place_of hops h.key ≡ i
place_is hops i h once e = let f = place_found hops i h e in once (place_of hops h.key) i f.0 h f.1.0 e f.1.1

pub none_then : (hops : List Hop) (i : ℕ) → None ≡ slice_get hops i → length hops ≤ i
none_then hops i e = ⊎_elim
    (λ (l : i < length hops). let x = there hops i l in absurd (none-some x.0 (e ∙ x.1)))
    (λ (l : length hops ≤ i). l) (cases_lt i (length hops))
  where
    there : (hops : List Hop) (i : ℕ) → i < length hops → (h : Hop) × (slice_get hops i ≡ Some h)
    there [] i l = absurd (omega (arith, l))
    there (h ∷ hops) zero l = (h, refl)
    there (h ∷ hops) (suc i) l = there hops i (omega (arith, l))

pub passed_is : (hops : List Hop) (next : Option Hop) (i : ℕ) → AreOnce hops → next ≡ slice_get hops i → i ≤ length hops → passed hops next ≡ i
passed_is hops None i once e l = let m = none_then hops i e in omega (arith, m, l)
passed_is hops (Some h) i once e l = place_is hops i h once (sym e)

-- so many wires were passed, and what they give was put behind what there was
pub record IsWalked {X : Type 0} (f : Hop → List X) (hops : List Hop) (old now : List X) (next : Option Hop) : Type 0 where
  pub place : ℕ
  pub here : next ≡ slice_get hops place
  pub within : place ≤ length hops
  pub done : now ≡ old ++ flat_map f (take place hops)

module _ {X : Type 0} (f : Hop → List X) (hops : List Hop) (old : List X) where
  pub walk_first : (next : Option Hop) → next ≡ slice_get hops 0 → IsWalked f hops old old next
  walk_first next e = record { place = 0; here = e; within = omega arith; done = sym (append-nil old) }

  pub walk_next : (now more : List X) (h : Hop) (next : Option Hop) → IsWalked f hops old now (Some h) → more ≡ now ++ f h
      → ((i : ℕ) → slice_get hops i ≡ Some h → next ≡ slice_get hops (i + 1)) → IsWalked f hops old more next
  walk_next now more h next W e after =
      let at : slice_get hops W.place ≡ Some h = sym W.here in
      let l = slice_get_within hops W.place h at in
      let on : W.place + 1 ≡ suc W.place = omega arith in
      let taken : take (W.place + 1) hops ≡ take W.place hops ++ h ∷ [] =
      ap (λ n. take n hops) on ∙ take-suc hops W.place h l ∙ ap (λ (x : Hop). take W.place hops ++ x ∷ []) (get_or_from_slice_get hops W.place h h at) in
      record {
        place = W.place + 1;
        here = after W.place at;
        within = omega (arith, l);
        done = e ∙ ap (λ (xs : List X). xs ++ f h) W.done ∙ flat_map_more f old (take W.place hops) h ∙ ap (λ (hs : List Hop). old ++ flat_map f hs) (sym taken);
      }

  pub walk_smaller : (now : List X) (was next : Option Hop) (h : Hop) → was ≡ Some h → AreOnce hops → IsWalked f hops old now was
      → ((i : ℕ) → slice_get hops i ≡ Some h → next ≡ slice_get hops (i + 1)) → length hops - passed hops next < length hops - passed hops was
  walk_smaller now was next h is once W after =
      let at : slice_get hops W.place ≡ Some h = sym W.here ∙ is in
      let l = slice_get_within hops W.place h at in
      let a = passed_is hops was W.place once W.here W.within in
      let b = passed_is hops next (W.place + 1) once (after W.place at) (omega (arith, l)) in
      omega (arith, l, a, b)

  pub walk_all : (now : List X) (next : Option Hop) → next ≡ None → IsWalked f hops old now next → now ≡ old ++ flat_map f hops
  walk_all now next none W = W.done ∙ ap (λ (hs : List Hop). old ++ flat_map f hs) (take_all W.place hops (none_then hops W.place (sym none ∙ W.here)))

-- a wire has the key under which it is told
key_kept : (k : ℕ) (o : Option Spot) → (hop_by k o).key ≡ k
key_kept k None = refl
key_kept k (Some s) = refl

key_of : (f : ℕ → Hop) → ((k : ℕ) → (f k).key ≡ k) → (o : Option ℕ) (h : Hop) → option_map f o ≡ Some h → o ≡ Some h.key
key_of f kept None h e = absurd (none-some h e)
key_of f kept (Some k) h e = ap (λ x. Some x) (sym (kept k) ∙ ap (λ (x : Hop). x.key) (same_Some (f k) h e))

key_listed : (f : ℕ → Hop) → ((k : ℕ) → (f k).key ≡ k) → (keys : List ℕ) (i : ℕ) (h : Hop) → slice_get (map f keys) i ≡ Some h → slice_get keys i ≡ Some h.key
key_listed f kept keys i h e = key_of f kept (slice_get keys i) h (sym (slice_get-map f keys i) ∙ e)

pub fan_once : (w : Web) (node outlet : ℕ) → ((i j k : ℕ) → slice_get (fan_keys w node outlet) i ≡ Some k → slice_get (fan_keys w node outlet) j ≡ Some k → i ≡ j) → AreOnce (hops_at w Outlets node outlet)
fan_once w node outlet once i j g h a b e =
    let kept : (k : ℕ) → (hop_to w k).key ≡ k = (λ k. key_kept k (slice_get w.spots.items (sink_at w.book k))) in
    once i j g.key (key_listed (hop_to w) kept (fan_keys w node outlet) i g a) (key_listed (hop_to w) kept (fan_keys w node outlet) j h b ∙ ap (λ x. Some x) (sym e))

pub feed_once : (w : Web) (node inlet : ℕ) → ((i j k : ℕ) → slice_get (feed_keys w node inlet) i ≡ Some k → slice_get (feed_keys w node inlet) j ≡ Some k → i ≡ j) → AreOnce (hops_at w Inlets node inlet)
feed_once w node inlet once i j g h a b e =
    let kept : (k : ℕ) → (hop_from w k).key ≡ k = (λ k. key_kept k (slice_get w.spots.items (source_at w.book k))) in
    once i j g.key (key_listed (hop_from w) kept (feed_keys w node inlet) i g a) (key_listed (hop_from w) kept (feed_keys w node inlet) j h b ∙ ap (λ x. Some x) (sym e))
