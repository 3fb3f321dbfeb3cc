-- The wires to inlets, where a box went.
use Rattle.std.proofs.Common.{◌≡◌, ◌≢◌, ℕ, zero, suc, Bool, true, false, cond, List, [], ◌∷◌, filter, slice_get, Option, Some, None, refl, sym, ap, ◌∙◌, inl, inr, arith}
use Rattle.std.specs.Prelude.{option_map}
use Rattle.std.proofs.lemmas.Bool.Decides.{nat_tests}
use Rattle.std.proofs.lemmas.Bool.{both_ways}
use Rattle.std.proofs.lemmas.Option.{none-some, same_Some, slice_get-map}
use Rattle.pd_web.specs.declared.sockets.Spot.{Spot}
use Rattle.pd_web.specs.declared.web.Hop.{Hop}
use Rattle.pd_web.specs.declared.web.Web.{Web}
use Rattle.pd_web.specs.Changes.{hop_at, line_by, Meet}
use Rattle.pd_web.specs.Hops.{feed_hops, feed_keys, hop_by, hop_from}
use Rattle.pd_web.specs.Wiring.{source_at}
use Rattle.pd_patch.specs.declared.patch.Patch.{Patch}
use Rattle.pd_boxes.specs.Put.{CanPut}
use Rattle.pd_owning.specs.Bound.{is_among}
use Rattle.pd_reload_law.proofs.SortedLemmas.{by_test}
use Rattle.pd_alike_law.specs.Feeds.{FedOnce}
use Rattle.pd_taking.specs.Loosening.{is_of_other}
use Rattle.pd_clearing.specs.Losing.{IsAtOne}
use Rattle.pd_take_law.proofs.GoneLemmas.{BoxWent, feeder_out}

-- Lists.

nothing_there : {X : Type 0} (x : X) (i : ℕ) → slice_get [] i ≡ Some x → ⊥
nothing_there x zero h = none-some x h
nothing_there x (suc i) h = none-some x h

-- what is left passes and stood in the list
pub record Passed {X : Type 0} (p : X → Bool) (xs : List X) (x : X) : Type 0 where
  pub place : ℕ
  pub stood : slice_get xs place ≡ Some x
  pub passes : p x ≡ true

pub passed : {X : Type 0} (p : X → Bool) (xs : List X) (x : X) (n : ℕ) → slice_get (filter p xs) n ≡ Some x → Passed p xs x
passed p [] x n e = absurd (nothing_there x n e)
passed {X} p (y ∷ xs) x n e = step (p y) refl n e (λ m a. passed p xs x m a)
  where
    later : Passed p xs x → Passed p (y ∷ xs) x
    later r = record { place = suc r.place; stood = r.stood; passes = r.passes }

    step : (b : Bool) → p y ≡ b → (n : ℕ) → slice_get (cond b (y ∷ filter p xs) (filter p xs)) n ≡ Some x
        → ((m : ℕ) → slice_get (filter p xs) m ≡ Some x → Passed p xs x) → Passed p (y ∷ xs) x
    step true t zero e r = record { place = 0; stood = e; passes = ap p (sym (same_Some y x e)) ∙ t }
    step true t (suc n) e r = later (r n e)
    step false t n e r = later (r n e)

-- what stood once is left once
left_once : {X : Type 0} (p : X → Bool) (xs : List X) (x : X) → ((i j : ℕ) → slice_get xs i ≡ Some x → slice_get xs j ≡ Some x → i ≡ j)
    → (i j : ℕ) → slice_get (filter p xs) i ≡ Some x → slice_get (filter p xs) j ≡ Some x → i ≡ j
left_once p [] x once i j a b = absurd (nothing_there x i a)
left_once {X} p (y ∷ xs) x once i j a b = step (p y) i j a b (left_once p xs x (λ m n c d. less m n (once (suc m) (suc n) c d)))
  where
    less : (m n : ℕ) → suc m ≡ suc n → m ≡ n
    less m n e = omega (arith, e)

    twice : (n : ℕ) → y ≡ x → slice_get (filter p xs) n ≡ Some x → ⊥
    twice n e at = let q = passed p xs x n at in let same = once 0 (suc q.place) (ap (λ z. Some z) e) q.stood in omega (arith, same)

    step : (b : Bool) (i j : ℕ) → slice_get (cond b (y ∷ filter p xs) (filter p xs)) i ≡ Some x → slice_get (cond b (y ∷ filter p xs) (filter p xs)) j ≡ Some x
        → ((m n : ℕ) → slice_get (filter p xs) m ≡ Some x → slice_get (filter p xs) n ≡ Some x → m ≡ n) → i ≡ j
    step true zero zero a b rest = refl
    step true zero (suc j) a b rest = absurd (twice j (same_Some y x a) b)
    step true (suc i) zero a b rest = absurd (twice i (same_Some y x b) a)
    step true (suc i) (suc j) a b rest = ap suc (rest i j a b)
    step false i j a b rest = rest i j a b

-- Wires and their keys.

hop_key : (k : ℕ) (o : Option Spot) → (hop_by k o).key ≡ k
hop_key k None = refl
hop_key k (Some s) = refl

key_at : (w : Web) (node inlet i k : ℕ) → slice_get (feed_keys w node inlet) i ≡ Some k → slice_get (feed_hops w node inlet) i ≡ Some (hop_from w k)
key_at w node inlet i k e = slice_get-map (hop_from w) (feed_keys w node inlet) i ∙ ap (option_map (hop_from w)) e

some_key : (w : Web) (o : Option ℕ) (h : Hop) → option_map (hop_from w) o ≡ Some h → o ≡ Some h.key
some_key w None h e = absurd (none-some h e)
some_key w (Some k) h e = ap (λ x. Some x) (sym (hop_key k (slice_get w.spots.items (source_at w.book k))) ∙ ap (λ (x : Hop). x.key) (same_Some (hop_from w k) h e))

key_of : (w : Web) (node inlet i : ℕ) (h : Hop) → slice_get (feed_hops w node inlet) i ≡ Some h → slice_get (feed_keys w node inlet) i ≡ Some h.key
key_of w node inlet i h e = some_key w (slice_get (feed_keys w node inlet) i) h (sym (slice_get-map (hop_from w) (feed_keys w node inlet) i) ∙ e)

-- the wires of a list of feeds, of which some are gone
pub once_left : (w v : Web) (keep : Hop → Bool) (node inlet : ℕ) → feed_hops v node inlet ≡ filter (keep) (feed_hops w node inlet)
    → ((i j k : ℕ) → slice_get (feed_keys w node inlet) i ≡ Some k → slice_get (feed_keys w node inlet) j ≡ Some k → i ≡ j)
    → (i j k : ℕ) → slice_get (feed_keys v node inlet) i ≡ Some k → slice_get (feed_keys v node inlet) j ≡ Some k → i ≡ j
once_left w v keep node inlet same once i j k a b =
    let x = hop_from v k in
    left_once (keep) (feed_hops w node inlet) x (λ m n c d. once m n x.key (key_of w node inlet m x c) (key_of w node inlet n x d)) i j
    (ap (λ (hs : List Hop). slice_get hs i) (sym same) ∙ key_at v node inlet i k a) (ap (λ (hs : List Hop). slice_get hs j) (sym same) ∙ key_at v node inlet j k b)

pub from_other : (key : ℕ) (h : Hop) → is_of_other key h ≡ true → h.node ≢ key
from_other key h t e = grind (arith, nat_tests)

module _ (old new : Patch) (path : List ℕ) (canvas key number : ℕ) (part : List ℕ) (D : BoxWent old new path canvas key number part) where
  none_fed : (node inlet : ℕ) → is_among part node ≡ true → feed_hops new.web node inlet ≡ []
  none_fed node inlet at = (D.wires.bare node at).feeds inlet

  pub still_fed : CanPut old → Meet old.web → FedOnce old.web → FedOnce new.web
  still_fed C meet F = record {
    lines = λ node inlet i h e. by_test (is_among part node)
        (λ at. absurd (nothing_there h i (ap (λ (hs : List Hop). slice_get hs i) (sym (none_fed node inlet at)) ∙ e)))
        (λ out.
        let p = passed (is_of_other key) (feed_hops old.web node inlet) h i (ap (λ (hs : List Hop). slice_get hs i) (sym (D.wires.feeds node inlet out)) ∙ e) in
        let far = feeder_out old new path canvas key number part D C meet node inlet p.place h out p.stood (from_other key h p.passes) in
        D.wires.other_lines h.key (line_by h (hop_at h.key node inlet)) (apart node inlet h out far) (F.lines node inlet p.place h p.stood));
    once = λ node inlet i j k x y. by_test (is_among part node)
        (λ at. absurd (nothing_there (hop_from new.web k) i (ap (λ (hs : List Hop). slice_get hs i) (sym (none_fed node inlet at)) ∙ key_at new.web node inlet i k x)))
        (λ out. once_left old.web new.web (is_of_other key) node inlet (D.wires.feeds node inlet out) (F.once node inlet) i j k x y);
  }
    where
      apart : (node inlet : ℕ) (h : Hop) → is_among part node ≡ false → is_among part h.node ≡ false → IsAtOne part (line_by h (hop_at h.key node inlet)) → ⊥
      apart node inlet h out far (inl s) = both_ways (is_among part h.node) far s
      apart node inlet h out far (inr s) = both_ways (is_among part node) out s
