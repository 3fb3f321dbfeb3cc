-- Lists of which some elements are left, in their order.
use Rattle.std.proofs.Common.{◌≡◌, ◌≤◌, ℕ, zero, suc, Bool, true, false, cond, List, [], ◌∷◌, map, filter, slice_get, Some, refl, ap, ◌∙◌, arith}
use Rattle.std.specs.List.{AllByRecursion}
use Rattle.pd_web.specs.declared.web.Hop.{Hop}
use Rattle.pd_seek.specs.Places.{AreInOrder}
use Rattle.pd_patch.specs.Numbers.{AreApart}

-- the place of an element behind the first one, which is left or not
abbrev behind : Bool → (ℕ → ℕ) → ℕ → ℕ
behind true f zero = zero
behind true f (suc i) = suc (f i)
behind false f i = suc (f i)

-- where the element stood that is left at a place
abbrev pub was_at : {X : Type 0} → (X → Bool) → List X → ℕ → ℕ
was_at p [] i = i
was_at p (x ∷ xs) i = behind (p x) (was_at p xs) i

module _ {X Y : Type 0} (f : X → Y) (p : X → Bool) where
  stood : (xs : List X) (i : ℕ) (y : Y) → slice_get (map f (filter p xs)) i ≡ Some y → slice_get (map f xs) (was_at p xs i) ≡ Some y
  stood [] i y e = e
  stood (x ∷ xs) i y e = step (p x) i (λ j h. stood xs j y h) e
    where
      step : (b : Bool) (i : ℕ) → ((j : ℕ) → slice_get (map f (filter p xs)) j ≡ Some y → slice_get (map f xs) (was_at p xs j) ≡ Some y)
          → slice_get (map f (cond b (x ∷ filter p xs) (filter p xs))) i ≡ Some y → slice_get (map f (x ∷ xs)) (behind b (was_at p xs) i) ≡ Some y
      step true zero rec e = e
      step true (suc i) rec e = rec i e
      step false i rec e = rec i e

module _ {X : Type 0} (p : X → Bool) where
  there : (xs : List X) (i : ℕ) (y : X) → slice_get (filter p xs) i ≡ Some y → slice_get xs (was_at p xs i) ≡ Some y
  there [] i y e = e
  there (x ∷ xs) i y e = step (p x) i (λ j h. there xs j y h) e
    where
      step : (b : Bool) (i : ℕ) → ((j : ℕ) → slice_get (filter p xs) j ≡ Some y → slice_get xs (was_at p xs j) ≡ Some y)
          → slice_get (cond b (x ∷ filter p xs) (filter p xs)) i ≡ Some y → slice_get (x ∷ xs) (behind b (was_at p xs) i) ≡ Some y
      step true zero rec e = e
      step true (suc i) rec e = rec i e
      step false i rec e = rec i e

  rises : (xs : List X) (i j : ℕ) → i ≤ j → was_at p xs i ≤ was_at p xs j
  rises [] i j l = l
  rises (x ∷ xs) i j l = step (p x) i j l (rises xs)
    where
      step : (b : Bool) (i j : ℕ) → i ≤ j → ((i j : ℕ) → i ≤ j → was_at p xs i ≤ was_at p xs j) → behind b (was_at p xs) i ≤ behind b (was_at p xs) j
      step true zero j l rec = omega arith
      step true (suc i) zero l rec = absurd (omega (arith, l))
      step true (suc i) (suc j) l rec = let r = rec i j (omega (arith, l)) in omega (arith, r)
      step false i j l rec = let r = rec i j l in omega (arith, r)

  once : (xs : List X) (i j : ℕ) → was_at p xs i ≡ was_at p xs j → i ≡ j
  once [] i j e = e
  once (x ∷ xs) i j e = step (p x) i j e (once xs)
    where
      step : (b : Bool) (i j : ℕ) → behind b (was_at p xs) i ≡ behind b (was_at p xs) j → ((i j : ℕ) → was_at p xs i ≡ was_at p xs j → i ≡ j) → i ≡ j
      step true zero zero e rec = refl
      step true zero (suc j) e rec = absurd (omega (arith, e))
      step true (suc i) zero e rec = absurd (omega (arith, e))
      step true (suc i) (suc j) e rec = ap (λ n. suc n) (rec i j (omega (arith, e)))
      step false i j e rec = rec i j (omega (arith, e))

  -- all are left
  pub all_left : (xs : List X) → ((i : ℕ) (x : X) → slice_get xs i ≡ Some x → p x ≡ true) → filter p xs ≡ xs
  all_left [] h = refl
  all_left (x ∷ xs) h =
      ap (λ (b : Bool). cond b (x ∷ filter p xs) (filter p xs)) (h 0 x refl) ∙ ap (λ (ys : List X). x ∷ ys) (all_left xs (λ i y e. h (suc i) y e))

-- what all were those are that are left
pub left_all : {X Y : Type 0} (P : Y → Type 0) (f : X → Y) (p : X → Bool) (xs : List X) → AllByRecursion P (map f xs) → AllByRecursion P (map f (filter p xs))
left_all P f p [] h = tt
left_all P f p (x ∷ xs) h = step (p x) h.0 (left_all P f p xs h.1)
  where
    step : (b : Bool) → P (f x) → AllByRecursion P (map f (filter p xs)) → AllByRecursion P (map f (cond b (x ∷ filter p xs) (filter p xs)))
    step true a rest = (a, rest)
    step false a rest = rest

-- keys that were apart stay so
pub left_apart : (p : Hop → Bool) (hops : List Hop) → AreApart (map (λ (h : Hop). h.key) hops) → AreApart (map (λ (h : Hop). h.key) (filter p hops))
left_apart p hops a i j k d e =
    once p hops i j (a (was_at p hops i) (was_at p hops j) k (stood (λ (h : Hop). h.key) p hops i k d) (stood (λ (h : Hop). h.key) p hops j k e))

-- and feeds in order
pub left_ordered : (labels : List ℕ) (p : Hop → Bool) (hops : List Hop) → AreInOrder labels hops → AreInOrder labels (filter p hops)
left_ordered labels p hops o i j g h l d e = o (was_at p hops i) (was_at p hops j) g h (rises p hops i j l) (there p hops i g d) (there p hops j h e)
