-- A list with one more, and numbers behind it.
use Rattle.std.proofs.Common.{◌≡◌, ◌≢◌, ◌⊎◌, ℕ, zero, suc, ◌<◌, ◌≤◌, Bool, cond, lt-ltb, List, [], ◌∷◌, map, length, slice_get, Some, inl, inr, refl, sym, ap, ◌∙◌, arith}
use Rattle.std.specs.List.{insert}
use Rattle.std.proofs.lemmas.Bool.{cases_lt}
use Rattle.std.proofs.lemmas.Bool.Decides.{nat_tests}
use Rattle.pd_following.specs.Raising.{up}

-- a number before the new one stays, and one behind it is the next
pub up_before : (at i : ℕ) → i < at → up at i ≡ i
up_before at i l = ap (λ (b : Bool). cond b i (suc i)) (lt-ltb i at l)

pub up_behind : (at i : ℕ) → at ≤ i → up at i ≡ suc i
up_behind at i l = grind (arith, nat_tests)

-- each number is the new one or that of one that was there
pub up_or : (at n : ℕ) → (n ≡ at) ⊎ ((i : ℕ) × (n ≡ up at i))
up_or zero zero = inl refl
up_or zero (suc n) = inr (n, sym (up_behind zero n (omega arith)))
up_or (suc at) n = elim (cases_lt n (suc at)) [
  | inl l ↦ inr (n, sym (up_before (suc at) n l))
  | inr l ↦ later n l
]
  where
    later : (n : ℕ) → suc at ≤ n → (n ≡ suc at) ⊎ ((i : ℕ) × (n ≡ up (suc at) i))
    later zero l = absurd (omega (arith, l))
    later (suc n) l = elim (cases_lt n (suc at)) [
      | inl m ↦ inl (omega (arith, l, m))
      | inr m ↦ inr (n, sym (up_behind (suc at) n m))
    ]

pub up_not : (at i : ℕ) → up at i ≢ at
up_not at i e = elim (cases_lt i at) [
  | inl l ↦ let u = up_before at i l in omega (arith, u, e, l)
  | inr l ↦ let u = up_behind at i l in omega (arith, u, e, l)
]

pub up_order : (at i j : ℕ) → i ≤ j → up at i ≤ up at j
up_order at i j h = elim (cases_lt i at) [
  | inl l ↦ elim (cases_lt j at) [
    | inl m ↦ let u = up_before at i l in let v = up_before at j m in omega (arith, u, v, h)
    | inr m ↦ let u = up_before at i l in let v = up_behind at j m in omega (arith, u, v, h)
  ]
  | inr l ↦ let u = up_behind at i l in let v = up_behind at j (omega (arith, l, h)) in omega (arith, u, v, h)
]

module _ {X : Type 0} where
  pub insert_here : (xs : List X) (at : ℕ) (x : X) → at ≤ length xs → slice_get (insert xs at x) at ≡ Some x
  insert_here xs zero x l = refl
  insert_here [] (suc at) x l = absurd (omega (arith, l))
  insert_here (y ∷ xs) (suc at) x l = insert_here xs at x (omega (arith, l))

  insert_before : (xs : List X) (at i : ℕ) (x : X) → at ≤ length xs → i < at → slice_get (insert xs at x) i ≡ slice_get xs i
  insert_before xs zero i x w l = absurd (omega (arith, l))
  insert_before [] (suc at) i x w l = absurd (omega (arith, w))
  insert_before (y ∷ xs) (suc at) zero x w l = refl
  insert_before (y ∷ xs) (suc at) (suc i) x w l = insert_before xs at i x (omega (arith, w)) (omega (arith, l))

  insert_behind : (xs : List X) (at i : ℕ) (x : X) → at ≤ length xs → at ≤ i → slice_get (insert xs at x) (suc i) ≡ slice_get xs i
  insert_behind xs zero i x w l = refl
  insert_behind [] (suc at) i x w l = absurd (omega (arith, w))
  insert_behind (y ∷ xs) (suc at) zero x w l = absurd (omega (arith, l))
  insert_behind (y ∷ xs) (suc at) (suc i) x w l = insert_behind xs at i x (omega (arith, w)) (omega (arith, l))

  -- what was there stands where its number is now
  pub insert_up : (xs : List X) (at i : ℕ) (x : X) → at ≤ length xs → slice_get (insert xs at x) (up at i) ≡ slice_get xs i
  insert_up xs at i x w = elim (cases_lt i at) [
    | inl l ↦ ap (slice_get (insert xs at x)) (up_before at i l) ∙ insert_before xs at i x w l
    | inr l ↦ ap (slice_get (insert xs at x)) (up_behind at i l) ∙ insert_behind xs at i x w l
  ]

  pub insert_length : (xs : List X) (at : ℕ) (x : X) → length (insert xs at x) ≡ suc (length xs)
  insert_length xs zero x = refl
  insert_length [] (suc at) x = refl
  insert_length (y ∷ xs) (suc at) x = ap suc (insert_length xs at x)

pub map_insert : {X Y : Type 0} (f : X → Y) (xs : List X) (at : ℕ) (x : X) → map f (insert xs at x) ≡ insert (map f xs) at (f x)
map_insert f xs zero x = refl
map_insert f [] (suc at) x = refl
map_insert f (y ∷ xs) (suc at) x = ap (λ ys. f y ∷ ys) (map_insert f xs at x)

-- two functions that agree on a list give the same
pub map_same : {X Y : Type 0} (f g : X → Y) (xs : List X) → ((i : ℕ) (x : X) → slice_get xs i ≡ Some x → f x ≡ g x) → map f xs ≡ map g xs
map_same f g [] h = refl
map_same f g (x ∷ xs) h = ap (λ y. y ∷ map f xs) (h 0 x refl) ∙ ap (λ ys. g x ∷ ys) (map_same f g xs (λ i. h (suc i)))
