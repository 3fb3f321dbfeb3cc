-- Lists that are cut.
use Rattle.std.proofs.Common.{◌≡◌, ℕ, ◌+◌, ◌-◌, ◌<◌, ◌≤◌, min, ◌⊎◌, inl, inr, List, ◌++◌, length, take, drop, slice_range, refl, sym, ◌∙◌, ap, append_assoc, arith}
use Rattle.std.proofs.lemmas.Bool.{cases_lt}
use Rattle.std.proofs.lemmas.List.{take_all, take-take, take-append-le, length-take, take_rest}

-- a list that was cut before more came is cut as the whole
pub cut_twice : {X : Type 0} → (n : ℕ) (xs ys zs : List X) → take n (take n (xs ++ ys) ++ zs) ≡ take n (xs ++ (ys ++ zs))
cut_twice n xs ys zs =
    elim (cases_lt n (length (xs ++ ys))) [
      | inl long ↦
          (let kept : n ≤ length (take n (xs ++ ys)) = omega (arith, length-take n (xs ++ ys)) in
          let below : n ≤ length (xs ++ ys) = omega arith in
          take-append-le n (take n (xs ++ ys)) zs kept ∙ take-take n n (xs ++ ys) (omega arith) ∙ sym (take-append-le n (xs ++ ys) zs below) ∙ ap (take n) (append_assoc xs ys zs))
      | inr short ↦ ap (λ (ws : List _). take n (ws ++ zs)) (take_all n (xs ++ ys) short) ∙ ap (take n) (append_assoc xs ys zs)
    ]

pub cut_short : {X : Type 0} → (n : ℕ) (xs : List X) → length (take n xs) ≤ n
cut_short n xs = omega (arith, length-take n xs)

-- the range of all places, of the first ones, and of the last ones
pub range_first : {X : Type 0} → (xs : List X) (n : ℕ) → slice_range xs 0 n ≡ take n xs
range_first xs n = let e : n - 0 ≡ n = omega arith in ap (λ (m : ℕ). take m xs) e

pub range_all : {X : Type 0} → (xs : List X) → slice_range xs 0 (length xs) ≡ xs
range_all xs = range_first xs (length xs) ∙ take_all (length xs) xs (omega arith)

pub range_last : {X : Type 0} → (xs : List X) (n : ℕ) → slice_range xs n (length xs) ≡ drop n xs
range_last xs n = take_rest xs n

-- a list that is short enough is kept whole
pub kept_whole : {X : Type 0} → (n : ℕ) (xs ys : List X) → length xs ≤ n → ys ≡ take n xs → ys ≡ xs
kept_whole n xs ys short e = e ∙ take_all n xs short
