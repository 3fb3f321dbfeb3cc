-- Keys in a list, counted.
use Rattle.std.proofs.Common.{arith, ◌≡◌, ℕ, zero, suc, ◌+◌, ◌<◌, ◌≤◌, ◌==◌, true, false, List, [], ◌∷◌, length, sym, ap, ◌∙◌, subst}
use Rattle.std.specs.Prelude.{Some, slice_get}
use mathlib.Core.Logic.{⊎_elim}
use lib.ListN.{get_or}
use Rattle.std.proofs.lemmas.Bool.{cases_Bool, cases_eq}
use Rattle.std.proofs.lemmas.Bool.Decides.{nat_tests}
use Rattle.std.proofs.lemmas.Option.{same_Some}
use Rattle.pd_order.specs.Graph.{tally}
use Rattle.pd_patch.specs.Listing.{IsThere}

-- what is counted stands at a place
pub place_in : (x : ℕ) (xs : List ℕ) → 0 < tally x xs → IsThere xs x
place_in x [] h = absurd (omega (arith, h))
place_in x (y ∷ ys) h = ⊎_elim
    (λ (t : (y == x) ≡ true). let e : y ≡ x = grind (arith, nat_tests) in (0, ap (λ z. Some z) e))
    (λ (f : (y == x) ≡ false). let rest = rw f at h in let p = place_in x ys (omega (arith, rest)) in (suc p.0, p.1))
    (cases_Bool (y == x))

-- what stands at a place is counted
pub counted_at : (x : ℕ) (xs : List ℕ) (i : ℕ) → slice_get xs i ≡ Some x → 0 < tally x xs
counted_at x [] i h = cc
counted_at x (y ∷ ys) zero h =
    let e : y ≡ x = same_Some y x h in
    let t : (y == x) ≡ true = grind (arith, nat_tests) in
    rw t (omega arith)
counted_at x (y ∷ ys) (suc i) h = let rest = counted_at x ys i h in omega (arith, rest)

get_or_at : (xs : List ℕ) (i y : ℕ) → slice_get xs i ≡ Some y → get_or xs i 0 ≡ y
get_or_at [] i y h = cc
get_or_at (x ∷ xs) zero y h = same_Some x y h
get_or_at (x ∷ xs) (suc i) y h = get_or_at xs i y h

there_below : (xs : List ℕ) (i y : ℕ) → slice_get xs i ≡ Some y → i < length xs
there_below [] i y h = cc
there_below (x ∷ xs) zero y h = omega arith
there_below (x ∷ xs) (suc i) y h = let rest = there_below xs i y h in omega (arith, rest)

-- what holds of the keys at the places below n and of the one at n holds of those below n + 1
pub step : (P : ℕ → ℕ → Type 0) (xs : List ℕ) (n : ℕ) → ((i key : ℕ) → i < n → slice_get xs i ≡ Some key → P i key) → P n (get_or xs n 0) →
    (i key : ℕ) → i < n + 1 → slice_get xs i ≡ Some key → P i key
step P xs n h p i key l e = ⊎_elim
    (λ (same : i ≡ n).
    let at : get_or xs n 0 ≡ key = ap (λ m. get_or xs m 0) (sym same) ∙ get_or_at xs i key e in
    subst (λ m. P m key) (sym same) (subst (λ k. P n k) at p))
    (λ other. h i key (omega (arith, l, other)) e)
    (cases_eq i n)

pub all : (P : ℕ → ℕ → Type 0) (xs : List ℕ) (n : ℕ) → length xs ≤ n → ((i key : ℕ) → i < n → slice_get xs i ≡ Some key → P i key) →
    (i key : ℕ) → slice_get xs i ≡ Some key → P i key
all P xs n m h i key e = let l = there_below xs i key e in h i key (omega (arith, l, m)) e
