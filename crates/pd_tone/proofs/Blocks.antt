-- Blocks that are written value by value.
use Rattle.std.proofs.Common.{◌≡◌, ℕ, suc, ℤ, ◌+◌, ◌-◌, ◌*◌, ◌/◌, ◌^◌, ◌<◌, ◌≤◌, List, [], ◌∷◌, ◌++◌, length, take, drop, map, set, refl, ap, ◌∙◌, append_assoc, arith}
use Rattle.std.proofs.lemmas.List.{take_all, drop_all, append-nil, take_more_set}
use Rattle.std.proofs.Math.Nat.{mul-le-mul_right}
use Rattle.pd_tone.specs.Tones.{phases, seeds, seed_after, next_seed}

-- a block whose last value is written has them all
pub whole : (f : ℕ → ℤ) (m p i : ℕ) (xs out all : List ℤ) → length xs ≤ i → length out ≤ i →
    take i out ++ map f (phases m p (drop i xs)) ≡ all → out ≡ all
whole f m p i xs out all g h e = rw (drop_all i xs g, take_all i out h, append-nil out) at e

pub share_small : (p h : ℕ) → 44100 ≤ h → p < 2 ^ 64 → p / h ≤ 1000000000000000000
share_small p h g l = let b : 44100 * (p / h) ≤ h * (p / h) = mul-le-mul_right (p / h) g in omega arith

-- the numbers that are left after i of n
unfolding_seeds : (n s : ℕ) → seeds (suc n) s ≡ next_seed s ∷ seeds n (next_seed s)
unfolding seeds
unfolding_seeds n s = refl

pub seeds_left : (i n s : ℕ) → i < n → seeds (n - i) s ≡ next_seed s ∷ seeds (n - (i + 1)) (next_seed s)
seeds_left i n s h = let e : n - i ≡ suc (n - (i + 1)) = omega arith in ap (λ k. seeds k s) e ∙ unfolding_seeds (n - (i + 1)) s

unfolding_after : (n s : ℕ) → seed_after (suc n) s ≡ seed_after n (next_seed s)
unfolding seed_after
unfolding_after n s = refl

pub after_left : (i n s : ℕ) → i < n → seed_after (n - i) s ≡ seed_after (n - (i + 1)) (next_seed s)
after_left i n s h = let e : n - i ≡ suc (n - (i + 1)) = omega arith in ap (λ k. seed_after k s) e ∙ unfolding_after (n - (i + 1)) s

seeds_none : (s : ℕ) → seeds 0 s ≡ []
unfolding seeds
seeds_none s = refl

after_none : (s : ℕ) → seed_after 0 s ≡ s
unfolding seed_after
after_none s = refl

-- one more number is written
pub one_more : (f : ℕ → ℤ) (i n s : ℕ) (out all : List ℤ) → i < n → i < length out →
    take i out ++ map f (seeds (n - i) s) ≡ all → take (i + 1) (set out i (f (next_seed s))) ++ map f (seeds (n - (i + 1)) (next_seed s)) ≡ all
one_more f i n s out all g h e = rw (take_more_set out i (f (next_seed s)) h, append_assoc) (rw (seeds_left i n s g) at e)

pub all_numbers : (f : ℕ → ℤ) (n i s : ℕ) (out all : List ℤ) → n ≤ i → length out ≤ i → take i out ++ map f (seeds (n - i) s) ≡ all → out ≡ all
all_numbers f n i s out all g h e =
    let none : n - i ≡ 0 = omega arith in
    rw (take_all i out h, append-nil out) at (rw (none, seeds_none s) at e)

pub last_number : (n i s t : ℕ) → n ≤ i → seed_after (n - i) s ≡ t → s ≡ t
last_number n i s t h e = let none : n - i ≡ 0 = omega arith in rw (none, after_none s) at e
