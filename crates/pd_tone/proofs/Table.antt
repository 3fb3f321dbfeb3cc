-- The table has the cosine's values at the parts of the circle.
use Rattle.std.proofs.Common.{◌≡◌, ℕ, zero, suc, ℤ, pos, ◌+◌, ◌<◌, ◌≤◌, List, [], ◌∷◌, get_or, refl, ap, ◌∙◌, arith, max, unsigned_abs, subst}
use Rattle.pd_tone.specs.Cosine.{point, quarter}
use Rattle.pd_tone.specs.declared.cosine.TheConstants.{CIRCLE}

-- so many values of a function, from a place on
abbrev values : (ℕ → ℤ) → ℕ → ℕ → List ℤ
values f j zero = []
values f j (suc n) = f j ∷ values f (j + 1) n

value_at : (f : ℕ → ℤ) (j n k i : ℕ) → k < n → i ≡ j + k → get_or (values f j n) k (pos 0) ≡ f i
value_at f j zero k i h e = absurd (omega arith)
value_at f j (suc n) zero i h e = ap f (omega arith)
value_at f j (suc n) (suc k) i h e = value_at f (j + 1) n k i (omega arith) (omega arith)

the_table : CIRCLE ≡ values point 0 2049
unfolding point quarter
the_table = refl

pub table_at : (k : ℕ) → k ≤ 2048 → get_or CIRCLE k (pos 0) ≡ point k
table_at k h = ap (λ t. get_or t k (pos 0)) the_table ∙ value_at point 0 2049 k k (omega arith) (omega arith)

-- the greatest of so many numbers, from a place on
abbrev pub greatest : (ℕ → ℕ) → ℕ → ℕ → ℕ
greatest f j zero = 0
greatest f j (suc n) = max (f j) (greatest f (j + 1) n)

pub not_above : (f : ℕ → ℕ) (j n k i : ℕ) → k < n → i ≡ j + k → f i ≤ greatest f j n
not_above f j zero k i h e = absurd (omega arith)
not_above f j (suc n) zero i h e = let same : f i ≡ f j = ap f (omega arith) in omega arith
not_above f j (suc n) (suc k) i h e = let later : f i ≤ greatest f (j + 1) n = not_above f (j + 1) n k i (omega arith) (omega arith) in omega arith

unfoldable size : ℕ → ℕ
size k = unsigned_abs (point k)

greatest_size : greatest size 0 2049 ≡ 1000000000
unfolding size point quarter
greatest_size = refl

point_small : (k : ℕ) → k ≤ 2048 → unsigned_abs (point k) ≤ 1000000000
unfolding size
point_small k h = subst (λ b. size k ≤ b) greatest_size (not_above size 0 2049 k k (omega arith) (omega arith))

pub table_small : (k : ℕ) → k ≤ 2048 → unsigned_abs (get_or CIRCLE k (pos 0)) ≤ 1000000000
table_small k h = rw (table_at k h) (point_small k h)
