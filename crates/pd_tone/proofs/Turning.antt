-- The table of changes, and that the cosine falls in the first half of the circle and rises in the second.
use Rattle.std.proofs.Common.{◌≡◌, ℕ, zero, suc, ℤ, pos, neg_ℤ, ◌+◌, ◌-◌, ◌/◌, ◌*◌, ◌^◌, ◌+ℤ◌, ◌-ℤ◌, ◌*ℤ◌, ◌<◌, ◌≤◌, int_div, List, [], ◌∷◌, get_or, refl, ap, ◌∙◌, sym, arith, unsigned_abs}
use Rattle.std.proofs.Math.Nat.{zero-mul}
use Rattle.pd_tone.specs.Cosine.{point, quarter, between}
use Rattle.pd_tone.specs.declared.changes.TheConstants.{CHANGES}
use Rattle.pd_tone.proofs.Points.{steps_small}
use Rattle.pd_tone.proofs.Proportions.{negative_share}

unfoldable pub size : ℕ → ℕ
size k = unsigned_abs (point (k + 1) -ℤ point k)

abbrev sizes : ℕ → ℕ → List ℕ
sizes j zero = []
sizes j (suc n) = size j ∷ sizes (j + 1) n

size_at : (j n k i : ℕ) → k < n → i ≡ j + k → get_or (sizes j n) k 0 ≡ size i
size_at j zero k i h e = absurd (omega arith)
size_at j (suc n) zero i h e = ap size (omega arith)
size_at j (suc n) (suc k) i h e = size_at (j + 1) n k i (omega arith) (omega arith)

the_table : CHANGES ≡ sizes 0 2048
unfolding size point quarter
the_table = refl

table_at : (k : ℕ) → k < 2048 → get_or CHANGES k 0 ≡ size k
table_at k h = ap (λ t. get_or t k 0) the_table ∙ size_at 0 2048 k k h (omega arith)

size_is : (k : ℕ) → size k ≡ unsigned_abs (point (k + 1) -ℤ point k)
unfolding size
size_is k = refl

pub change_at : (k : ℕ) → k < 2048 → get_or CHANGES k 0 ≡ unsigned_abs (point (k + 1) -ℤ point k)
change_at k h = table_at k h ∙ size_is k

pub change_small : (k : ℕ) → k < 2048 → get_or CHANGES k 0 ≤ 3067957
change_small k h = rw (change_at k h) (steps_small k h)

-- so many steps from one point to the next, and those with the sign of their half
unfoldable step : ℕ → ℤ
step k = point (k + 1) -ℤ point k

abbrev values : (ℕ → ℤ) → ℕ → ℕ → List ℤ
values f j zero = []
values f j (suc n) = f j ∷ values f (j + 1) n

value_at : (f : ℕ → ℤ) (j n k i : ℕ) → k < n → i ≡ j + k → get_or (values f j n) k (pos 0) ≡ f i
value_at f j zero k i h e = absurd (omega arith)
value_at f j (suc n) zero i h e = ap f (omega arith)
value_at f j (suc n) (suc k) i h e = value_at f (j + 1) n k i (omega arith) (omega arith)

unfoldable down : ℕ → ℤ
down k = neg_ℤ (pos (size k))

unfoldable up : ℕ → ℤ
up k = pos (size k)

falls : values step 0 1024 ≡ values down 0 1024
unfolding step down size point quarter
falls = refl

rises : values step 1024 1024 ≡ values up 1024 1024
unfolding step up size point quarter
rises = refl

step_down : (k : ℕ) → k < 1024 → step k ≡ down k
step_down k h = sym (value_at step 0 1024 k k h (omega arith)) ∙ (ap (λ t. get_or t k (pos 0)) falls ∙ value_at down 0 1024 k k h (omega arith))

step_up : (k : ℕ) → 1024 ≤ k → k < 2048 → step k ≡ up k
step_up k g h =
    sym (value_at step 1024 1024 (k - 1024) k (omega arith) (omega arith))
    ∙ (ap (λ t. get_or t (k - 1024) (pos 0)) rises ∙ value_at up 1024 1024 (k - 1024) k (omega arith) (omega arith))

change_down : (k : ℕ) → k < 1024 → point (k + 1) -ℤ point k ≡ neg_ℤ (pos (unsigned_abs (point (k + 1) -ℤ point k)))
unfolding step down size
change_down k h = step_down k h

change_up : (k : ℕ) → 1024 ≤ k → k < 2048 → point (k + 1) -ℤ point k ≡ pos (unsigned_abs (point (k + 1) -ℤ point k))
unfolding step up size
change_up k g h = step_up k g h

negative_times : (a b : ℕ) → neg_ℤ (pos a) *ℤ pos b ≡ neg_ℤ (pos (a * b))
negative_times zero b = let none : 0 * b ≡ 0 = zero-mul b in rw none refl
negative_times (suc a) b = refl

fallen_by : (p d : ℤ) (s f w : ℕ) → d ≡ neg_ℤ (pos s) → p -ℤ pos (s * f / w) ≡ p +ℤ int_div (d *ℤ pos f) (pos w)
fallen_by p d s f w e = rw (e, negative_times s f, negative_share (s * f) w) refl

risen_by : (p d : ℤ) (s f w : ℕ) → d ≡ pos s → p +ℤ pos (s * f / w) ≡ p +ℤ int_div (d *ℤ pos f) (pos w)
risen_by p d s f w e = rw e refl

pub fallen : (k f : ℕ) → k < 1024 → point k -ℤ pos (unsigned_abs (point (k + 1) -ℤ point k) * f / 2 ^ 64) ≡ between (point k) (point (k + 1)) f (2 ^ 64)
fallen k f h = fallen_by (point k) (point (k + 1) -ℤ point k) (unsigned_abs (point (k + 1) -ℤ point k)) f (2 ^ 64) (change_down k h)

pub risen : (k f : ℕ) → 1024 ≤ k → k < 2048 → point k +ℤ pos (unsigned_abs (point (k + 1) -ℤ point k) * f / 2 ^ 64) ≡ between (point k) (point (k + 1)) f (2 ^ 64)
risen k f g h = risen_by (point k) (point (k + 1) -ℤ point k) (unsigned_abs (point (k + 1) -ℤ point k)) f (2 ^ 64) (change_up k g h)
