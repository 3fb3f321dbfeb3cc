-- The points of the circle by quarters, and how near two that follow each other are.
use Rattle.std.proofs.Common.{◌≡◌, ℕ, pos, ◌+◌, ◌-◌, ◌-ℤ◌, ◌<◌, ◌≤◌, unsigned_abs, refl, ap, ◌∙◌, subst, arith}
use Rattle.pd_tone.specs.Cosine.{point, quarter}
use Rattle.pd_tone.proofs.Table.{greatest, not_above}

quarter_end : quarter 512 ≡ pos 0
unfolding quarter
quarter_end = refl

-- the points of the last quarter, with both its ends
fourth_point : (k : ℕ) → 1536 ≤ k → point k ≡ quarter (2048 - k)
unfolding point
fourth_point k g = grind (arith, quarter_end)

quarter_start : quarter 0 ≡ pos 1000000000
unfolding quarter
quarter_start = refl

pub last_point : (k : ℕ) → 2048 ≤ k → point k ≡ pos 1000000000
last_point k h = let none : 2048 - k ≡ 0 = omega arith in fourth_point k (omega arith) ∙ ap quarter none ∙ quarter_start

unfoldable step_size : ℕ → ℕ
step_size k = unsigned_abs (point (k + 1) -ℤ point k)

greatest_step : greatest step_size 0 2048 ≡ 3067957
unfolding step_size point quarter
greatest_step = refl

pub steps_small : (k : ℕ) → k < 2048 → unsigned_abs (point (k + 1) -ℤ point k) ≤ 3067957
unfolding step_size
steps_small k h = subst (λ b. step_size k ≤ b) greatest_step (not_above step_size 0 2048 k k h (omega arith))
