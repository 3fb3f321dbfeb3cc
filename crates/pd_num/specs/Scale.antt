-- Values that are whole counts of a part of one, with a greatest magnitude, and what the operations give.
use Rattle.std.specs.Prelude.{ℕ, ℤ, pos, negsuc, suc, neg_ℤ, ◌+ℤ◌, ◌-ℤ◌, ◌*ℤ◌, ◌≤ℤ◌, unsigned_abs, min, int_div, ◌==◌, if◌then◌else◌}

-- how many parts make one, and the greatest magnitude in parts
pub record Scale : Type 0 where
  pub unit : ℕ
  pub limit : ℕ

-- the scale of numbers
abbrev pub millionths : Scale
millionths = record { unit = 1000000; limit = 1000000000000000 }

-- the scale of signal values
abbrev pub billionths : Scale
billionths = record { unit = 1000000000; limit = 1000000000000000000 }

-- a count that a value can be
abbrev pub IsInRange : Scale → ℤ → Type 0
IsInRange s z = (neg_ℤ (pos s.limit) ≤ℤ z) × (z ≤ℤ pos s.limit)

-- the nearest count to a count whose magnitude is at most a limit
abbrev pub saturated : ℕ → ℤ → ℤ
saturated limit (pos n) = pos (min n limit)
saturated limit (negsuc n) = neg_ℤ (pos (min (suc n) limit))

abbrev pub sum_of : Scale → ℤ → ℤ → ℤ
sum_of s a b = saturated s.limit (a +ℤ b)

abbrev pub difference_of : Scale → ℤ → ℤ → ℤ
difference_of s a b = saturated s.limit (a -ℤ b)

-- rounded toward zero
abbrev pub product_of : Scale → ℤ → ℤ → ℤ
product_of s a b = saturated s.limit (int_div (a *ℤ b) (pos s.unit))

-- rounded toward zero, and 0 for a divisor of 0
abbrev pub quotient_of : Scale → ℤ → ℤ → ℤ
quotient_of s a b = if unsigned_abs b == 0 then pos 0 else saturated s.limit (int_div (a *ℤ pos s.unit) b)

-- a number's whole units, toward zero
abbrev pub whole_of : ℤ → ℤ
whole_of a = int_div a (pos millionths.unit) *ℤ pos millionths.unit

-- the signal value of a number
abbrev pub signal_of : ℤ → ℤ
signal_of n = n *ℤ pos 1000

-- the number of a signal value, rounded toward zero
abbrev pub number_of : ℤ → ℤ
number_of v = int_div v (pos 1000)
