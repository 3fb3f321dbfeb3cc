-- Sums of values that are far from the limits.
use Rattle.std.specs.Prelude.{ℕ, ℤ, pos, ◌+ℤ◌, ◌-ℤ◌, ◌+◌, ◌%◌, ◌^◌}
use Rattle.std.specs.Int.{w64, cast_unsigned}

-- the sum raised by 2^59, in 64 bits without a sign
unfoldable pub raised_of : ℤ → ℤ → ℕ
raised_of x y = (cast_unsigned w64 (x +ℤ y) + 2 ^ 59) % 2 ^ 64

-- the sum that was raised, by the last 60 bits
unfoldable pub lowered_of : ℕ → ℤ
lowered_of n = pos (n % 2 ^ 60) -ℤ pos (2 ^ 59)

-- the sum where it is at least -2^59 and below 2^59
abbrev pub short_sum : ℤ → ℤ → ℤ
short_sum x y = lowered_of (raised_of x y)
