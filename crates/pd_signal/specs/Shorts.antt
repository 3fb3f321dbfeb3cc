-- Values in 32 bits.
use Rattle.std.specs.Prelude.{ℕ, ℤ, pos, ◌-ℤ◌, ◌+◌, ◌%◌, ◌^◌}
use Rattle.std.specs.Int.{w64, cast_unsigned}

-- the value raised by 2^31, in 64 bits without a sign
unfoldable pub raised_of : ℤ → ℕ
raised_of x = (cast_unsigned w64 x + 2 ^ 31) % 2 ^ 64

-- the value that was raised, by the last 32 bits
unfoldable pub lowered_of : ℕ → ℤ
lowered_of n = pos (n % 2 ^ 32) -ℤ pos (2 ^ 31)

-- the value where it fits 32 bits
abbrev pub short_of : ℤ → ℤ
short_of x = lowered_of (raised_of x)
