-- `tabread~`: the values of a table at signal values.
use Rattle.std.specs.Prelude.{ℕ, ℤ, pos, negsuc, ◌/◌, ◌-◌, min, List, length, slice_index_or}
use Rattle.pd_num.specs.Scale.{billionths, signal_of}

-- whole units, 0 where it is negative
abbrev pub units_of : ℤ → ℕ
units_of (pos n) = n / billionths.unit
units_of (negsuc n) = 0

-- a place of a table: the whole units, limited to its places
abbrev pub place_in : List ℤ → ℤ → ℕ
place_in values x = min (units_of x) (length values - 1)

-- the signal value of the value at that place, 0 without a table
abbrev pub value_at : List ℤ → ℤ → ℤ
value_at values x = signal_of (slice_index_or values (place_in values x) (pos 0))
