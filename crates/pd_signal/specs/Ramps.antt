-- `line~`: the values of a slope.
use Rattle.std.specs.Prelude.{ℕ, ℤ, ◌+◌, min, map, List}
use Rattle.std.specs.List.{range_with_len}
use Rattle.pd_kind.specs.declared.states.Slope.{Slope}
use Rattle.pd_held.specs.Slopes.{slope_value}

-- the slope, of which another sample is the next
abbrev pub slope_at : Slope → ℕ → Slope
slope_at s at = record { time = s.time; start = s.start; target = s.target; length = s.length; at = at; rate = s.rate }

-- the value of a sample of the slope
abbrev pub slope_sample : Slope → ℕ → ℤ
slope_sample s at = slope_value (slope_at s at)

-- the values of its next 64 samples
abbrev pub ramp_of : Slope → List ℤ
ramp_of s = map (slope_sample s) (range_with_len s.at 64)

-- the slope after them
abbrev pub slope_after : Slope → Slope
slope_after s = slope_at s (min (s.at + 64) s.length)
