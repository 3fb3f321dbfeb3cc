-- What a `line~` does with what it hears.
use Rattle.std.specs.Prelude.{ℕ, ℤ, pos, ◌+◌, ◌*◌, ◌/◌, ◌+ℤ◌, ◌-ℤ◌, ◌*ℤ◌, max, nat_le, int_le, int_div, if◌then◌else◌}
use Rattle.pd_num.specs.Scale.{signal_of, saturated, billionths}
use Rattle.pd_clock.specs.declared.times.Rate.{Rate}
use Rattle.pd_clock.specs.Rates.{samples}
use Rattle.pd_kind.specs.States.{line_length}
use Rattle.pd_kind.specs.declared.states.Slope.{Slope}

-- The value of the next sample: on the way from the start to the target, and then the target. A value between the two is in the range of
-- signal values, so that nothing is saturated.
abbrev pub slope_value : Slope → ℤ
slope_value s =
    if nat_le s.length s.at then s.target
    else saturated billionths.limit (s.start +ℤ int_div ((s.target -ℤ s.start) *ℤ pos s.at) (pos s.length))

-- it stands at a value, with this stored time
abbrev pub standing : Slope → ℤ → ℤ → Slope
standing s time value = record { time = time; start = s.start; target = value; length = 0; at = 0; rate = s.rate }

-- so many samples, whole blocks and at least one, for a time in milliseconds
abbrev pub slope_length : Rate → ℤ → ℕ
slope_length rate time = 64 * max 1 (line_length rate time / 64)

-- a slope from the value of the next sample to the number heard, over the stored time, which is set back to 0
abbrev pub slope_to : Slope → ℤ → Slope
slope_to s z =
    if int_le s.time (pos 0) then standing s (pos 0) (signal_of z)
    else record { time = pos 0; start = slope_value s; target = signal_of z; length = slope_length s.rate s.time; at = 0; rate = s.rate }

-- it holds the value of the next sample
abbrev pub slope_held : Slope → Slope
slope_held s = standing s s.time (slope_value s)
