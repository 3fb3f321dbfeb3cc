-- Sampling rates.
use Rattle.std.specs.Prelude.{ℕ}
use Rattle.pd_clock.specs.declared.times.Rate.{Rate}
use Rattle.pd_clock.specs.declared.times.Rate.TheVariants.{R44100, R48000, R88200, R96000}

-- how many samples a second
abbrev pub samples : Rate → ℕ
samples R44100 = 44100
samples R48000 = 48000
samples R88200 = 88200
samples R96000 = 96000
