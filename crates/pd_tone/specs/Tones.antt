-- The phases of the oscillators and the numbers of `noise~`, one after another.
use Rattle.std.specs.Prelude.{ℕ, zero, suc, ℤ, pos, ◌+ℤ◌, ◌-ℤ◌, ◌*ℤ◌, ◌+◌, ◌*◌, ◌/◌, ◌%◌, ◌^◌, int_div, unsigned_abs, List, [], ◌∷◌, replicate}
use Rattle.std.specs.Int.{int_rem_euclid}
use Rattle.pd_clock.specs.declared.times.Rate.{Rate}
use Rattle.pd_clock.specs.Rates.{samples}

-- how many steps of one go round the circle: a step is a frequency in billionths of a hertz, so that f hertz go round f times in a second
abbrev pub circle : Rate → ℕ
circle rate = samples rate * 1000000000

-- a phase on a circle of m, after a step of x
unfoldable pub moved : ℕ → ℕ → ℤ → ℕ
moved m p x = unsigned_abs (int_rem_euclid (pos p +ℤ x) (pos m))

-- the phases from which the steps xs start, the first from p
abbrev pub phases : ℕ → ℕ → List ℤ → List ℕ
phases m p [] = []
phases m p (x ∷ xs) = p ∷ phases m (moved m p x) xs

-- the phase after the last step
abbrev pub phase_after : ℕ → ℕ → List ℤ → ℕ
phase_after m p [] = p
phase_after m p (x ∷ xs) = phase_after m (moved m p x) xs

-- the same number in each sample of a block
unfoldable pub steady_block : ℤ → List ℤ
steady_block step = replicate 64 step

-- the share of the circle that lies before a phase, in billionths, where a second has so many samples
abbrev pub share : ℕ → ℕ → ℤ
share hertz p = pos (p / hertz)

-- the numbers of `noise~`, one from the other
unfoldable pub next_seed : ℕ → ℕ
next_seed s = (s * 1664525 + 1013904223) % 2 ^ 32

-- the n numbers after s, and the last of them
unfoldable pub seeds : ℕ → ℕ → List ℕ
seeds zero s = []
seeds (suc n) s = next_seed s ∷ seeds n (next_seed s)

unfoldable pub seed_after : ℕ → ℕ → ℕ
seed_after zero s = s
seed_after (suc n) s = seed_after n (next_seed s)

-- a number below 2^32 as a value from -1 to 1 in billionths, rounded toward zero
unfoldable pub noise : ℕ → ℤ
noise s = int_div ((pos s -ℤ pos (2 ^ 31)) *ℤ pos 1000000000) (pos (2 ^ 31))
