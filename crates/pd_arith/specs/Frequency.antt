-- The frequency of a note's number.
use Rattle.std.specs.Prelude.{ℕ, ℤ, pos, negsuc, ◌+◌, ◌-◌, ◌*◌, ◌/◌, ◌%◌, ◌^◌, nat_le, List, [], ◌∷◌, slice_index, if◌then◌else◌}

-- the frequencies, in millionths of a hertz, of twelve notes: those of the numbers 120 to 131
abbrev pub top_notes : List ℕ
top_notes = 8372018090 ∷ 8869844192 ∷ 9397272574 ∷ 9956063480 ∷ 10548081822 ∷ 11175303406 ∷ 11839821526 ∷ 12543853952 ∷ 13289750322 ∷ 14080000000 ∷ 14917240368 ∷ 15804265640 ∷ []

-- of a whole number from 0 to 131: that of the same note in the top octave, halved for each octave below it
abbrev pub note_frequency : ℕ → ℕ
note_frequency n = slice_index top_notes (n % 12) / 2 ^ (10 - n / 12)

-- of a note between two whole numbers, on the line between their frequencies
abbrev pub between : ℕ → ℕ → ℕ
between n r = note_frequency n + (note_frequency (n + 1) - note_frequency n) * r / 1000000

-- of a number in millionths, which is limited to 0 to 131
abbrev pub frequency_of : ℤ → ℤ
frequency_of (pos n) = if nat_le 131000000 n then pos (note_frequency 131) else pos (between (n / 1000000) (n % 1000000))
frequency_of (negsuc n) = pos (note_frequency 0)
