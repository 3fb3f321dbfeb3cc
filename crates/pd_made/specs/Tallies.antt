-- The sum of the magnitudes of samples, which come as bytes.
use Rattle.std.specs.Prelude.{ℕ, ◌+◌, ◌-◌, ◌^◌, min, List, [], ◌∷◌, ◌++◌, length, Option, Some, None, unsigned_abs}
use Rattle.std.specs.Int.{w16, cast_signed, from_le_bytes}
use Rattle.pd_made.specs.declared.tally.Tally.{Tally}

-- the magnitude of a sample of 16 bits, by its bytes, the lower one first
abbrev pub magnitude : ℕ → ℕ → ℕ
magnitude low high = unsigned_abs (cast_signed w16 (from_le_bytes w16 (low ∷ high ∷ [])))

-- the sum of the magnitudes of the whole samples of these bytes
abbrev pub magnitudes : List ℕ → ℕ
magnitudes (low ∷ high ∷ bytes) = magnitude low high + magnitudes bytes
magnitudes (low ∷ []) = 0
magnitudes [] = 0

-- the lower byte of a sample whose higher one is still to come
abbrev pub half : List ℕ → Option ℕ
half (low ∷ high ∷ bytes) = half bytes
half (low ∷ []) = Some low
half [] = None

abbrev pub bytes_held : Option ℕ → List ℕ
bytes_held (Some low) = low ∷ []
bytes_held None = []

-- no sum and no count goes above 2^64 - 1
abbrev pub bounded : ℕ → ℕ
bounded n = min n (2 ^ 64 - 1)

-- nothing came yet
abbrev pub nothing : Tally
nothing = record { sum = 0; count = 0; low = None }

-- these bytes came after all that was counted
abbrev pub tallied : Tally → List ℕ → Tally
tallied t bytes = record {
  sum = bounded (t.sum + magnitudes (bytes_held t.low ++ bytes));
  count = bounded (t.count + length bytes);
  low = half (bytes_held t.low ++ bytes);
}
