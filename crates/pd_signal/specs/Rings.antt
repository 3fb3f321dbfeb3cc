-- A ring of samples: its places, what is written into it, and what is read from it.
use Rattle.std.specs.Prelude.{ℕ, ℤ, suc, ◌+◌, ◌-◌, ◌==◌, nat_lt, List, [], ◌∷◌, ◌++◌, length, take, drop, slice_set, if◌then◌else◌}

-- the place after a place of a ring of n values, and the place so many places on
abbrev pub place_after : ℕ → ℕ → ℕ
place_after n at = if suc at == n then 0 else suc at

abbrev pub places_on : ℕ → ℕ → ℕ → ℕ
places_on n at count = if nat_lt (at + count) n then at + count else at + count - n

-- the place so many places back
abbrev pub places_back : ℕ → ℕ → ℕ → ℕ
places_back n at count = if nat_lt at count then at + (n - count) else at - count

-- a ring with some values written from a place on
abbrev pub written : List ℤ → ℕ → List ℤ → List ℤ
written ring at [] = ring
written ring at (x ∷ xs) = written (slice_set ring at x) (place_after (length ring) at) xs

-- the 64 values of a ring from a place on
abbrev pub read_from : List ℤ → ℕ → List ℤ
read_from ring at = take 64 (drop at ring ++ ring)
