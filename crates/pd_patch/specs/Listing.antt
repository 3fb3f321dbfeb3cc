-- Keys in a list.
use Rattle.std.specs.Prelude.{◌≡◌, ℕ, List, Some, slice_get}

-- the key stands somewhere in the list
abbrev pub IsThere : List ℕ → ℕ → Type 0
IsThere keys key = (i : ℕ) × (slice_get keys i ≡ Some key)
