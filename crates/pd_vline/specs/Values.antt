-- A part of a way.
use Rattle.std.specs.Prelude.{ℤ, pos, ◌≤ℤ◌}

-- from none of the way to all of it, in its direction
pub record IsPart (way part : ℤ) : Type 0 where
  pub up : pos 0 ≤ℤ way → (pos 0 ≤ℤ part) × (part ≤ℤ way)
  pub down : way ≤ℤ pos 0 → (part ≤ℤ pos 0) × (way ≤ℤ part)
