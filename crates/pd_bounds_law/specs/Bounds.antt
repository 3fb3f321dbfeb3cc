-- The bounds that the rows of some objects name for the numbers that they keep.
use Rattle.std.specs.Prelude.{◌≡◌, ℕ, ℤ, pos, ◌≤◌, ◌*◌, Option, IfSome}
use Rattle.pd_kind.specs.declared.states.State.{State}
use Rattle.pd_kind.specs.declared.states.State.TheVariants as state

-- a whole number, and at least so much
pub record IsWholeFrom (least : ℕ) (z : ℤ) : Type 0 where
  pub count : ℕ
  pub is : z ≡ pos (count * 1000000)
  pub enough : least ≤ count

-- the range of `random` is at least 1, the count of `list split` at least 0, and the other value of a toggle isn't 0
abbrev pub HasBounds : State → Type 0
HasBounds (state.Random seed range) = IsWholeFrom 1 range
HasBounds (state.ListSplit count) = IsWholeFrom 0 count
HasBounds (state.Toggle value other saved) = ¬ (other ≡ pos 0)
HasBounds s = Unit {0}

-- a box keeps that
pub record KeepsBounds (s : State) : Type 0 where
  pub bounds : HasBounds s

-- all boxes
pub record AllKeepBounds (states : ℕ → Option State) : Type 0 where
  pub each : (k : ℕ) → IfSome (states k) HasBounds
