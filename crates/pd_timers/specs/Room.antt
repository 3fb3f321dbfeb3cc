-- Clocks with their room.
use Rattle.std.specs.Prelude.{ℕ, ◌<◌, ◌≤◌, List}
use Rattle.pd_clock.specs.Queue.{Clock, ClockList, clocks_of}

-- every owner of a clock is below a number
abbrev pub AreBelow : ℕ → List Clock → Type 0
AreBelow end cs = (owner : ℕ) → 0 < clocks_of owner cs → owner < end

-- every owner of a clock is below the number, and as many owners have room
pub record HasRoom (q : ClockList) (end : ℕ) : Type 0 where
  pub below : AreBelow end q.clocks
  pub room : end ≤ q.room
