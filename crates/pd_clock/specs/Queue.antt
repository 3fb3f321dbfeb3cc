-- Clocks: a list of time and owner, at most one for each owner, in the order in which they were set.
use Rattle.std.specs.Prelude.{◌≡◌, ℕ, ◌+◌, ◌<◌, ◌≤◌, not, cond, List, [], ◌∷◌, ◌++◌, ◌==◌}
use Rattle.std.specs.List.{filter, AllByRecursion}

-- a clock: its time in units, and whose it is
pub record Clock : Type 0 where
  pub time : ℕ
  pub owner : ℕ

-- the clocks in the order in which they were set, and for how many owners there is room
pub record ClockList : Type 0 where
  pub clocks : List Clock
  pub room : ℕ

-- the clocks of the other owners
abbrev pub without : ℕ → List Clock → List Clock
without owner cs = filter (λ c. not (c.owner == owner)) cs

-- how many clocks an owner has
abbrev pub clocks_of : ℕ → List Clock → ℕ
clocks_of owner [] = 0
clocks_of owner (c ∷ cs) = cond (c.owner == owner) 1 0 + clocks_of owner cs

-- no owner has two clocks
abbrev pub AreApart : List Clock → Type 0
AreApart cs = (owner : ℕ) → clocks_of owner cs ≤ 1

-- the clock is the first in the list among those of the least time, and the others are left
pub record IsTaken (old new : List Clock) (c : Clock) : Type 0 where
  pub before : List Clock
  pub after : List Clock
  pub old_is : old ≡ before ++ c ∷ after
  pub new_is : new ≡ before ++ after
  pub later : AllByRecursion (λ d. c.time < d.time) before
  pub not_earlier : AllByRecursion (λ d. c.time ≤ d.time) after
