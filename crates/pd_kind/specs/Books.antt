-- The ramps of a `vline~`, and how they change.
use Rattle.std.specs.Prelude.{ℕ, ℤ, pos, ◌+◌, ◌≤◌, ◌≤ℤ◌, [], ◌∷◌, ◌++◌, take, drop, Option, IfSome}
use Rattle.std.specs.List.{All}
use Rattle.pd_kind.specs.declared.states.Ramp.{Ramp}
use Rattle.pd_kind.specs.declared.states.Ramps.{Ramps}

-- a number of milliseconds within a day
pub record IsTime (time : ℤ) : Type 0 where
  pub low : pos 0 ≤ℤ time
  pub high : time ≤ℤ pos 86400000000000

-- a ramp is no longer than a day at the greatest rate
abbrev pub IsShort : Ramp → Type 0
IsShort r = r.end ≤ r.start + 8294400000000000000

-- the stored times are within a day, and no ramp is longer than that
pub record IsBook (r : Ramps) : Type 0 where
  pub time : IsTime r.time
  pub delay : IsTime r.delay
  pub base : IfSome r.base (λ b. IsShort b.0)
  pub ramps : All IsShort r.ramps

-- with these stored times
abbrev pub with_times : Ramps → ℤ → ℤ → Ramps
with_times r time delay = record { time = time; delay = delay; end = r.end; base = r.base; ramps = r.ramps; rate = r.rate }

-- with a ramp behind the first ones that are kept
abbrev pub with_ramp_last : Ramps → ℕ → Ramp → Ramps
with_ramp_last r kept ramp = record { time = r.time; delay = r.delay; end = r.end; base = r.base; ramps = take kept r.ramps ++ ramp ∷ []; rate = r.rate }

-- once a block has run up to its end: with this base, and without the first ramps
abbrev pub block_ended : Ramps → Option (Ramp × ℤ) → ℕ → ℕ → Ramps
block_ended r base count end = record { time = r.time; delay = r.delay; end = end; base = base; ramps = drop count r.ramps; rate = r.rate }
