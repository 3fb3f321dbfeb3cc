-- What a `vline~` keeps, when time goes on.
use Rattle.std.specs.Prelude.{ℕ, ℤ, pos, suc, ◌+◌, ◌≤◌, nat_lt, List, [], ◌∷◌, Option, Some, if◌then◌else◌}
use Rattle.pd_kind.specs.declared.states.Ramp.{Ramp}
use Rattle.pd_kind.specs.declared.states.Ramps.{Ramps}
use Rattle.pd_kind.specs.declared.states.State.{State}
use Rattle.pd_kind.specs.declared.states.State.TheVariants as state
use Rattle.pd_vline.specs.Ramps.{base_at}

-- a base and the ramps after it, the oldest first
pub record Front : Type 0 where
  pub base : Option (Ramp × ℤ)
  pub ramps : List Ramp

abbrev pub front : Option (Ramp × ℤ) → List Ramp → Front
front base ramps = record { base = base; ramps = ramps }

-- the ramps up to the first that starts at a time or later become the base, one after the other
abbrev pub taken : ℕ → Option (Ramp × ℤ) → List Ramp → Front
taken t base [] = front base []
taken t base (r ∷ ramps) = if nat_lt r.start t then taken t (Some (r, base_at base r.start)) ramps else front base (r ∷ ramps)

-- the value at a time
abbrev pub value_at : Option (Ramp × ℤ) → List Ramp → ℕ → ℤ
value_at base ramps t = base_at (taken (suc t) base ramps).base t

abbrev pub present : Ramps → ℕ → ℤ
present r t = value_at r.base r.ramps t

-- what is kept once a block has run up to its end
abbrev pub ran_up_to : ℕ → Ramps → Ramps
ran_up_to end r = record { time = r.time; delay = r.delay; end = end; base = (taken end r.base r.ramps).base; ramps = (taken end r.base r.ramps).ramps; rate = r.rate }

-- after the block that starts at a time; a block is 64,000,000,000 units
abbrev pub ran : ℕ → Ramps → Ramps
ran start r = ran_up_to (start + 64000000000) r

abbrev pub left_by_run : ℕ → State → State
left_by_run start (state.Vline r) = state.Vline (ran start r)
left_by_run start s = s

abbrev pub state_at : State → ℕ → ℤ
state_at (state.Vline r) t = present r t
state_at s t = pos 0

-- the state of a `vline~` that has run no block beyond a time
abbrev pub CanRun : ℕ → State → Type 0
CanRun start (state.Vline r) = r.end ≤ start
CanRun start s = ⊥
