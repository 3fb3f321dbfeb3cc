-- Parts of a state that other boxes reach.
use Rattle.std.specs.Prelude.{ℕ, ℤ, Bool, true, false, List, slice_set, Option, Some, None}
use Rattle.pd_kind.specs.declared.states.State.{State}
use Rattle.pd_kind.specs.declared.states.State.TheVariants as state
use Rattle.pd_kind.specs.declared.tables.Line.{Line}

-- the values of a `table` or an array
abbrev pub table_of : State → Option (List ℤ)
table_of (state.Table values) = Some values
table_of (state.Array values) = Some values
table_of _ = None

-- one of them set
abbrev pub with_value : State → ℕ → ℤ → State
with_value (state.Table values) i z = state.Table (slice_set values i z)
with_value (state.Array values) i z = state.Array (slice_set values i z)
with_value s i z = s

-- a `timer` counts from now
abbrev pub started : State → ℕ → State
started (state.Timer reset rate) now = state.Timer now rate
started s now = s

-- how far a `delwrite~` is
abbrev pub line_of : State → Option Line
line_of (state.Delwrite held values next ran) = Some (record { next = next; ran = ran })
line_of _ = None

-- the values of a `send~`, a `catch~` or a `delwrite~`
abbrev pub shared_of : State → Option (List ℤ)
shared_of (state.SignalSend held block) = Some block
shared_of (state.Catch sum) = Some sum
shared_of (state.Delwrite held values next ran) = Some values
shared_of _ = None

-- others in their place
abbrev pub with_shared : State → List ℤ → State
with_shared (state.SignalSend held block) left = state.SignalSend held left
with_shared (state.Catch sum) left = state.Catch left
with_shared (state.Delwrite held values next ran) left = state.Delwrite held left next ran
with_shared s left = s

-- a `delwrite~` has not run in this block
abbrev pub block_begun : State → State
block_begun (state.Delwrite held values next ran) = state.Delwrite held values next false
block_begun s = s

abbrev pub saved_if : Bool → ℤ → ℤ → Option (ℤ × ℤ)
saved_if true value other = Some (value, other)
saved_if false value other = None

-- value and other value of a `tgl` whose text is whole
abbrev pub saved_of : State → Option (ℤ × ℤ)
saved_of (state.Toggle value other whole) = saved_if whole value other
saved_of _ = None
