-- Numbers that the inlets of signal objects hold or store.
use Rattle.std.specs.Prelude.{ℕ, ℤ, zero, suc, pos, ◌*◌, ◌*ℤ◌, ◌<◌, List, [], ◌∷◌, length, nat_lt, slice_set, unsigned_abs, if◌then◌else◌}
use Rattle.std.specs.Int.{int_rem_euclid}
use Rattle.pd_atom.specs.declared.Atom.{Atom}
use Rattle.pd_atom.specs.declared.Atom.TheVariants as atom
use Rattle.pd_clock.specs.declared.times.Rate.{Rate}
use Rattle.pd_clock.specs.Rates.{samples}
use Rattle.pd_kind.specs.declared.states.State.{State}
use Rattle.pd_kind.specs.declared.states.State.TheVariants as state
use Rattle.pd_kind.specs.declared.states.Slope.{Slope}
use Rattle.pd_held.specs.Slopes.{slope_to}

-- the phase that a number sets: its part above a whole unit, in billionths, times the rate
abbrev pub phase_of : ℤ → Rate → ℕ
phase_of z rate = unsigned_abs (int_rem_euclid (z *ℤ pos 1000) (pos 1000000000)) * samples rate

abbrev pub with_time : Slope → ℤ → Slope
with_time s z = record { time = z; start = s.start; target = s.target; length = s.length; at = s.at; rate = s.rate }

abbrev pub held_at : List ℤ → ℕ → ℤ → List ℤ
held_at held i z = if nat_lt i (length held) then slice_set held i z else held

-- The state once a number came to the i-th inlet, which holds or stores it; at the first inlet of a `line~` it begins a slope. An inlet
-- that stores nothing leaves the state.
abbrev pub stored_at : State → ℕ → ℤ → State
stored_at (state.Sig v) zero z = state.Sig z
stored_at (state.Phasor held p rate) zero z = state.Phasor z p rate
stored_at (state.Phasor held p rate) (suc zero) z = state.Phasor held (phase_of z rate) rate
stored_at (state.Osc held p rate) zero z = state.Osc z p rate
stored_at (state.Osc held p rate) (suc zero) z = state.Osc held (phase_of z rate) rate
stored_at (state.SignalOperation left right) zero z = state.SignalOperation z right
stored_at (state.SignalOperation left right) (suc zero) z = state.SignalOperation left z
stored_at (state.SignalFunction held) zero z = state.SignalFunction z
stored_at (state.SignalClip held low high) zero z = state.SignalClip z low high
stored_at (state.SignalClip held low high) (suc zero) z = state.SignalClip held z high
stored_at (state.SignalClip held low high) (suc (suc zero)) z = state.SignalClip held low z
stored_at (state.Line slope) zero z = state.Line (slope_to slope z)
stored_at (state.Line slope) (suc zero) z = state.Line (with_time slope z)
stored_at (state.Samphold held control last kept) zero z = state.Samphold z control last kept
stored_at (state.Samphold held control last kept) (suc zero) z = state.Samphold held z last kept
stored_at (state.Lop held hz v rate) zero z = state.Lop z hz v rate
stored_at (state.Lop held hz v rate) (suc zero) z = state.Lop held z v rate
stored_at (state.Hip held hz v rate) zero z = state.Hip z hz v rate
stored_at (state.Hip held hz v rate) (suc zero) z = state.Hip held z v rate
stored_at (state.Delwrite held values next ran) zero z = state.Delwrite z values next ran
stored_at (state.Delread time rate) zero z = state.Delread z rate
stored_at (state.SignalSend held block) zero z = state.SignalSend z block
stored_at (state.Throw held) zero z = state.Throw z
stored_at (state.Snapshot held last) zero z = state.Snapshot z last
stored_at (state.SignalTabread held) zero z = state.SignalTabread z
stored_at (state.Dac held) i z = state.Dac (held_at held i z)
stored_at (state.SignalInlet held) zero z = state.SignalInlet z
stored_at (state.SignalOutlet held) zero z = state.SignalOutlet z
stored_at s i z = s

-- one atom of a spread list, stored where it is a number
abbrev pub atom_stored : State → ℕ → Atom → State
atom_stored s i (atom.Number z) = stored_at s i z
atom_stored s i _ = s

-- the atoms of a spread list, stored from the i-th inlet on
abbrev pub list_stored : State → ℕ → List Atom → State
list_stored s i [] = s
list_stored s i (a ∷ atoms) = list_stored (atom_stored s i a) (suc i) atoms
