-- What the signal objects but `vline~` do with a message.
use Rattle.std.specs.Prelude.{ℕ, ◌==◌, Bool, true, false, List, [], ◌∷◌, drop, if◌then◌else◌, codes, bytes_eq}
use Rattle.pd_num.specs.Scale.{number_of}
use Rattle.pd_atom.specs.declared.Atom.{Atom}
use Rattle.pd_atom.specs.Names.{Names, name_of}
use Rattle.pd_kind.specs.declared.messages.Sort.{Sort}
use Rattle.pd_kind.specs.declared.messages.Sort.TheVariants as sort
use Rattle.pd_object.specs.declared.row_names.Row.{Row}
use Rattle.pd_object.specs.declared.row_names.Row.TheVariants.{Sounding}
use Rattle.pd_object.specs.declared.row_names.SignalRow.{SignalRow}
use Rattle.pd_object.specs.declared.row_names.SignalRow.TheVariants as row
use Rattle.pd_kind.specs.declared.states.State.{State}
use Rattle.pd_kind.specs.declared.states.State.TheVariants as state
use Rattle.pd_kind.specs.Messages.{sort_of}
use Rattle.pd_kind.specs.Said.{Said, silent, sends_only, number_to, deaf}
use Rattle.pd_kind.specs.Hearing.{Heard, first_sort, told}
use Rattle.pd_held.specs.Slopes.{slope_held}
use Rattle.pd_held.specs.Stores.{stored_at, list_stored}

abbrev pub leaves : State → Said → Heard
leaves s said = record { state = s; said = said }

-- a list's atoms behind the first are stored before that is heard
abbrev pub spread : Sort → State → List Atom → State
spread sort.List s atoms = list_stored s 1 (drop 1 atoms)
spread t s atoms = s

-- `noise~` and `receive~` hear no number
abbrev pub hears_numbers : SignalRow → Bool
hears_numbers row.Noise = false
hears_numbers row.SignalReceive = false
hears_numbers r = true

-- `snapshot~`: a bang sends the number of the last value
abbrev pub bang_heard : SignalRow → State → ℕ → Said
bang_heard r (state.Snapshot held last) selector = sends_only (number_to 0 (number_of last) ∷ [])
bang_heard r s selector = deaf (Sounding r) selector

-- `line~`: `stop` holds the value of the next sample
abbrev pub other_heard : Names → SignalRow → State → ℕ → Heard
other_heard names r (state.Line slope) selector =
    if bytes_eq (name_of names selector) (codes "stop") then leaves (state.Line (slope_held slope)) silent else leaves (state.Line slope) (deaf (Sounding r) selector)
other_heard names r s selector = leaves s (deaf (Sounding r) selector)

-- inlet 0, once a list is spread
abbrev pub hot : Names → SignalRow → State → ℕ → Sort → Heard
hot names r s selector (sort.Float z) = if hears_numbers r then leaves (stored_at s 0 z) silent else leaves s (deaf (Sounding r) 1)
hot names r s selector sort.Bang = leaves s (bang_heard r s selector)
hot names r s selector (sort.Symbol n) = leaves s (deaf (Sounding r) 2)
hot names r s selector t = other_heard names r s selector

-- another inlet
abbrev pub cold : SignalRow → State → ℕ → ℕ → Sort → Heard
cold r s i selector (sort.Float z) = leaves (stored_at s i z) silent
cold r s i selector t = leaves s (deaf (Sounding r) selector)

-- What a signal object of a row that keeps this does with a message at an inlet.
unfoldable pub sounding_row : Names → SignalRow → State → ℕ → ℕ → List Atom → Heard
sounding_row names r s inlet selector atoms =
    if inlet == 0 then hot names r (spread (sort_of selector atoms) s atoms) selector (first_sort (sort_of selector atoms) atoms)
    else cold r s inlet selector (sort_of selector atoms)
