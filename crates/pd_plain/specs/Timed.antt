-- The objects of time and of chance, `until`, and those that read and write tables.
use Rattle.std.specs.Prelude.{ℕ, ℤ, zero, suc, pos, ◌==◌, ◌+◌, ◌-◌, ◌*◌, ◌/◌, ◌%◌, ◌^◌, ◌&&◌, Bool, true, false, not, min, max, unsigned_abs, int_lt, List, [], ◌∷◌, length, slice_index_or, Option, Some, None, if◌then◌else◌, codes}
use Rattle.std.specs.Int.{int_max}
use Rattle.pd_num.specs.Scale.{millionths, whole_of}
use Rattle.pd_atom.specs.declared.Atom.{Atom}
use Rattle.pd_atom.specs.Names.{Names}
use Rattle.pd_clock.specs.declared.times.Rate.{Rate}
use Rattle.pd_clock.specs.Rates.{samples}
use Rattle.pd_kind.specs.declared.messages.Deed.{Deed}
use Rattle.pd_kind.specs.declared.messages.Deed.TheVariants as deed
use Rattle.pd_kind.specs.declared.messages.Sort.{Sort}
use Rattle.pd_kind.specs.declared.messages.Sort.TheVariants as sort
use Rattle.pd_object.specs.declared.row_names.Row.TheVariants as row
use Rattle.pd_kind.specs.declared.states.State.{State}
use Rattle.pd_kind.specs.declared.states.State.TheVariants as state
use Rattle.pd_kind.specs.Messages.{sort_of}
use Rattle.pd_kind.specs.Rows.{Send}
use Rattle.pd_kind.specs.Said.{Said, silent, sends_only, bang_to, number_to, deaf}
use Rattle.pd_kind.specs.States.{units_of, whole_at_least}
use Rattle.pd_kind.specs.Hearing.{Heard, first_sort, told, stored}
use Rattle.pd_plain.specs.Values.{leaves, is_called}

-- sends with a deed
abbrev pub says_with : Deed → List Send → Said
says_with d sends = record { sends = sends; deed = d; notices = [] }

-- `until`: a bang lets it run without end, a float so many times; both ask to be resumed. A bang at inlet 1 stops it.
abbrev pub until_hot : Bool → Option ℕ → ℕ → Sort → Heard
until_hot running count selector sort.Bang = leaves (state.Until true None) (says_with deed.Again [])
until_hot running count selector (sort.Float z) = leaves (state.Until true (Some (units_of z))) (says_with deed.Again [])
until_hot running count selector s = leaves (state.Until running count) (deaf row.Until (told s selector))

abbrev pub until_cold : Bool → Option ℕ → ℕ → Sort → Heard
until_cold running count selector sort.Bang = leaves (state.Until false count) silent
until_cold running count selector s = leaves (state.Until running count) (deaf row.Until selector)

abbrev pub until_row : Bool → Option ℕ → ℕ → ℕ → List Atom → Heard
until_row running count inlet selector atoms =
    if inlet == 0 then until_hot running count selector (first_sort (sort_of selector atoms) atoms) else until_cold running count selector (sort_of selector atoms)

-- resumed: where it runs and its count isn't used up, the count falls by one, a bang is sent and it asks again
abbrev pub until_resumed : Bool → Option ℕ → Heard
until_resumed true None = leaves (state.Until true None) (says_with deed.Again (bang_to 0 ∷ []))
until_resumed true (Some (suc n)) = leaves (state.Until true (Some n)) (says_with deed.Again (bang_to 0 ∷ []))
until_resumed running count = leaves (state.Until running count) silent

-- the period of a `metro` is at least a millisecond, the time of a `delay` at least none
abbrev pub metro_period : ℤ → ℤ
metro_period z = int_max z (pos 1000000)

abbrev pub delay_time : ℤ → ℤ
delay_time z = int_max z (pos 0)

-- `metro`: a bang or a float that isn't 0 sets the clock and sends a bang, 0 or `stop` clears it; inlet 1 stores the period.
abbrev pub metro_started : ℤ → Heard
metro_started period = leaves (state.Metro period) (says_with (deed.SetClock (metro_period period)) (bang_to 0 ∷ []))

abbrev pub metro_stopped : ℤ → Heard
metro_stopped period = leaves (state.Metro period) (says_with deed.ClearClock [])

abbrev pub metro_other : Names → ℤ → ℕ → Heard
metro_other names period selector = if is_called names selector (codes "stop") then metro_stopped period else leaves (state.Metro period) (deaf row.Metro selector)

abbrev pub metro_hot : Names → ℤ → ℕ → Sort → Heard
metro_hot names period selector sort.Bang = metro_started period
metro_hot names period selector (sort.Float z) = if unsigned_abs z == 0 then metro_stopped period else metro_started period
metro_hot names period selector sort.Other = metro_other names period selector
metro_hot names period selector s = leaves (state.Metro period) (deaf row.Metro (told s selector))

abbrev pub metro_cold : ℤ → ℕ → Sort → Heard
metro_cold period selector (sort.Float z) = leaves (state.Metro z) silent
metro_cold period selector s = leaves (state.Metro period) (deaf row.Metro selector)

abbrev pub metro_row : Names → ℤ → ℕ → ℕ → List Atom → Heard
metro_row names period inlet selector atoms =
    if inlet == 0 then metro_hot names (stored (sort_of selector atoms) atoms 1 period) selector (first_sort (sort_of selector atoms) atoms)
    else metro_cold period selector (sort_of selector atoms)

-- `delay`: a bang sets the clock, a float stores the time and sets it, `stop` clears it; inlet 1 stores.
abbrev pub delay_set : ℤ → Heard
delay_set time = leaves (state.Delay time) (says_with (deed.SetClock (delay_time time)) [])

abbrev pub delay_other : Names → ℤ → ℕ → Heard
delay_other names time selector =
    if is_called names selector (codes "stop") then leaves (state.Delay time) (says_with deed.ClearClock []) else leaves (state.Delay time) (deaf row.Delay selector)

abbrev pub delay_hot : Names → ℤ → ℕ → Sort → Heard
delay_hot names time selector sort.Bang = delay_set time
delay_hot names time selector (sort.Float z) = delay_set z
delay_hot names time selector sort.Other = delay_other names time selector
delay_hot names time selector s = leaves (state.Delay time) (deaf row.Delay (told s selector))

abbrev pub delay_cold : ℤ → ℕ → Sort → Heard
delay_cold time selector (sort.Float z) = leaves (state.Delay z) silent
delay_cold time selector s = leaves (state.Delay time) (deaf row.Delay selector)

abbrev pub delay_row : Names → ℤ → ℕ → ℕ → List Atom → Heard
delay_row names time inlet selector atoms =
    if inlet == 0 then delay_hot names (stored (sort_of selector atoms) atoms 1 time) selector (first_sort (sort_of selector atoms) atoms)
    else delay_cold time selector (sort_of selector atoms)

-- `timer`: a bang sets the reset to the present time; a bang at inlet 1 sends the milliseconds since then, saturated.
abbrev pub elapsed : Rate → ℕ → ℕ → ℤ
elapsed rate reset now = pos (min ((now - reset) / samples rate) millionths.limit)

abbrev pub timer_hot : ℕ → Rate → ℕ → ℕ → Sort → Heard
timer_hot reset rate now selector sort.Bang = leaves (state.Timer now rate) silent
timer_hot reset rate now selector s = leaves (state.Timer reset rate) (deaf row.Timer (told s selector))

abbrev pub timer_cold : ℕ → Rate → ℕ → ℕ → Sort → Heard
timer_cold reset rate now selector sort.Bang = leaves (state.Timer reset rate) (sends_only (number_to 0 (elapsed rate reset now) ∷ []))
timer_cold reset rate now selector s = leaves (state.Timer reset rate) (deaf row.Timer selector)

abbrev pub timer_row : ℕ → Rate → ℕ → ℕ → ℕ → List Atom → Heard
timer_row reset rate now inlet selector atoms =
    if inlet == 0 then timer_hot reset rate now selector (first_sort (sort_of selector atoms) atoms) else timer_cold reset rate now selector (sort_of selector atoms)

-- the numbers of `random` and `noise~`, one from the other
abbrev pub next_seed : ℕ → ℕ
next_seed seed = (seed * 1664525 + 1013904223) % 2 ^ 32

-- `random`: a bang draws the next number and sends its share of the range, a whole number; inlet 1 stores the range.
abbrev pub drawn : ℕ → ℤ → ℤ
drawn seed range = pos (units_of range * seed / 2 ^ 32 * 1000000)

abbrev pub random_hot : ℕ → ℤ → ℕ → Sort → Heard
random_hot seed range selector sort.Bang = leaves (state.Random (next_seed seed) range) (sends_only (number_to 0 (drawn (next_seed seed) range) ∷ []))
random_hot seed range selector s = leaves (state.Random seed range) (deaf row.Random (told s selector))

abbrev pub random_cold : ℕ → ℤ → ℕ → Sort → Heard
random_cold seed range selector (sort.Float z) = leaves (state.Random seed (whole_at_least 1 z)) silent
random_cold seed range selector s = leaves (state.Random seed range) (deaf row.Random selector)

abbrev pub random_row : ℕ → ℤ → ℕ → ℕ → List Atom → Heard
random_row seed range inlet selector atoms =
    if inlet == 0 then random_hot seed (whole_at_least 1 (stored (sort_of selector atoms) atoms 1 range)) selector (first_sort (sort_of selector atoms) atoms)
    else random_cold seed range selector (sort_of selector atoms)

-- a place of a table: the whole units, limited to its places
abbrev pub place_in : List ℤ → ℤ → ℕ
place_in values z = min (units_of z) (length values - 1)

abbrev pub value_at : Option (List ℤ) → ℤ → ℤ
value_at (Some values) z = slice_index_or values (place_in values z) (pos 0)
value_at None z = pos 0

-- `tabread`: the value at a float's place, 0 without a table.
abbrev pub tabread_hot : Option (List ℤ) → ℕ → Sort → Said
tabread_hot table selector (sort.Float z) = sends_only (number_to 0 (value_at table z) ∷ [])
tabread_hot table selector s = deaf row.Tabread (told s selector)

abbrev pub tabread_row : Option (List ℤ) → ℕ → List Atom → Said
tabread_row table selector atoms = tabread_hot table selector (first_sort (sort_of selector atoms) atoms)

-- `tabwrite`: a float is written at the stored place, where there is a table; inlet 1 stores the place.
abbrev pub written : Option (List ℤ) → ℤ → ℤ → Said
written (Some values) index z = says_with (deed.WriteTable (place_in values index) z) []
written None index z = silent

abbrev pub tabwrite_hot : Option (List ℤ) → ℤ → ℕ → Sort → Heard
tabwrite_hot table index selector (sort.Float z) = leaves (state.Tabwrite index) (written table index z)
tabwrite_hot table index selector s = leaves (state.Tabwrite index) (deaf row.Tabwrite (told s selector))

abbrev pub tabwrite_cold : ℤ → ℕ → Sort → Heard
tabwrite_cold index selector (sort.Float z) = leaves (state.Tabwrite (whole_of z)) silent
tabwrite_cold index selector s = leaves (state.Tabwrite index) (deaf row.Tabwrite selector)

abbrev pub tabwrite_row : Option (List ℤ) → ℤ → ℕ → ℕ → List Atom → Heard
tabwrite_row table index inlet selector atoms =
    if inlet == 0 then tabwrite_hot table (whole_of (stored (sort_of selector atoms) atoms 1 index)) selector (first_sort (sort_of selector atoms) atoms)
    else tabwrite_cold index selector (sort_of selector atoms)
