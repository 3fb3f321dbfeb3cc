-- What a `vline~` does with a message.
use Rattle.std.specs.Prelude.{ℕ, ℤ, zero, suc, pos, negsuc, ◌+◌, ◌*◌, ◌==◌, ◌≤◌, min, nat_lt, unsigned_abs, List, [], ◌∷◌, Option, Some, slice_get, if◌then◌else◌, codes, bytes_eq}
use Rattle.std.specs.List.{prefix_len}
use Rattle.pd_num.specs.Scale.{signal_of}
use Rattle.pd_atom.specs.declared.Atom.{Atom}
use Rattle.pd_atom.specs.declared.Atom.TheVariants as atom
use Rattle.pd_atom.specs.Names.{Names, name_of}
use Rattle.pd_clock.specs.declared.times.Rate.{Rate}
use Rattle.pd_clock.specs.Rates.{samples}
use Rattle.pd_object.specs.declared.kinds.Kind.{Kind}
use Rattle.pd_object.specs.declared.kinds.Kind.TheVariants as kind
use Rattle.pd_kind.specs.declared.messages.Sort.{Sort}
use Rattle.pd_kind.specs.declared.messages.Sort.TheVariants as sort
use Rattle.pd_kind.specs.declared.messages.Deed.TheVariants.{Nothing}
use Rattle.pd_kind.specs.declared.messages.Notice.TheVariants.{TooManyRamps}
use Rattle.pd_object.specs.declared.row_names.Row.TheVariants.{Sounding}
use Rattle.pd_object.specs.declared.row_names.SignalRow.TheVariants as row
use Rattle.pd_kind.specs.declared.states.Ramp.{Ramp}
use Rattle.pd_kind.specs.declared.states.Ramps.{Ramps}
use Rattle.pd_kind.specs.declared.states.State.{State}
use Rattle.pd_kind.specs.declared.states.State.TheVariants as state
use Rattle.pd_kind.specs.Books.{with_times, with_ramp_last}
use Rattle.pd_kind.specs.Hearing.{Heard, first_sort}
use Rattle.pd_kind.specs.Messages.{sort_of}
use Rattle.pd_kind.specs.Said.{Said, silent, deaf}
use Rattle.pd_vline.specs.Ramps.{at, added_to}
use Rattle.pd_vline.specs.Taken.{present}

-- what a hearing leaves
pub record Left : Type 0 where
  pub ramps : Ramps
  pub said : Said

abbrev pub leaves : Ramps → Said → Left
leaves r said = record { ramps = r; said = said }

abbrev pub refused : Ramps → ℕ → Left
refused r selector = leaves r (deaf (Sounding row.Vline) selector)

-- a number of milliseconds, limited to a day
abbrev pub limited : ℤ → ℤ
limited (pos n) = pos (min n 86400000000000)
limited (negsuc n) = pos 0

-- a number of milliseconds in units of time
abbrev pub units : Rate → ℤ → ℕ
units rate time = unsigned_abs time * samples rate

-- the ramp of a number: from its delay after now on, over the ramp time
abbrev pub float_ramp : Ramps → ℕ → ℤ → Ramp
float_ramp r now z = record { start = now + units r.rate r.delay; end = now + units r.rate r.delay + units r.rate r.time; target = signal_of z }

-- the ramp of a stop: it holds a value from now on
abbrev pub stop_ramp : ℕ → ℤ → Ramp
stop_ramp now value = record { start = now; end = now; target = value }

-- how many of the ramps that are kept start before a new one
abbrev pub staying : Ramp → List Ramp → ℕ
staying new ramps = prefix_len (λ r. nat_lt r.start new.start) ramps

-- a ramp is added where less than 256 ramps stay
abbrev pub with_ramp : Ramps → Ramp → Left
with_ramp r new =
    if nat_lt (staying new r.ramps) 256 then leaves (with_ramp_last r (staying new r.ramps) new) silent
    else leaves r (record { sends = []; deed = Nothing; notices = TooManyRamps ∷ [] })

-- a number makes a ramp, and the stored times are set back to 0
abbrev pub float_heard : Ramps → ℕ → ℤ → Left
float_heard r now z = with_ramp (with_times r (pos 0) (pos 0)) (float_ramp r now z)

-- `stop` makes a ramp that holds the present value
abbrev pub other_heard : Names → ℕ → Ramps → ℕ → Left
other_heard names now r selector =
    if bytes_eq (name_of names selector) (codes "stop") then with_ramp r (stop_ramp now (present r now)) else refused r selector

-- the time that an atom of a spread list stores
abbrev pub time_or : Option Atom → ℤ → ℤ
time_or (Some (atom.Number z)) time = limited z
time_or a time = time

-- a list's second and third atoms are stored before the first is heard
abbrev pub spread : Sort → Ramps → List Atom → Ramps
spread sort.List r atoms = with_times r (time_or (slice_get atoms 1) r.time) (time_or (slice_get atoms 2) r.delay)
spread s r atoms = r

-- inlet 0, once a list is spread
abbrev pub hot : Names → ℕ → Ramps → ℕ → Sort → Left
hot names now r selector (sort.Float z) = float_heard r now z
hot names now r selector sort.Bang = refused r selector
hot names now r selector (sort.Symbol s) = refused r 2
hot names now r selector sort.List = other_heard names now r selector
hot names now r selector sort.Other = other_heard names now r selector

-- inlet 1 stores the ramp time, inlet 2 the delay
abbrev pub stored_at : Ramps → ℕ → ℤ → Ramps
stored_at r (suc zero) z = with_times r (limited z) r.delay
stored_at r (suc (suc zero)) z = with_times r r.time (limited z)
stored_at r i z = r

abbrev pub cold : Ramps → ℕ → ℕ → Sort → Left
cold r i selector (sort.Float z) = leaves (stored_at r i z) silent
cold r i selector s = refused r selector

unfoldable pub vline_row : Names → ℕ → Ramps → ℕ → ℕ → List Atom → Left
vline_row names now r inlet selector atoms =
    if inlet == 0 then hot names now (spread (sort_of selector atoms) r atoms) selector (first_sort (sort_of selector atoms) atoms)
    else cold r inlet selector (sort_of selector atoms)

-- the state and what is said
abbrev pub as_heard : Left → Heard
as_heard left = record { state = state.Vline left.ramps; said = left.said }

-- What a box that keeps this does with a message at an inlet, now. Other boxes hear nothing.
abbrev pub heard : Names → ℕ → Kind → State → ℕ → ℕ → List Atom → Heard
heard names now kind.Vline (state.Vline r) inlet selector atoms = as_heard (vline_row names now r inlet selector atoms)
heard names now k s inlet selector atoms = record { state = s; said = silent }

-- the list of ramps, the newest first, after what is heard at inlet 0 once a list is spread
abbrev pub list_after : Names → ℕ → Ramps → ℕ → Sort → List Ramp → List Ramp
list_after names now r selector (sort.Float z) l = added_to r.end (float_ramp r now z) l
list_after names now r selector sort.Bang l = l
list_after names now r selector (sort.Symbol s) l = l
list_after names now r selector s l =
    if bytes_eq (name_of names selector) (codes "stop") then added_to r.end (stop_ramp now (at l now)) l else l

-- The list of ramps after a message: with the message's ramp added, or itself where the message makes none or one too many.
unfoldable pub list_after_row : Names → ℕ → Ramps → ℕ → ℕ → List Atom → List Ramp → List Ramp
list_after_row names now r inlet selector atoms l =
    if inlet == 0 then list_after names now (spread (sort_of selector atoms) r atoms) selector (first_sort (sort_of selector atoms) atoms) l
    else l

abbrev pub heard_list : Names → ℕ → Kind → State → ℕ → ℕ → List Atom → List Ramp → List Ramp
heard_list names now kind.Vline (state.Vline r) inlet selector atoms l = list_after_row names now r inlet selector atoms l
heard_list names now k s inlet selector atoms l = l

-- a `vline~` has run no block beyond now
abbrev pub IsOpen : ℕ → State → Type 0
IsOpen now (state.Vline r) = r.end ≤ now
IsOpen now s = Unit {0}
