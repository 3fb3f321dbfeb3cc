-- The objects that work with lists. Each takes a message as the list of its atoms, a selector that is not plain before them.
use Rattle.std.specs.Prelude.{ℕ, ℤ, pos, ◌==◌, ◌*◌, nat_le, List, [], ◌∷◌, ◌++◌, length, take, drop, if◌then◌else◌}
use Rattle.pd_atom.specs.declared.Atom.{Atom}
use Rattle.pd_kind.specs.declared.messages.Deed.TheVariants.{Nothing}
use Rattle.pd_kind.specs.declared.messages.Sort.{Sort}
use Rattle.pd_kind.specs.declared.messages.Sort.TheVariants as sort
use Rattle.pd_kind.specs.declared.messages.Target.TheVariants.{Outlet}
use Rattle.pd_object.specs.declared.row_names.Row.TheVariants as row
use Rattle.pd_kind.specs.declared.states.State.TheVariants as state
use Rattle.pd_kind.specs.Forming.{list_send, message_send, cut_atoms, cut_notices, atoms_with_selector}
use Rattle.pd_kind.specs.Hearing.{Heard}
use Rattle.pd_kind.specs.Messages.{sort_of}
use Rattle.pd_kind.specs.Rows.{Send}
use Rattle.pd_kind.specs.Said.{Said, silent, sends_only, number_to, deaf}
use Rattle.pd_kind.specs.States.{units_of, whole_at_least}
use Rattle.pd_list.specs.Outlets.{leaves}

-- sends of a list that was cut where it was too long, which is told
abbrev pub said_of_list : List Send → List Atom → Said
said_of_list sends atoms = record { sends = sends; deed = Nothing; notices = cut_notices atoms }

-- a list to outlet 0
abbrev pub list_said : List Atom → Said
list_said atoms = said_of_list (list_send (Outlet 0) (cut_atoms atoms) ∷ []) atoms

-- stored atoms and what is said
pub record Stored : Type 0 where
  pub atoms : List Atom
  pub said : Said

-- inlet 1 of `list append` and `list prepend`: the list is stored
abbrev pub list_stored : List Atom → Stored
list_stored list = record { atoms = cut_atoms list; said = said_of_list [] list }

-- `list append`: a list, then the stored atoms.
abbrev pub append_row : List Atom → ℕ → List Atom → Stored
append_row stored inlet list = if inlet == 0 then record { atoms = stored; said = list_said (list ++ stored) } else list_stored list

-- `list prepend`: the stored atoms, then a list.
abbrev pub prepend_row : List Atom → ℕ → List Atom → Stored
prepend_row stored inlet list = if inlet == 0 then record { atoms = stored; said = list_said (stored ++ list) } else list_stored list

-- a list with so many atoms is split behind them, and the second part is sent first; a shorter one goes to outlet 2
abbrev pub split_sends : ℕ → List Atom → List Send
split_sends n list = if nat_le n (length list) then list_send (Outlet 1) (drop n list) ∷ list_send (Outlet 0) (take n list) ∷ [] else list_send (Outlet 2) list ∷ []

abbrev pub split_said : ℤ → List Atom → Said
split_said count list = said_of_list (split_sends (units_of count) (cut_atoms list)) list

-- Inlet 1 of `list split`: a float is stored as a whole number that is at least 0.
abbrev pub split_cold : ℤ → ℕ → Sort → Heard
split_cold count selector (sort.Float z) = leaves (state.ListSplit (whole_at_least 0 z)) silent
split_cold count selector s = leaves (state.ListSplit count) (deaf row.ListSplit selector)

abbrev pub split_row : ℤ → ℕ → ℕ → List Atom → Heard
split_row count inlet selector atoms =
    if inlet == 0 then leaves (state.ListSplit count) (split_said count (atoms_with_selector selector atoms)) else split_cold count selector (sort_of selector atoms)

-- `list trim`: the message that a list makes.
abbrev pub trim_row : List Atom → Said
trim_row list = sends_only (message_send (Outlet 0) list ∷ [])

-- `list length`: the number of a list's atoms.
abbrev pub length_row : List Atom → Said
length_row list = sends_only (number_to 0 (pos (length list * 1000000)) ∷ [])
