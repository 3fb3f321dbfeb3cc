-- What the objects that work with messages as a whole do with a message.
use Rattle.std.specs.Prelude.{ℕ, List, ◌≤◌, length}
use Rattle.pd_atom.specs.declared.Atom.{Atom}
use Rattle.pd_object.specs.declared.kinds.Glue.{Glue}
use Rattle.pd_object.specs.declared.kinds.Glue.TheVariants as glue
use Rattle.pd_kind.specs.declared.states.State.{State}
use Rattle.pd_kind.specs.declared.states.State.TheVariants as state
use Rattle.pd_kind.specs.Forming.{atoms_with_selector}
use Rattle.pd_kind.specs.Hearing.{Heard}
use Rattle.pd_kind.specs.Said.{silent}
use Rattle.pd_list.specs.Outlets.{leaves, trigger_row}
use Rattle.pd_list.specs.Slots.{pack_row, unpack_row}
use Rattle.pd_list.specs.Choices.{Chosen, route_row, select_row}
use Rattle.pd_list.specs.Lists.{Stored, append_row, prepend_row, split_row, trim_row, length_row}

-- a state whose list has at most 1,024 atoms
abbrev pub IsSmallState : State → Type 0
IsSmallState (state.Pack kept) = length kept ≤ 1024
IsSmallState (state.Route args) = length args ≤ 1024
IsSmallState (state.Select args) = length args ≤ 1024
IsSmallState (state.ListAppend stored) = length stored ≤ 1024
IsSmallState (state.ListPrepend stored) = length stored ≤ 1024
IsSmallState _ = Unit {0}

abbrev pub with_arguments : (List Atom → State) → Chosen → Heard
with_arguments make c = leaves (make c.arguments) c.said

abbrev pub with_stored : (List Atom → State) → Stored → Heard
with_stored make s = leaves (make s.atoms) s.said

-- What a box that keeps this does with a message at an inlet. A state of another kind hears nothing.
unfoldable pub list_row : Glue → State → ℕ → ℕ → List Atom → Heard
list_row (glue.Trigger w outlets) s inlet selector atoms = leaves s (trigger_row outlets selector atoms)
list_row (glue.Pack slots) (state.Pack kept) inlet selector atoms = pack_row slots kept inlet selector atoms
list_row (glue.Unpack slots) s inlet selector atoms = leaves s (unpack_row slots selector atoms)
list_row (glue.Route a) (state.Route args) inlet selector atoms = with_arguments state.Route (route_row args inlet selector atoms)
list_row (glue.Select w a) (state.Select args) inlet selector atoms = with_arguments state.Select (select_row args inlet selector atoms)
list_row (glue.ListAppend w a) (state.ListAppend stored) inlet selector atoms = with_stored state.ListAppend (append_row stored inlet (atoms_with_selector selector atoms))
list_row (glue.ListPrepend a) (state.ListPrepend stored) inlet selector atoms = with_stored state.ListPrepend (prepend_row stored inlet (atoms_with_selector selector atoms))
list_row (glue.ListSplit z) (state.ListSplit count) inlet selector atoms = split_row count inlet selector atoms
list_row glue.ListTrim s inlet selector atoms = leaves s (trim_row (atoms_with_selector selector atoms))
list_row glue.ListLength s inlet selector atoms = leaves s (length_row (atoms_with_selector selector atoms))
list_row g s inlet selector atoms = leaves s silent
