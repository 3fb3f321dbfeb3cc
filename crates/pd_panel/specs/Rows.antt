-- What `bng` and `tgl` do with a message and when a document is loaded.
use Rattle.std.specs.Prelude.{ℕ, ℤ, pos, ◌==◌, Bool, false, unsigned_abs, List, [], ◌∷◌, Option, Some, None, slice_get, if◌then◌else◌, codes, bytes_eq}
use Rattle.pd_atom.specs.declared.Atom.{Atom}
use Rattle.pd_atom.specs.declared.Atom.TheVariants as atom
use Rattle.pd_atom.specs.Names.{Names, name_of}
use Rattle.pd_object.specs.declared.kinds.Kind.{Kind}
use Rattle.pd_object.specs.declared.kinds.Kind.TheVariants as kind
use Rattle.pd_object.specs.declared.kinds.Panel.{Panel}
use Rattle.pd_object.specs.declared.kinds.Panel.TheVariants as panel
use Rattle.pd_kind.specs.declared.messages.Sort.{Sort}
use Rattle.pd_kind.specs.declared.messages.Sort.TheVariants as sort
use Rattle.pd_kind.specs.declared.messages.Target.TheVariants as target
use Rattle.pd_object.specs.declared.row_names.Row.TheVariants as row
use Rattle.pd_kind.specs.declared.states.State.{State}
use Rattle.pd_kind.specs.declared.states.State.TheVariants as state
use Rattle.pd_kind.specs.Messages.{sort_of}
use Rattle.pd_kind.specs.Rows.{Send}
use Rattle.pd_kind.specs.Said.{Said, silent, sends_only, send_to, deaf}
use Rattle.pd_kind.specs.Hearing.{Heard, first_sort, told}

abbrev pub leaves : State → Said → Heard
leaves s said = record { state = s; said = said }

-- the selector's name is this word
abbrev pub is_called : Names → ℕ → List ℕ → Bool
is_called names selector word = bytes_eq (name_of names selector) word

abbrev pub is_zero : ℤ → Bool
is_zero z = unsigned_abs z == 0

-- a message to outlet 0 and then to the send name, where there is one
abbrev pub to_name : Option ℕ → ℕ → List Atom → List Send
to_name (Some s) selector atoms = record { target = target.Name s false; selector = selector; atoms = atoms } ∷ []
to_name None selector atoms = []

abbrev pub shown : Option ℕ → ℕ → List Atom → Said
shown name selector atoms = sends_only (send_to 0 selector atoms ∷ to_name name selector atoms)

abbrev pub bang_shown : Option ℕ → Said
bang_shown name = shown name 0 []

abbrev pub number_shown : Option ℕ → ℤ → Said
number_shown name z = shown name 1 (atom.Number z ∷ [])

-- a bang at a toggle: 0 where its value isn't 0, else the other value
abbrev pub flipped : ℤ → ℤ → ℤ
flipped value other = if is_zero value then other else pos 0

-- `set` with a number stores the value
abbrev pub toggle_set : ℤ → ℤ → Bool → ℕ → Option Atom → Heard
toggle_set value other saved selector (Some (atom.Number z)) = leaves (state.Toggle z other saved) silent
toggle_set value other saved selector _ = leaves (state.Toggle value other saved) (deaf row.Toggle selector)

-- `nonzero` with a number stores the other value, but not 0
abbrev pub toggle_nonzero : ℤ → ℤ → Bool → ℕ → Option Atom → Heard
toggle_nonzero value other saved selector (Some (atom.Number z)) = leaves (state.Toggle value (if is_zero z then other else z) saved) silent
toggle_nonzero value other saved selector _ = leaves (state.Toggle value other saved) (deaf row.Toggle selector)

abbrev pub toggle_other : Names → ℤ → ℤ → Bool → ℕ → List Atom → Heard
toggle_other names value other saved selector atoms =
    if is_called names selector (codes "set") then toggle_set value other saved selector (slice_get atoms 0) else
    if is_called names selector (codes "nonzero") then toggle_nonzero value other saved selector (slice_get atoms 0) else
    leaves (state.Toggle value other saved) (deaf row.Toggle selector)

-- a toggle that now has this value sends it
abbrev pub turned : Option ℕ → ℤ → ℤ → Bool → Heard
turned name value other saved = leaves (state.Toggle value other saved) (number_shown name value)

abbrev pub toggle_hot : Names → Option ℕ → ℤ → ℤ → Bool → ℕ → List Atom → Sort → Heard
toggle_hot names name value other saved selector atoms (sort.Float z) = turned name z other saved
toggle_hot names name value other saved selector atoms sort.Bang = turned name (flipped value other) other saved
toggle_hot names name value other saved selector atoms sort.Other = toggle_other names value other saved selector atoms
toggle_hot names name value other saved selector atoms s = leaves (state.Toggle value other saved) (deaf row.Toggle (told s selector))

abbrev pub toggle_row : Names → Option ℕ → ℤ → ℤ → Bool → ℕ → List Atom → Heard
toggle_row names name value other saved selector atoms = toggle_hot names name value other saved selector atoms (first_sort (sort_of selector atoms) atoms)

abbrev pub panel_row : Names → Panel → State → ℕ → List Atom → Heard
panel_row names (panel.Bng button) s selector atoms = leaves s (bang_shown button.send)
panel_row names (panel.Tgl toggle) (state.Toggle value other saved) selector atoms = toggle_row names toggle.send value other saved selector atoms
panel_row names p s selector atoms = leaves s silent

-- What a box that keeps this does with a message at its inlet. A state of another kind, and a box of another family, hears nothing.
unfoldable pub heard : Names → Kind → State → ℕ → List Atom → Heard
heard names (kind.Panel p) s selector atoms = panel_row names p s selector atoms
heard names k s selector atoms = leaves s silent

-- When its document is loaded a box sends where its first number `init` isn't 0: a bang, or its value.
abbrev pub panel_loaded : Panel → State → Said
panel_loaded (panel.Bng button) s = if is_zero button.init then silent else bang_shown button.send
panel_loaded (panel.Tgl toggle) (state.Toggle value other saved) = if is_zero toggle.init then silent else number_shown toggle.send value
panel_loaded p s = silent

unfoldable pub loaded : Kind → State → Said
loaded (kind.Panel p) s = panel_loaded p s
loaded k s = silent
