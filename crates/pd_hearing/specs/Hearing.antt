-- What a box does with a message, when it is resumed, when its clock fires and when it is loaded.
use Rattle.std.specs.Prelude.{ℕ, ℤ, ◌&&◌, ◌^◌, nat_le, List, [], ◌∷◌, slice_get, Option, Some, None, option_map, option_and_then, if◌then◌else◌}
use Rattle.pd_atom.specs.Names.{Names}
use Rattle.pd_atom.specs.declared.Atom.{Atom}
use Rattle.pd_name.specs.Rows.{owners_of}
use Rattle.pd_name.specs.declared.Class.TheVariants.{Table}
use Rattle.pd_object.specs.declared.kinds.Kind.{Kind}
use Rattle.pd_object.specs.declared.kinds.Kind.TheVariants as kind
use Rattle.pd_object.specs.declared.kinds.Glue.{Glue}
use Rattle.pd_object.specs.declared.kinds.Glue.TheVariants as glue
use Rattle.pd_kind.specs.declared.states.State.{State}
use Rattle.pd_kind.specs.Said.{Said, silent, sends_only, bang_to}
use Rattle.pd_kind.specs.Tables.{table_of}
use Rattle.pd_arith.specs.Rows as arith
use Rattle.pd_panel.specs.Rows as panel
use Rattle.pd_vline.specs.Rows as vline
use Rattle.pd_glue.specs.Rows as control
use Rattle.pd_glue.specs.Rows.{Hearing, with_names, quiet}
use Rattle.pd_grove.specs.declared.nodes.Node.{Node}
use Rattle.pd_grove.specs.Telling.{kind_in, with_state}
use Rattle.pd_patch.specs.declared.patch.Patch.{Patch}
use Rattle.pd_patch.specs.Walking.{table_named as named_table}
use Rattle.pd_hearing.specs.Worlds.{Net, set_at}
use Rattle.pd_hearing.specs.Guards.{is_message, is_table, is_small, is_open}

-- the name of the table that a `tabread` or a `tabwrite` looks at
abbrev pub glue_table : Glue → Option ℕ
glue_table (glue.Tabread name) = name
glue_table (glue.Tabwrite name) = name
glue_table g = None

abbrev pub table_name : Kind → Option ℕ
table_name (kind.Glue g) = glue_table g
table_name k = None

-- the box that has the table of a name, the first in text order
abbrev pub table_owner : Net → ℕ → Option ℕ
table_owner net name = slice_get (owners_of net.owners Table name) 0

-- the same of a patch
abbrev pub table_by : Patch → Option ℕ → Option (List ℤ)
table_by p None = None
table_by p (Some name) = named_table p name

-- the values of the table of a name, where there is one
abbrev pub table_in : Net → (ℕ → Option State) → Option ℕ → Option (List ℤ)
table_in net states None = None
table_in net states (Some name) = option_and_then (λ k. option_and_then table_of (states k)) (table_owner net name)

abbrev pub heard_line : Names → Kind → State → ℕ → ℕ → List Atom → ℕ → Hearing
heard_line names k s inlet selector atoms now =
    if nat_le now (2 ^ 101) && is_open now s then with_names names (vline.heard names now k s inlet selector atoms) else quiet names s

abbrev pub heard_other : Names → Kind → State → ℕ → ℕ → List Atom → ℕ → Option (List ℤ) → Hearing
heard_other names k s inlet selector atoms now table =
    if is_table table && is_small names k s then control.heard names k s inlet selector atoms now table else quiet names s

-- A box of a kind that keeps this hears a message, at a time and beside the table that its kind names.
abbrev pub heard_by : Names → Kind → State → ℕ → ℕ → List Atom → ℕ → Option (List ℤ) → Hearing
heard_by names (kind.Arith a) s inlet selector atoms now table = with_names names (arith.heard (kind.Arith a) s inlet selector atoms)
heard_by names (kind.Panel p) s inlet selector atoms now table = with_names names (panel.heard names (kind.Panel p) s selector atoms)
heard_by names kind.Vline s inlet selector atoms now table = heard_line names kind.Vline s inlet selector atoms now
heard_by names k s inlet selector atoms now table = heard_other names k s inlet selector atoms now table

-- the same, where the message can be heard
unfoldable pub heard_kind : Names → Kind → State → ℕ → ℕ → List Atom → ℕ → Option (List ℤ) → Hearing
heard_kind names k s inlet selector atoms now table =
    if is_message names selector atoms then heard_by names k s inlet selector atoms now table else quiet names s

-- what the boxes keep and the names after a box acted, and what it says
pub record Reply : Type 0 where
  pub states : ℕ → Option State
  pub names : Names
  pub said : Said

abbrev pub mute : (ℕ → Option State) → Names → Reply
mute states names = record { states = states; names = names; said = silent }

abbrev pub reply : (ℕ → Option State) → ℕ → Hearing → Reply
reply states node h = record { states = set_at states node (Some h.state); names = h.names; said = h.said }

abbrev pub table_named : Option Kind → Option ℕ
table_named None = None
table_named (Some k) = table_name k

abbrev pub heard_in : Names → Option Kind → State → ℕ → ℕ → List Atom → ℕ → Option (List ℤ) → Hearing
heard_in names None s inlet selector atoms now table = quiet names s
heard_in names (Some k) s inlet selector atoms now table = heard_kind names k s inlet selector atoms now table

-- a box whose state is there hears beside the tables of the others
abbrev pub heard_with : Net → ℕ → (ℕ → Option State) → Names → ℕ → ℕ → ℕ → List Atom → Option State → Reply
heard_with net now states names node inlet selector atoms None = mute states names
heard_with net now states names node inlet selector atoms (Some s) =
    let k = kind_in (net.nodes node) in
    reply states node (heard_in names k s inlet selector atoms now (table_in net (set_at states node None) (table_named k)))

-- the box of a key hears a message
unfoldable pub heard_at : Net → ℕ → (ℕ → Option State) → Names → ℕ → ℕ → ℕ → List Atom → Reply
heard_at net now states names node inlet selector atoms = heard_with net now states names node inlet selector atoms (states node)

-- a box, the names and what is said
pub record BoxReply : Type 0 where
  pub node : Node
  pub names : Names
  pub said : Said

abbrev pub box_reply : Node → Names → Option Hearing → BoxReply
box_reply n names None = record { node = n; names = names; said = silent }
box_reply n names (Some h) = record { node = with_state (Some h.state) n; names = h.names; said = h.said }

-- a box by itself hears a message beside no table
abbrev pub box_heard : Names → Node → ℕ → ℕ → List Atom → ℕ → BoxReply
box_heard names n inlet selector atoms now = box_reply n names (option_map (λ s. heard_kind names n.kind s inlet selector atoms now None) n.state)

abbrev pub resumed_in : Names → Option Kind → State → Hearing
resumed_in names None s = quiet names s
resumed_in names (Some k) s = with_names names (control.resumed k s)

-- a box by itself is resumed
abbrev pub box_resumed : Names → Node → BoxReply
box_resumed names n = box_reply n names (option_map (λ s. with_names names (control.resumed n.kind s)) n.state)

abbrev pub resumed_with : Net → (ℕ → Option State) → Names → ℕ → Option State → Reply
resumed_with net states names node None = mute states names
resumed_with net states names node (Some s) = reply states node (resumed_in names (kind_in (net.nodes node)) s)

-- the box of a key is resumed
unfoldable pub resumed_at : Net → (ℕ → Option State) → Names → ℕ → Reply
resumed_at net states names node = resumed_with net states names node (states node)

abbrev pub fired_with : Option State → Option Kind → Said
fired_with (Some s) (Some k) = control.fired k s
fired_with s k = silent

-- the clock of the box of a key fires: what it says
unfoldable pub fired_at : Net → (ℕ → Option State) → ℕ → Said
fired_at net states node = fired_with (states node) (kind_in (net.nodes node))

abbrev pub glue_loaded : Glue → Said
glue_loaded glue.Loadbang = sends_only (bang_to 0 ∷ [])
glue_loaded g = silent

abbrev pub panel_loaded : Kind → Option State → Said
panel_loaded k None = silent
panel_loaded k (Some s) = panel.loaded k s

abbrev pub loaded_kind : Kind → Option State → Said
loaded_kind (kind.Glue g) s = glue_loaded g
loaded_kind (kind.Panel p) s = panel_loaded (kind.Panel p) s
loaded_kind k s = silent

abbrev pub loaded_with : Option Kind → Option State → Said
loaded_with None s = silent
loaded_with (Some k) s = loaded_kind k s

-- the box of a key is loaded: what it says
unfoldable pub loaded_at : Net → (ℕ → Option State) → ℕ → Said
loaded_at net states node = loaded_with (kind_in (net.nodes node)) (states node)
