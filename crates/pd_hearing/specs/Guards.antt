-- Whether a message, a box or a line is one with which the objects' definitions go on. Of every box that grew and of every message that
-- it sends it is so; what isn't so is passed over.
use Rattle.std.specs.Prelude.{ℕ, Bool, true, ◌&&◌, ◌^◌, nat_lt, nat_le, ℤ, List, length, Option, Some, None}
use Rattle.std.specs.List.{list_all}
use Rattle.pd_atom.specs.Names.{Names}
use Rattle.pd_atom.specs.declared.Atom.{Atom}
use Rattle.pd_atom.specs.declared.Atom.TheVariants as atom
use Rattle.pd_object.specs.declared.kinds.Kind.{Kind}
use Rattle.pd_object.specs.declared.kinds.Kind.TheVariants as kind
use Rattle.pd_object.specs.declared.kinds.Glue.{Glue}
use Rattle.pd_object.specs.declared.kinds.Glue.TheVariants as glue
use Rattle.pd_kind.specs.declared.states.State.{State}
use Rattle.pd_kind.specs.declared.states.State.TheVariants as state
use Rattle.pd_kind.specs.declared.messages.Notice.{Notice}
use Rattle.pd_kind.specs.declared.messages.Notice.TheVariants as notice

-- the table has the name
abbrev pub is_name : Names → ℕ → Bool
is_name names s = nat_lt s (length names)

-- the table has the name of the atom
abbrev pub is_atom : Names → Atom → Bool
is_atom names (atom.Number z) = true
is_atom names (atom.Symbol s) = is_name names s
is_atom names (atom.Dollar n) = nat_le n 9999
is_atom names (atom.DollarSymbol s) = is_name names s
is_atom names atom.Comma = true
is_atom names atom.Semi = true

unfoldable pub are_atoms : Names → List Atom → Bool
are_atoms names atoms = list_all (is_atom names) atoms

-- at most 1,024
abbrev pub is_few : {A : Type 0} → List A → Bool
is_few xs = nat_le (length xs) 1024

-- a message that can be heard
abbrev pub is_message : Names → ℕ → List Atom → Bool
is_message names selector atoms = is_name names selector && is_few atoms && are_atoms names atoms

-- a table of fewer than 2^32 values, or none
abbrev pub is_table : Option (List ℤ) → Bool
is_table None = true
is_table (Some values) = nat_lt (length values) (2 ^ 32)

abbrev pub is_small_glue : Glue → Bool
is_small_glue (glue.Message t) = is_few t
is_small_glue (glue.FloatBox t) = is_few t
is_small_glue (glue.SymbolBox t) = is_few t
is_small_glue (glue.Array t vs) = is_few t
is_small_glue (glue.Trigger w outs) = is_few outs
is_small_glue (glue.Pack slots) = is_few slots
is_small_glue (glue.Unpack slots) = is_few slots
is_small_glue (glue.Route args) = is_few args
is_small_glue (glue.Select w args) = is_few args
is_small_glue (glue.Print ws) = is_few ws
is_small_glue (glue.ListAppend w atoms) = is_few atoms
is_small_glue (glue.ListPrepend atoms) = is_few atoms
is_small_glue g = true

abbrev pub has_text : Names → Glue → Bool
has_text names (glue.FloatBox text) = are_atoms names text
has_text names (glue.SymbolBox text) = are_atoms names text
has_text names g = true

abbrev pub is_small_state : State → Bool
is_small_state (state.Pack slots) = is_few slots
is_small_state (state.Route args) = is_few args
is_small_state (state.Select args) = is_few args
is_small_state (state.ListAppend stored) = is_few stored
is_small_state (state.ListPrepend stored) = is_few stored
is_small_state s = true

-- an object that works with lists keeps one of at most 1,024 atoms
abbrev pub keeps_list : Glue → State → Bool
keeps_list (glue.Trigger w outs) s = is_small_state s
keeps_list (glue.Pack slots) s = is_small_state s
keeps_list (glue.Unpack slots) s = is_small_state s
keeps_list (glue.Route args) s = is_small_state s
keeps_list (glue.Select w args) s = is_small_state s
keeps_list (glue.ListAppend w a) s = is_small_state s
keeps_list (glue.ListPrepend a) s = is_small_state s
keeps_list (glue.ListSplit z) s = is_small_state s
keeps_list glue.ListTrim s = is_small_state s
keeps_list glue.ListLength s = is_small_state s
keeps_list g s = true

-- a message box keeps a text of at most 1,024 atoms, all of the table
abbrev pub keeps_message : Names → State → Bool
keeps_message names (state.Message text) = is_few text && are_atoms names text
keeps_message names s = true

abbrev pub keeps_text : Names → Glue → State → Bool
keeps_text names (glue.Message text) s = keeps_message names s
keeps_text names g s = true

abbrev pub is_small_box : Names → Glue → State → Bool
is_small_box names g s = is_small_glue g && has_text names g && keeps_list g s && keeps_text names g s

-- a box whose lists have at most 1,024 atoms, all of the table
unfoldable pub is_small : Names → Kind → State → Bool
is_small names (kind.Glue g) s = is_small_box names g s
is_small names k s = true

-- a `vline~` that has run no block beyond now
abbrev pub is_open : ℕ → State → Bool
is_open now (state.Vline r) = nat_le r.end now
is_open now s = true

-- a notice whose names the table has
abbrev pub is_known : Names → Notice → Bool
is_known names (notice.NoMethod row selector) = is_name names selector
is_known names (notice.NoReceiver a) = is_atom names a
is_known names n = true
