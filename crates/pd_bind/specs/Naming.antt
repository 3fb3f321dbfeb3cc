-- Which names a box owns.
use Rattle.std.specs.Prelude.{ℕ, Bool, ◌&&◌, List, ◌∷◌, ◌++◌, length, Option, Some, None, option_map, option_and_then, if◌then◌else◌, nat_lt, position, bytes_eq, codes}
use Rattle.pd_atom.specs.declared.Atom.{Atom}
use Rattle.pd_atom.specs.declared.Atom.TheVariants as atom
use Rattle.pd_atom.specs.Names.{Names, name_of, longest}
use Rattle.pd_name.specs.declared.Class.{Class}
use Rattle.pd_name.specs.declared.Class.TheVariants.{Receiver, Table, Catch, Bus, Delay}
use Rattle.pd_object.specs.declared.kinds.Kind.{Kind}
use Rattle.pd_object.specs.declared.kinds.Kind.TheVariants as kind
use Rattle.pd_object.specs.declared.kinds.Glue.{Glue}
use Rattle.pd_object.specs.declared.kinds.Glue.TheVariants as glue
use Rattle.pd_object.specs.declared.kinds.Signal.{Signal}
use Rattle.pd_object.specs.declared.kinds.Signal.TheVariants as signal
use Rattle.pd_object.specs.declared.kinds.Panel.{Panel}
use Rattle.pd_object.specs.declared.kinds.Panel.TheVariants as panel
use Rattle.pd_naming.specs.Naming.{name_at, arguments_of}
use Rattle.pd_tree.specs.Trees.{Cell}
use Rattle.pd_grove.specs.TextOrder.{is_sub}

-- a name that is owned, and what it is looked up for
abbrev pub Owned : Type 0
Owned = Class × ℕ

abbrev pub owned : Class → Option ℕ → Option Owned
owned class name = option_map (λ s. (class, s)) name

-- the symbol of a name, where the table has it: a name above 255 bytes has none
abbrev pub symbol_named : Names → List ℕ → Option ℕ
symbol_named names name = if nat_lt longest (length name) then None else position (bytes_eq name) names

-- `-` is no name
abbrev pub unless_dash : Names → Option ℕ → Option ℕ
unless_dash names (Some s) = if bytes_eq (name_of names s) (codes "-") then None else Some s
unless_dash names None = None

-- the receive name of a number or symbol box: its sixth argument
abbrev pub receive_name : Names → List Atom → Option ℕ
receive_name names text = unless_dash names (name_at (arguments_of text) 5)

abbrev pub glue_owned : Names → Glue → Option Owned
glue_owned names (glue.Receive spelling name) = owned Receiver name
glue_owned names (glue.FloatBox text) = owned Receiver (receive_name names text)
glue_owned names (glue.SymbolBox text) = owned Receiver (receive_name names text)
glue_owned names (glue.Table name size) = owned Table name
glue_owned names (glue.Array text values) = owned Table (name_at text 0)
glue_owned names _ = None

abbrev pub signal_owned : Signal → Option Owned
signal_owned (signal.Catch name) = owned Catch name
signal_owned (signal.Send spelling name) = owned Bus name
signal_owned (signal.Delwrite name time) = owned Delay name
signal_owned _ = None

abbrev pub panel_owned : Panel → Option Owned
panel_owned (panel.Bng b) = owned Receiver b.receive
panel_owned (panel.Tgl t) = owned Receiver t.receive

-- where a canvas of this name hears
abbrev pub receiver_bytes : List ℕ → List ℕ
receiver_bytes name = codes "pd-" ++ name

abbrev pub canvas_symbol : Names → List ℕ → Option ℕ
canvas_symbol names name = symbol_named names (receiver_bytes name)

-- the name of a subpatch: the second atom of its text where the first is `pd` and the second a symbol
abbrev pub first_symbol : List Atom → Option ℕ
first_symbol (atom.Symbol s ∷ atoms) = Some s
first_symbol _ = None

abbrev pub symbol_after_pd : Names → List Atom → Option ℕ
symbol_after_pd names (atom.Symbol s ∷ atoms) = if bytes_eq (name_of names s) (codes "pd") then first_symbol atoms else None
symbol_after_pd names _ = None

-- the symbol at which a subpatch hears
abbrev pub subpatch_symbol : Names → List Atom → Option ℕ
subpatch_symbol names text = option_and_then (λ s. canvas_symbol names (name_of names s)) (symbol_after_pd names text)

-- a canvas hears where it is a subpatch of the patch's own document
abbrev pub canvas_owned : Names → Bool → Cell → Option Owned
canvas_owned names top c = if top && is_sub c.head.form then owned Receiver (subpatch_symbol names c.text) else None

abbrev pub owned_by_kind : Names → Bool → Cell → Kind → Option Owned
owned_by_kind names top c (kind.Glue g) = glue_owned names g
owned_by_kind names top c (kind.Signal s) = signal_owned s
owned_by_kind names top c (kind.Panel p) = panel_owned p
owned_by_kind names top c kind.Canvas = canvas_owned names top c
owned_by_kind names top c _ = None

-- the name that a box owns, in the patch's own document or not
abbrev pub owned_by : Names → Bool → Cell → Option Owned
owned_by names top c = owned_by_kind names top c c.kind
