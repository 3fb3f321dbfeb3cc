-- The objects that keep a value, and those that pass a message on.
use Rattle.std.specs.Prelude.{ℕ, ℤ, pos, ◌==◌, ◌++◌, Bool, true, false, not, unsigned_abs, int_lt, List, [], ◌∷◌, Option, Some, None, slice_get, if◌then◌else◌, codes, bytes_eq}
use Rattle.std.specs.Ordering.{int_eq}
use Rattle.pd_num.specs.Scale.{whole_of}
use Rattle.pd_atom.specs.declared.Atom.{Atom}
use Rattle.pd_atom.specs.declared.Atom.TheVariants as atom
use Rattle.pd_atom.specs.Names.{Names, name_of}
use Rattle.pd_kind.specs.declared.messages.Sort.{Sort}
use Rattle.pd_kind.specs.declared.messages.Sort.TheVariants as sort
use Rattle.pd_kind.specs.declared.messages.Target.{Target}
use Rattle.pd_kind.specs.declared.messages.Target.TheVariants as target
use Rattle.pd_object.specs.declared.row_names.Row.{Row}
use Rattle.pd_object.specs.declared.row_names.Row.TheVariants as row
use Rattle.pd_kind.specs.declared.states.State.{State}
use Rattle.pd_kind.specs.declared.states.State.TheVariants as state
use Rattle.pd_kind.specs.Messages.{sort_of}
use Rattle.pd_naming.specs.Naming.{name_at, arguments_of}
use Rattle.pd_kind.specs.Rows.{Send}
use Rattle.pd_kind.specs.Said.{Said, silent, sends_only, send_to, bang_to, number_to, symbol_to, deaf}
use Rattle.pd_kind.specs.Hearing.{Heard, first_sort, told, stored}

abbrev pub leaves : State → Said → Heard
leaves s said = record { state = s; said = said }

-- the selector's name is this word
abbrev pub is_called : Names → ℕ → List ℕ → Bool
is_called names selector word = bytes_eq (name_of names selector) word

-- the message as it is, to an outlet
abbrev pub passed : ℕ → ℕ → List Atom → Said
passed outlet selector atoms = sends_only (send_to outlet selector atoms ∷ [])

-- `float`: a float is stored and sent, a bang sends; inlet 1 stores.
abbrev pub float_hot : ℤ → ℕ → Sort → Heard
float_hot v selector (sort.Float z) = leaves (state.Float z) (sends_only (number_to 0 z ∷ []))
float_hot v selector sort.Bang = leaves (state.Float v) (sends_only (number_to 0 v ∷ []))
float_hot v selector s = leaves (state.Float v) (deaf row.Float (told s selector))

abbrev pub float_cold : ℤ → ℕ → Sort → Heard
float_cold v selector (sort.Float z) = leaves (state.Float z) silent
float_cold v selector s = leaves (state.Float v) (deaf row.Float selector)

abbrev pub float_row : ℤ → ℕ → ℕ → List Atom → Heard
float_row v inlet selector atoms =
    if inlet == 0 then float_hot (stored (sort_of selector atoms) atoms 1 v) selector (first_sort (sort_of selector atoms) atoms)
    else float_cold v selector (sort_of selector atoms)

-- `int`: the same, truncated when stored.
abbrev pub int_hot : ℤ → ℕ → Sort → Heard
int_hot v selector (sort.Float z) = leaves (state.Int (whole_of z)) (sends_only (number_to 0 (whole_of z) ∷ []))
int_hot v selector sort.Bang = leaves (state.Int v) (sends_only (number_to 0 v ∷ []))
int_hot v selector s = leaves (state.Int v) (deaf row.Int (told s selector))

abbrev pub int_cold : ℤ → ℕ → Sort → Heard
int_cold v selector (sort.Float z) = leaves (state.Int (whole_of z)) silent
int_cold v selector s = leaves (state.Int v) (deaf row.Int selector)

abbrev pub int_row : ℤ → ℕ → ℕ → List Atom → Heard
int_row v inlet selector atoms =
    if inlet == 0 then int_hot (whole_of (stored (sort_of selector atoms) atoms 1 v)) selector (first_sort (sort_of selector atoms) atoms)
    else int_cold v selector (sort_of selector atoms)

-- `symbol`: the same with symbols; inlet 1 stores no number.
abbrev pub symbol_hot : ℕ → ℕ → Sort → Heard
symbol_hot v selector (sort.Symbol s) = leaves (state.Symbol s) (sends_only (symbol_to 0 s ∷ []))
symbol_hot v selector sort.Bang = leaves (state.Symbol v) (sends_only (symbol_to 0 v ∷ []))
symbol_hot v selector s = leaves (state.Symbol v) (deaf row.Symbol (told s selector))

abbrev pub symbol_cold : ℕ → ℕ → Sort → Heard
symbol_cold v selector (sort.Symbol s) = leaves (state.Symbol s) silent
symbol_cold v selector s = leaves (state.Symbol v) (deaf row.Symbol selector)

abbrev pub symbol_row : ℕ → ℕ → ℕ → List Atom → Heard
symbol_row v inlet selector atoms =
    if inlet == 0 then symbol_hot v selector (first_sort (sort_of selector atoms) atoms) else symbol_cold v selector (sort_of selector atoms)

-- `moses`: a float goes left where it is below the bound, else right; inlet 1 stores the bound.
abbrev pub moses_outlet : ℤ → ℤ → ℕ
moses_outlet bound z = if int_lt z bound then 0 else 1

abbrev pub moses_hot : ℤ → ℕ → Sort → Heard
moses_hot bound selector (sort.Float z) = leaves (state.Moses bound) (sends_only (number_to (moses_outlet bound z) z ∷ []))
moses_hot bound selector s = leaves (state.Moses bound) (deaf row.Moses (told s selector))

abbrev pub moses_cold : ℤ → ℕ → Sort → Heard
moses_cold bound selector (sort.Float z) = leaves (state.Moses z) silent
moses_cold bound selector s = leaves (state.Moses bound) (deaf row.Moses selector)

abbrev pub moses_row : ℤ → ℕ → ℕ → List Atom → Heard
moses_row bound inlet selector atoms =
    if inlet == 0 then moses_hot (stored (sort_of selector atoms) atoms 1 bound) selector (first_sort (sort_of selector atoms) atoms)
    else moses_cold bound selector (sort_of selector atoms)

-- `spigot`: any message passes where the gate isn't 0; inlet 1 stores the gate.
abbrev pub spigot_hot : ℤ → ℕ → List Atom → Heard
spigot_hot gate selector atoms = leaves (state.Spigot gate) (if unsigned_abs gate == 0 then silent else passed 0 selector atoms)

abbrev pub spigot_cold : ℤ → ℕ → Sort → Heard
spigot_cold gate selector (sort.Float z) = leaves (state.Spigot z) silent
spigot_cold gate selector s = leaves (state.Spigot gate) (deaf row.Spigot selector)

abbrev pub spigot_row : ℤ → ℕ → ℕ → List Atom → Heard
spigot_row gate inlet selector atoms = if inlet == 0 then spigot_hot gate selector atoms else spigot_cold gate selector (sort_of selector atoms)

-- `swap`: the left value to the right outlet, then the right value to the left one; inlet 1 stores the right value.
abbrev pub swapped : ℤ → ℤ → Heard
swapped left right = leaves (state.Swap left right) (sends_only (number_to 1 left ∷ number_to 0 right ∷ []))

abbrev pub swap_hot : ℤ → ℤ → ℕ → Sort → Heard
swap_hot left right selector (sort.Float z) = swapped z right
swap_hot left right selector sort.Bang = swapped left right
swap_hot left right selector s = leaves (state.Swap left right) (deaf row.Swap (told s selector))

abbrev pub swap_cold : ℤ → ℤ → ℕ → Sort → Heard
swap_cold left right selector (sort.Float z) = leaves (state.Swap left z) silent
swap_cold left right selector s = leaves (state.Swap left right) (deaf row.Swap selector)

abbrev pub swap_row : ℤ → ℤ → ℕ → ℕ → List Atom → Heard
swap_row left right inlet selector atoms =
    if inlet == 0 then swap_hot left (stored (sort_of selector atoms) atoms 1 right) selector (first_sort (sort_of selector atoms) atoms)
    else swap_cold left right selector (sort_of selector atoms)

-- `change`: a float unlike the stored one is stored and sent; a bang sends; `set` stores.
abbrev pub changed : ℤ → ℤ → Heard
changed v z = if int_eq v z then leaves (state.Change v) silent else leaves (state.Change z) (sends_only (number_to 0 z ∷ []))

abbrev pub change_set : ℤ → ℕ → Option Atom → Heard
change_set v selector (Some (atom.Number z)) = leaves (state.Change z) silent
change_set v selector _ = leaves (state.Change v) (deaf row.Change selector)

abbrev pub change_other : Names → ℤ → ℕ → List Atom → Heard
change_other names v selector atoms =
    if is_called names selector (codes "set") then change_set v selector (slice_get atoms 0) else leaves (state.Change v) (deaf row.Change selector)

abbrev pub change_hot : Names → ℤ → ℕ → List Atom → Sort → Heard
change_hot names v selector atoms (sort.Float z) = changed v z
change_hot names v selector atoms sort.Bang = leaves (state.Change v) (sends_only (number_to 0 v ∷ []))
change_hot names v selector atoms sort.Other = change_other names v selector atoms
change_hot names v selector atoms s = leaves (state.Change v) (deaf row.Change (told s selector))

abbrev pub change_row : Names → ℤ → ℕ → List Atom → Heard
change_row names v selector atoms = change_hot names v selector atoms (first_sort (sort_of selector atoms) atoms)

-- a value to outlet 0 and then to a name, where there is one
abbrev pub to_name : Option ℕ → ℕ → List Atom → List Send
to_name (Some s) selector atoms = record { target = target.Name s false; selector = selector; atoms = atoms } ∷ []
to_name None selector atoms = []

abbrev pub shown : Option ℕ → ℕ → List Atom → Said
shown name selector atoms = sends_only (send_to 0 selector atoms ∷ to_name name selector atoms)

-- the send name of a number or symbol box is the seventh atom of its text; `-` is no name
abbrev pub unless_dash : Names → Option ℕ → Option ℕ
unless_dash names (Some s) = if bytes_eq (name_of names s) (codes "-") then None else Some s
unless_dash names None = None

abbrev pub box_send_name : Names → List Atom → Option ℕ
box_send_name names text = unless_dash names (name_at (arguments_of text) 6)

-- a number box: a float is stored, and a bang too then sends the value; `set` stores.
abbrev pub float_box_set : ℤ → ℕ → Option Atom → Heard
float_box_set v selector (Some (atom.Number z)) = leaves (state.FloatBox z) silent
float_box_set v selector _ = leaves (state.FloatBox v) (deaf row.FloatBox selector)

abbrev pub float_box_other : Names → ℤ → ℕ → List Atom → Heard
float_box_other names v selector atoms =
    if is_called names selector (codes "set") then float_box_set v selector (slice_get atoms 0) else leaves (state.FloatBox v) (deaf row.FloatBox selector)

abbrev pub float_box_hot : Names → Option ℕ → ℤ → ℕ → List Atom → Sort → Heard
float_box_hot names name v selector atoms (sort.Float z) = leaves (state.FloatBox z) (shown name 1 (atom.Number z ∷ []))
float_box_hot names name v selector atoms sort.Bang = leaves (state.FloatBox v) (shown name 1 (atom.Number v ∷ []))
float_box_hot names name v selector atoms sort.Other = float_box_other names v selector atoms
float_box_hot names name v selector atoms s = leaves (state.FloatBox v) (deaf row.FloatBox (told s selector))

abbrev pub float_box_row : Names → Option ℕ → ℤ → ℕ → List Atom → Heard
float_box_row names name v selector atoms = float_box_hot names name v selector atoms (first_sort (sort_of selector atoms) atoms)

-- a symbol box: the same with symbols.
abbrev pub symbol_box_set : ℕ → ℕ → Option Atom → Heard
symbol_box_set v selector (Some (atom.Symbol s)) = leaves (state.SymbolBox s) silent
symbol_box_set v selector _ = leaves (state.SymbolBox v) (deaf row.SymbolBox selector)

abbrev pub symbol_box_other : Names → ℕ → ℕ → List Atom → Heard
symbol_box_other names v selector atoms =
    if is_called names selector (codes "set") then symbol_box_set v selector (slice_get atoms 0) else leaves (state.SymbolBox v) (deaf row.SymbolBox selector)

abbrev pub symbol_box_hot : Names → Option ℕ → ℕ → ℕ → List Atom → Sort → Heard
symbol_box_hot names name v selector atoms (sort.Symbol s) = leaves (state.SymbolBox s) (shown name 2 (atom.Symbol s ∷ []))
symbol_box_hot names name v selector atoms sort.Bang = leaves (state.SymbolBox v) (shown name 2 (atom.Symbol v ∷ []))
symbol_box_hot names name v selector atoms sort.Other = symbol_box_other names v selector atoms
symbol_box_hot names name v selector atoms s = leaves (state.SymbolBox v) (deaf row.SymbolBox (told s selector))

abbrev pub symbol_box_row : Names → Option ℕ → ℕ → ℕ → List Atom → Heard
symbol_box_row names name v selector atoms = symbol_box_hot names name v selector atoms (first_sort (sort_of selector atoms) atoms)

-- `send`: any message goes to the name, where there is one; inlet 1 stores the name.
abbrev pub send_hot : Option ℕ → ℕ → List Atom → Heard
send_hot name selector atoms = leaves (state.Send name) (sends_only (to_name name selector atoms))

abbrev pub send_cold : Option ℕ → ℕ → Sort → Heard
send_cold name selector (sort.Symbol s) = leaves (state.Send (Some s)) silent
send_cold name selector s = leaves (state.Send name) (deaf row.Send selector)

abbrev pub send_row : Option ℕ → ℕ → ℕ → List Atom → Heard
send_row name inlet selector atoms = if inlet == 0 then send_hot name selector atoms else send_cold name selector (sort_of selector atoms)
