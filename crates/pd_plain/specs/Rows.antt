-- What the plain control objects do with a message, when their clock fires, and when they are resumed.
use Rattle.std.specs.Prelude.{ℕ, ℤ, List, [], ◌∷◌, Option}
use Rattle.pd_atom.specs.declared.Atom.{Atom}
use Rattle.std.specs.List.{All}
use Rattle.pd_atom.specs.Names.{Names}
use Rattle.pd_atom.specs.Atoms.{IsOf}
use Rattle.pd_object.specs.declared.kinds.Glue.{Glue}
use Rattle.pd_object.specs.declared.kinds.Glue.TheVariants as glue
use Rattle.pd_kind.specs.declared.messages.Deed.TheVariants as deed
use Rattle.pd_kind.specs.declared.states.State.{State}
use Rattle.pd_kind.specs.declared.states.State.TheVariants as state
use Rattle.pd_kind.specs.Said.{Said, silent, sends_only, bang_to}
use Rattle.pd_kind.specs.Hearing.{Heard}
use Rattle.pd_plain.specs.Values.{leaves, passed, float_row, int_row, symbol_row, moses_row, spigot_row, swap_row, change_row, float_box_row, symbol_box_row, box_send_name, send_row}
use Rattle.pd_plain.specs.Timed.{says_with, until_row, until_resumed, metro_row, delay_row, timer_row, random_row, tabread_row, tabwrite_row, metro_period}

-- the text of a number or symbol box is of the table
abbrev pub HasText : Names → Glue → Type 0
HasText names (glue.FloatBox text) = All (IsOf names) text
HasText names (glue.SymbolBox text) = All (IsOf names) text
HasText names g = Unit {0}

-- What a box that keeps this does with a message at an inlet. A state of another kind hears nothing.
unfoldable pub value_row : Glue → State → ℕ → ℕ → List Atom → Heard
value_row (glue.Float w z) (state.Float v) inlet selector atoms = float_row v inlet selector atoms
value_row (glue.Int w z) (state.Int v) inlet selector atoms = int_row v inlet selector atoms
value_row (glue.Symbol n) (state.Symbol v) inlet selector atoms = symbol_row v inlet selector atoms
value_row (glue.Moses z) (state.Moses bound) inlet selector atoms = moses_row bound inlet selector atoms
value_row (glue.Swap z) (state.Swap left right) inlet selector atoms = swap_row left right inlet selector atoms
value_row g s inlet selector atoms = leaves s silent

unfoldable pub gate_row : Names → Glue → State → ℕ → ℕ → List Atom → Heard
gate_row names (glue.Spigot z) (state.Spigot gate) inlet selector atoms = spigot_row gate inlet selector atoms
gate_row names (glue.Change z) (state.Change v) inlet selector atoms = change_row names v selector atoms
gate_row names (glue.Send w n) (state.Send name) inlet selector atoms = send_row name inlet selector atoms
gate_row names (glue.FloatBox text) (state.FloatBox v) inlet selector atoms = float_box_row names (box_send_name names text) v selector atoms
gate_row names (glue.SymbolBox text) (state.SymbolBox v) inlet selector atoms = symbol_box_row names (box_send_name names text) v selector atoms
gate_row names g s inlet selector atoms = leaves s silent

unfoldable pub timed_row : Names → Glue → State → ℕ → ℕ → List Atom → ℕ → Heard
timed_row names glue.Until (state.Until running count) inlet selector atoms now = until_row running count inlet selector atoms
timed_row names (glue.Metro z) (state.Metro period) inlet selector atoms now = metro_row names period inlet selector atoms
timed_row names (glue.Delay w z) (state.Delay time) inlet selector atoms now = delay_row names time inlet selector atoms
timed_row names glue.Timer (state.Timer reset rate) inlet selector atoms now = timer_row reset rate now inlet selector atoms
timed_row names (glue.Random z) (state.Random seed range) inlet selector atoms now = random_row seed range inlet selector atoms
timed_row names g s inlet selector atoms now = leaves s silent

unfoldable pub table_row : Option (List ℤ) → State → ℕ → ℕ → List Atom → Heard
table_row table (state.Tabwrite index) inlet selector atoms = tabwrite_row table index inlet selector atoms
table_row table s inlet selector atoms = leaves s silent

-- the same for each object, at a time and beside a table; objects of other families hear nothing
unfoldable pub plain_row : Names → Glue → State → ℕ → ℕ → List Atom → ℕ → Option (List ℤ) → Heard
plain_row names (glue.Bang w) s inlet selector atoms now table = leaves s (sends_only (bang_to 0 ∷ []))
plain_row names (glue.Print words) s inlet selector atoms now table = leaves s (says_with deed.Print [])
plain_row names (glue.Receive w n) s inlet selector atoms now table = leaves s (passed 0 selector atoms)
plain_row names (glue.Port side) s inlet selector atoms now table = leaves s (passed 0 selector atoms)
plain_row names (glue.Float w z) s inlet selector atoms now table = value_row (glue.Float w z) s inlet selector atoms
plain_row names (glue.Int w z) s inlet selector atoms now table = value_row (glue.Int w z) s inlet selector atoms
plain_row names (glue.Symbol n) s inlet selector atoms now table = value_row (glue.Symbol n) s inlet selector atoms
plain_row names (glue.Moses z) s inlet selector atoms now table = value_row (glue.Moses z) s inlet selector atoms
plain_row names (glue.Swap z) s inlet selector atoms now table = value_row (glue.Swap z) s inlet selector atoms
plain_row names (glue.Spigot z) s inlet selector atoms now table = gate_row names (glue.Spigot z) s inlet selector atoms
plain_row names (glue.Change z) s inlet selector atoms now table = gate_row names (glue.Change z) s inlet selector atoms
plain_row names (glue.Send w n) s inlet selector atoms now table = gate_row names (glue.Send w n) s inlet selector atoms
plain_row names (glue.FloatBox text) s inlet selector atoms now table = gate_row names (glue.FloatBox text) s inlet selector atoms
plain_row names (glue.SymbolBox text) s inlet selector atoms now table = gate_row names (glue.SymbolBox text) s inlet selector atoms
plain_row names glue.Until s inlet selector atoms now table = timed_row names glue.Until s inlet selector atoms now
plain_row names (glue.Metro z) s inlet selector atoms now table = timed_row names (glue.Metro z) s inlet selector atoms now
plain_row names (glue.Delay w z) s inlet selector atoms now table = timed_row names (glue.Delay w z) s inlet selector atoms now
plain_row names glue.Timer s inlet selector atoms now table = timed_row names glue.Timer s inlet selector atoms now
plain_row names (glue.Random z) s inlet selector atoms now table = timed_row names (glue.Random z) s inlet selector atoms now
plain_row names (glue.Tabread name) s inlet selector atoms now table = leaves s (tabread_row table selector atoms)
plain_row names (glue.Tabwrite name) s inlet selector atoms now table = table_row table s inlet selector atoms
plain_row names g s inlet selector atoms now table = leaves s silent

-- A clock fires: a `metro` sets it again, and both send a bang.
unfoldable pub fired : Glue → State → Said
fired (glue.Metro z) (state.Metro period) = says_with (deed.SetClock (metro_period period)) (bang_to 0 ∷ [])
fired (glue.Delay w z) s = sends_only (bang_to 0 ∷ [])
fired g s = silent

-- `until` is resumed.
unfoldable pub resumed : Glue → State → Heard
resumed glue.Until (state.Until running count) = until_resumed running count
resumed g s = leaves s silent
