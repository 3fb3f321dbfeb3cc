-- What the outlets of a `trigger` send.
use Rattle.std.specs.Prelude.{ℕ, suc, Bool, nat_lt, List, [], ◌∷◌, ◌++◌, if◌then◌else◌}
use Rattle.pd_atom.specs.declared.Atom.{Atom}
use Rattle.pd_atom.specs.declared.Atom.TheVariants as atom
use Rattle.pd_object.specs.declared.kinds.Trigger.{Trigger}
use Rattle.pd_object.specs.declared.kinds.Trigger.TheVariants as trigger
use Rattle.pd_kind.specs.declared.states.State.{State}
use Rattle.pd_kind.specs.Forming.{float_in}
use Rattle.pd_kind.specs.Hearing.{Heard}
use Rattle.pd_kind.specs.Rows.{Send}
use Rattle.pd_kind.specs.Said.{Said, sends_only, send_to, bang_to, number_to, symbol_to}

abbrev pub leaves : State → Said → Heard
leaves s said = record { state = s; said = said }

-- `bang`, `float`, `symbol` and `list` are the first four names of every table
abbrev pub is_plain : ℕ → Bool
is_plain selector = nat_lt selector 4

-- a message as it is to an outlet, and nothing else
abbrev pub passed : ℕ → ℕ → List Atom → Said
passed outlet selector atoms = sends_only (send_to outlet selector atoms ∷ [])

-- the symbol of a message: its first atom where that is one, `float` for a number, `symbol` where there is no atom
abbrev pub symbol_for : List Atom → ℕ
symbol_for (atom.Symbol s ∷ atoms) = s
symbol_for (atom.Number z ∷ atoms) = 1
symbol_for _ = 2

-- What one outlet sends of a message. The outlets for numbers, symbols and lists take the four plain selectors alone.
abbrev pub outlet_sends : Trigger → ℕ → ℕ → List Atom → List Send
outlet_sends trigger.Bang i selector atoms = bang_to i ∷ []
outlet_sends trigger.Float i selector atoms = if is_plain selector then number_to i (float_in atoms) ∷ [] else []
outlet_sends trigger.Symbol i selector atoms = if is_plain selector then symbol_to i (symbol_for atoms) ∷ [] else []
outlet_sends trigger.List i selector atoms = if is_plain selector then send_to i selector atoms ∷ [] else []
outlet_sends trigger.Anything i selector atoms = send_to i selector atoms ∷ []
outlet_sends (trigger.Constant z) i selector atoms = number_to i z ∷ []

-- what the outlets from the i-th on send, the last one first
abbrev pub trigger_sends : ℕ → List Trigger → ℕ → List Atom → List Send
trigger_sends i [] selector atoms = []
trigger_sends i (t ∷ outlets) selector atoms = trigger_sends (suc i) outlets selector atoms ++ outlet_sends t i selector atoms

-- `trigger`: any message goes to its outlets, from right to left.
abbrev pub trigger_row : List Trigger → ℕ → List Atom → Said
trigger_row outlets selector atoms = sends_only (trigger_sends 0 outlets selector atoms)
