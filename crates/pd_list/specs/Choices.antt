-- `route` and `select`.
use Rattle.std.specs.Prelude.{ℕ, suc, ◌==◌, Bool, true, false, List, [], ◌∷◌, length, Option, Some, None, if◌then◌else◌}
use Rattle.std.specs.Ordering.{int_eq}
use Rattle.pd_atom.specs.declared.Atom.{Atom}
use Rattle.pd_atom.specs.declared.Atom.TheVariants as atom
use Rattle.pd_kind.specs.declared.messages.Sort.{Sort}
use Rattle.pd_kind.specs.declared.messages.Sort.TheVariants as sort
use Rattle.pd_kind.specs.declared.messages.Target.TheVariants.{Outlet}
use Rattle.pd_object.specs.declared.row_names.Row.{Row}
use Rattle.pd_object.specs.declared.row_names.Row.TheVariants as row
use Rattle.pd_kind.specs.Forming.{message_send}
use Rattle.pd_kind.specs.Messages.{sort_of}
use Rattle.pd_kind.specs.Said.{Said, silent, sends_only, bang_to, deaf}
use Rattle.pd_list.specs.Outlets.{is_plain, passed}

-- arguments and what is said
pub record Chosen : Type 0 where
  pub arguments : List Atom
  pub said : Said

-- of the same sort and value
abbrev pub same_atom : Atom → Atom → Bool
same_atom (atom.Number a) (atom.Number b) = int_eq a b
same_atom (atom.Symbol a) (atom.Symbol b) = a == b
same_atom _ _ = false

-- the place of the first of the arguments that is the atom, where the first is the i-th
abbrev pub place_from : ℕ → Atom → List Atom → Option ℕ
place_from i a [] = None
place_from i a (b ∷ args) = if same_atom a b then Some i else place_from (suc i) a args

abbrev pub place_of : Atom → List Atom → Option ℕ
place_of a args = place_from 0 a args

-- Inlet 1: a number takes the place of a first argument that is a number, and a symbol that of a symbol.
abbrev pub choice_cold : Row → List Atom → ℕ → Sort → Chosen
choice_cold r (atom.Number y ∷ args) selector (sort.Float z) = record { arguments = atom.Number z ∷ args; said = silent }
choice_cold r (atom.Symbol t ∷ args) selector (sort.Symbol s) = record { arguments = atom.Symbol s ∷ args; said = silent }
choice_cold r args selector s = record { arguments = args; said = deaf r selector }

-- a message that no argument chooses goes to the last outlet, as it is
abbrev pub unchosen : List Atom → ℕ → List Atom → Said
unchosen args selector atoms = passed (length args) selector atoms

abbrev pub selected : Option ℕ → List Atom → ℕ → List Atom → Said
selected (Some i) args selector atoms = sends_only (bang_to i ∷ [])
selected None args selector atoms = unchosen args selector atoms

-- `select`, inlet 0: a bang to the outlet of the argument that the number or the symbol is.
abbrev pub select_hot : List Atom → ℕ → List Atom → Sort → Said
select_hot args selector atoms (sort.Float z) = selected (place_of (atom.Number z) args) args selector atoms
select_hot args selector atoms (sort.Symbol s) = selected (place_of (atom.Symbol s) args) args selector atoms
select_hot args selector atoms s = unchosen args selector atoms

-- a message whose first atom chooses an outlet: the message that the other atoms make goes there
abbrev pub routed_rest : Option ℕ → List Atom → ℕ → List Atom → List Atom → Said
routed_rest (Some i) args selector atoms rest = sends_only (message_send (Outlet i) rest ∷ [])
routed_rest None args selector atoms rest = unchosen args selector atoms

-- the numbers choose among messages that begin with a number: floats and lists
abbrev pub route_by_number : List Atom → ℕ → List Atom → Said
route_by_number args selector (atom.Number z ∷ rest) = routed_rest (place_of (atom.Number z) args) args selector (atom.Number z ∷ rest) rest
route_by_number args selector atoms = unchosen args selector atoms

abbrev pub route_numbers : List Atom → ℕ → List Atom → Sort → Said
route_numbers args selector atoms (sort.Float z) = route_by_number args selector atoms
route_numbers args selector atoms sort.List = route_by_number args selector atoms
route_numbers args selector atoms s = unchosen args selector atoms

-- a message whose selector chooses an outlet goes there as it is where the selector is plain; else the message that its atoms make
abbrev pub routed_message : Option ℕ → List Atom → ℕ → List Atom → Said
routed_message (Some i) args selector atoms = if is_plain selector then passed i selector atoms else sends_only (message_send (Outlet i) atoms ∷ [])
routed_message None args selector atoms = unchosen args selector atoms

-- `route`, inlet 0: where the first argument is a number, numbers choose; else selectors.
abbrev pub route_hot : List Atom → ℕ → List Atom → Said
route_hot (atom.Number z ∷ args) selector atoms = route_numbers (atom.Number z ∷ args) selector atoms (sort_of selector atoms)
route_hot args selector atoms = routed_message (place_of (atom.Symbol selector) args) args selector atoms

abbrev pub chosen : List Atom → Said → Chosen
chosen args said = record { arguments = args; said = said }

abbrev pub route_row : List Atom → ℕ → ℕ → List Atom → Chosen
route_row args inlet selector atoms = if inlet == 0 then chosen args (route_hot args selector atoms) else choice_cold row.Route args selector (sort_of selector atoms)

abbrev pub select_row : List Atom → ℕ → ℕ → List Atom → Chosen
select_row args inlet selector atoms =
    if inlet == 0 then chosen args (select_hot args selector atoms (sort_of selector atoms)) else choice_cold row.Select args selector (sort_of selector atoms)
