-- Messages in their normal form, as they are sent.
use Rattle.std.specs.Prelude.{ℕ, ℤ, zero, suc, pos, List, [], ◌∷◌, take, length, nat_lt, if◌then◌else◌}
use Rattle.pd_atom.specs.declared.Atom.{Atom}
use Rattle.pd_atom.specs.declared.Atom.TheVariants as atom
use Rattle.pd_kind.specs.declared.messages.Target.{Target}
use Rattle.pd_kind.specs.declared.messages.Notice.{Notice}
use Rattle.pd_kind.specs.declared.messages.Notice.TheVariants.{MessageCut}
use Rattle.pd_kind.specs.Rows.{Send}

-- the number that a `float` has: its first atom where that is a number, else 0
abbrev pub float_in : List Atom → ℤ
float_in (atom.Number z ∷ atoms) = z
float_in _ = pos 0

-- the symbol that a `symbol` has: its first atom where that is one, else `symbol`
abbrev pub symbol_of : List Atom → ℕ
symbol_of (atom.Symbol s ∷ atoms) = s
symbol_of _ = 2

abbrev pub send_of_message : Target → ℕ → List Atom → Send
send_of_message target selector atoms = record { target = target; selector = selector; atoms = atoms }

-- a `list`: without atoms it is `bang`, with one number `float`, with one symbol `symbol`
abbrev pub list_selector : List Atom → ℕ
list_selector [] = 0
list_selector (atom.Number z ∷ []) = 1
list_selector (atom.Symbol s ∷ []) = 2
list_selector atoms = 3

abbrev pub list_send : Target → List Atom → Send
list_send target atoms = send_of_message target (list_selector atoms) atoms

-- a selector and atoms in the normal form
abbrev pub normal_send : Target → ℕ → List Atom → Send
normal_send target zero atoms = send_of_message target 0 []
normal_send target (suc zero) atoms = send_of_message target 1 (atom.Number (float_in atoms) ∷ [])
normal_send target (suc (suc zero)) atoms = send_of_message target 2 (atom.Symbol (symbol_of atoms) ∷ [])
normal_send target (suc (suc (suc zero))) atoms = list_send target atoms
normal_send target (suc (suc (suc (suc n)))) atoms = send_of_message target (suc (suc (suc (suc n)))) atoms

-- The message that atoms make: none make a `bang`, those that begin with a symbol have it as their selector, all others are a `list`.
abbrev pub message_send : Target → List Atom → Send
message_send target [] = send_of_message target 0 []
message_send target (atom.Symbol s ∷ atoms) = normal_send target s atoms
message_send target (a ∷ atoms) = list_send target (a ∷ atoms)

-- a message has at most 1,024 atoms; a longer one is cut, with a line
abbrev pub most_atoms : ℕ
most_atoms = 1024

abbrev pub cut_atoms : List Atom → List Atom
cut_atoms atoms = take 1024 atoms

abbrev pub cut_notices : List Atom → List Notice
cut_notices atoms = if nat_lt 1024 (length atoms) then MessageCut ∷ [] else []

-- The atoms of a message of any selector, for the objects that take it as a list: a selector other than `bang`, `float`, `symbol`
-- and `list` comes before its atoms.
abbrev pub atoms_with_selector : ℕ → List Atom → List Atom
atoms_with_selector (suc (suc (suc (suc n)))) atoms = atom.Symbol (suc (suc (suc (suc n)))) ∷ atoms
atoms_with_selector _ atoms = atoms
