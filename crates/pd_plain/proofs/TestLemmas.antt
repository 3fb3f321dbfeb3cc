-- The text of a number or symbol box in a test is of the table.
use Rattle.std.proofs.Common.{ℕ, ℤ, ◌<◌, List, [], ◌∷◌, length}
use Rattle.std.specs.List.{All}
use Rattle.std.proofs.lemmas.List.Elements.{All-cons, All-nil}
use Rattle.pd_atom.specs.declared.Atom.{Atom}
use Rattle.pd_atom.specs.declared.Atom.TheVariants as atom
use Rattle.pd_atom.specs.Names.{Names}
use Rattle.pd_atom.specs.Atoms.{IsOf}

number_first : (names : Names) (z : ℤ) (atoms : List Atom) → All (IsOf names) atoms → All (IsOf names) (atom.Number z ∷ atoms)
number_first names z atoms h = All-cons (IsOf names) (atom.Number z) atoms tt h

symbol_alone : (names : Names) (s : ℕ) → s < length names → All (IsOf names) (atom.Symbol s ∷ [])
symbol_alone names s h = All-cons (IsOf names) (atom.Symbol s) [] h (All-nil (IsOf names))

pub box_text_known : (names : Names) (z : ℤ) (s : ℕ) → s < length names → All (IsOf names) (atom.Number z ∷ atom.Number z ∷ atom.Number z ∷ atom.Number z ∷ atom.Number z ∷ atom.Number z ∷ atom.Symbol s ∷ [])
box_text_known names z s h =
    number_first names z (atom.Number z ∷ atom.Number z ∷ atom.Number z ∷ atom.Number z ∷ atom.Number z ∷ atom.Symbol s ∷ []) (number_first names z (atom.Number z ∷ atom.Number z ∷ atom.Number z ∷ atom.Number z ∷ atom.Symbol s ∷ []) (number_first names z (atom.Number z ∷ atom.Number z ∷ atom.Number z ∷ atom.Symbol s ∷ []) (number_first names z (atom.Number z ∷ atom.Number z ∷ atom.Symbol s ∷ []) (number_first names z (atom.Number z ∷ atom.Symbol s ∷ []) (number_first names z (atom.Symbol s ∷ []) (symbol_alone names s h))))))

pub ruleset test_steps = (box_text_known)
