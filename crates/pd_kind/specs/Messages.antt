-- Messages, and what they are.
use Rattle.std.specs.Prelude.{ℕ, zero, suc, List, [], ◌∷◌, length, ◌≤◌, ◌<◌}
use Rattle.std.specs.List.{AllByRecursion}
use Rattle.pd_atom.specs.declared.Atom.{Atom}
use Rattle.pd_atom.specs.declared.Atom.TheVariants.{Number, Symbol}
use Rattle.pd_atom.specs.Names.{Names}
use Rattle.pd_kind.specs.declared.messages.Sort.{Sort}
use Rattle.pd_kind.specs.declared.messages.Sort.TheVariants as sort

-- What a message of a selector and atoms is. The selectors `bang`, `float`, `symbol` and `list` are the first names of every table.
abbrev pub float_sort : List Atom → Sort
float_sort (Number z ∷ atoms) = sort.Float z
float_sort _ = sort.Other

abbrev pub symbol_sort : List Atom → Sort
symbol_sort (Symbol s ∷ atoms) = sort.Symbol s
symbol_sort _ = sort.Other

abbrev pub sort_of : ℕ → List Atom → Sort
sort_of zero atoms = sort.Bang
sort_of (suc zero) atoms = float_sort atoms
sort_of (suc (suc zero)) atoms = symbol_sort atoms
sort_of (suc (suc (suc zero))) atoms = sort.List
sort_of (suc (suc (suc (suc n)))) atoms = sort.Other

-- a number or a symbol of the table
abbrev pub IsPlain : Names → Atom → Type 0
IsPlain names (Number z) = Unit {0}
IsPlain names (Symbol s) = s < length names
IsPlain names _ = ⊥

-- the normal form: `bang` without atoms, `float` with a number, `symbol` with a symbol, `list` with two atoms or more
abbrev pub IsNormal : ℕ → List Atom → Type 0
IsNormal zero [] = Unit {0}
IsNormal zero (a ∷ atoms) = ⊥
IsNormal (suc zero) (Number z ∷ []) = Unit {0}
IsNormal (suc zero) _ = ⊥
IsNormal (suc (suc zero)) (Symbol s ∷ []) = Unit {0}
IsNormal (suc (suc zero)) _ = ⊥
IsNormal (suc (suc (suc zero))) (a ∷ b ∷ atoms) = Unit {0}
IsNormal (suc (suc (suc zero))) _ = ⊥
IsNormal (suc (suc (suc (suc n)))) atoms = Unit {0}

-- a message of at most 1,024 atoms in its normal form
pub record IsMessage (names : Names) (selector : ℕ) (atoms : List Atom) : Type 0 where
  pub known : selector < length names
  pub plain : AllByRecursion (IsPlain names) atoms
  pub short : length atoms ≤ 1024
  pub normal : IsNormal selector atoms
