-- Atoms: which are of a table, and how they are spelled.
use Rattle.std.specs.Prelude.{ℕ, ◌<◌, ◌≤◌, List, [], ◌∷◌, length, decimal}
use Rattle.pd_num.specs.Printing.{printed}
use Rattle.pd_num.specs.Scale.{millionths, IsInRange}
use Rattle.pd_atom.specs.Names.{Names, name_of}
use Rattle.pd_atom.specs.declared.Atom.{Atom}
use Rattle.pd_atom.specs.declared.Atom.TheVariants.{Number, Symbol, Dollar, DollarSymbol, Comma, Semi}

-- the atom's symbol is of the table, and a dollar's number is at most 9,999
abbrev pub IsOf : Names → Atom → Type 0
IsOf names (Number z) = Unit {0}
IsOf names (Symbol s) = s < length names
IsOf names (Dollar n) = n ≤ 9999
IsOf names (DollarSymbol s) = s < length names
IsOf names Comma = Unit {0}
IsOf names Semi = Unit {0}

-- a number of the atom is in the range of numbers, which each number of the code is
abbrev pub HoldsNumber : Atom → Type 0
HoldsNumber (Number z) = IsInRange millionths z
HoldsNumber (Symbol s) = Unit {0}
HoldsNumber (Dollar n) = Unit {0}
HoldsNumber (DollarSymbol s) = Unit {0}
HoldsNumber Comma = Unit {0}
HoldsNumber Semi = Unit {0}

-- the bytes of an atom, without escapes
abbrev pub spelled : Names → Atom → List ℕ
spelled names (Number z) = printed z
spelled names (Symbol s) = name_of names s
spelled names (Dollar n) = 36 ∷ decimal n
spelled names (DollarSymbol s) = name_of names s
spelled names Comma = 44 ∷ []
spelled names Semi = 59 ∷ []
