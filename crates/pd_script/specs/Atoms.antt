-- Names and atoms, with the table after them.
use Rattle.std.specs.Prelude.{ℕ, Bool, true, false, List, [], ◌∷◌, Option, Some, None, Result, Ok, Err, if◌then◌else◌, bytes_eq}
use Rattle.pd_atom.specs.Names.{Names}
use Rattle.pd_atom.specs.Tokens.{atom_read}
use Rattle.pd_atom.specs.declared.SymbolRefusal.{SymbolRefusal}
use Rattle.pd_atom.specs.declared.Atom.{Atom}
use Rattle.pd_atom.specs.declared.Atom.TheVariants.{Number, Symbol, Dollar, DollarSymbol, Comma, Semi}
use Rattle.pd_script.specs.Options.{◌>>=◌}

abbrev pub answered : Names → Result Atom SymbolRefusal → Option (Atom × Names)
answered names (Ok a) = Some (a, names)
answered names (Err e) = None

-- the atom of a token, where the table can take its name
unfoldable pub atom_of : Names → List ℕ → Option (Atom × Names)
atom_of names token = answered (atom_read names token).names (atom_read names token).answer

unfoldable pub atoms_of : Names → List (List ℕ) → Option (List Atom × Names)
atoms_of names [] = Some ([], names)
atoms_of names (t ∷ ts) = atom_of names t >>= (λ a. atoms_of a.1 ts >>= (λ rest. Some (a.0 ∷ rest.0, rest.1)))

-- the atoms that a message has
abbrev pub is_plain : Atom → Bool
is_plain (Number z) = true
is_plain (Symbol s) = true
is_plain (Dollar n) = false
is_plain (DollarSymbol s) = false
is_plain Comma = false
is_plain Semi = false

abbrev pub symbol_in : Atom → Option ℕ
symbol_in (Number z) = None
symbol_in (Symbol s) = Some s
symbol_in (Dollar n) = None
symbol_in (DollarSymbol s) = None
symbol_in Comma = None
symbol_in Semi = None

abbrev pub symbol_of : Names → List ℕ → Option (ℕ × Names)
symbol_of names token = atom_of names token >>= (λ a. symbol_in a.0 >>= (λ s. Some (s, a.1)))

-- a document: a dot is the root, any other symbol its name
abbrev pub document_of : Names → List ℕ → Option (Option ℕ × Names)
document_of names token =
    if bytes_eq token (46 ∷ []) then Some (None, names) else symbol_of names token >>= (λ s. Some (Some s.0, s.1))
