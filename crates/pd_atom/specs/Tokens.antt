-- What a token without its escapes reads as.
use Rattle.std.specs.Prelude.{◌≡◌, ℕ, Bool, false, ◌==◌, ◌&&◌, ◌||◌, List, [], ◌∷◌, length, Option, Some, None, option_map, Result, Ok, Err, if◌then◌else◌, nat_lt, nat_le}
use Rattle.std.specs.Char.{is_ascii_digit}
use Rattle.std.specs.List.{list_all}
use Rattle.std.specs.Str.Parse.{digits_value}
use Rattle.pd_num.specs.Reading.{number_at}
use Rattle.pd_atom.specs.Names.{Names, Outcome, given, outcome_map, interned}
use Rattle.pd_atom.specs.Atoms.{spelled}
use Rattle.pd_atom.specs.declared.SymbolRefusal.{SymbolRefusal}
use Rattle.pd_atom.specs.declared.Atom.{Atom}
use Rattle.pd_atom.specs.declared.Atom.TheVariants.{Number, Symbol, Dollar, DollarSymbol, Comma, Semi}

-- the bytes are one mark
abbrev pub is_mark : ℕ → List ℕ → Bool
is_mark m [] = false
is_mark m (b ∷ bs) = b == m && length bs == 0

-- from one to four digits
abbrev pub are_few_digits : List ℕ → Bool
are_few_digits ds = list_all is_ascii_digit ds && nat_lt 0 (length ds) && nat_le (length ds) 4

-- the number of a dollar with one to four digits and nothing else
abbrev pub dollar_at : List ℕ → Option ℕ
dollar_at [] = None
dollar_at (b ∷ ds) = if b == 36 && are_few_digits ds then Some (digits_value 10 ds) else None

-- a digit comes first
abbrev pub starts_with_digit : List ℕ → Bool
starts_with_digit [] = false
starts_with_digit (b ∷ bs) = is_ascii_digit b

-- a dollar stands directly before a digit
abbrev pub has_argument : List ℕ → Bool
has_argument [] = false
has_argument (b ∷ bs) = b == 36 && starts_with_digit bs || has_argument bs

-- the first of two that is there
abbrev pub or_else : {A : Type 0} → Option A → Option A → Option A
or_else None y = y
or_else (Some x) y = Some x

-- the atom of a token that needs no name, first match first
unfoldable pub nameless : List ℕ → Option Atom
nameless token =
    if is_mark 44 token then Some Comma else
    if is_mark 59 token then Some Semi else
    or_else (option_map (λ z. Number z) (number_at token)) (option_map (λ n. Dollar n) (dollar_at token))

-- the atom of any other token, whose name has this number
abbrev pub named : List ℕ → ℕ → Atom
named token s = if has_argument token then DollarSymbol s else Symbol s

abbrev pub read_with : Names → List ℕ → Option Atom → Outcome Atom
read_with names token (Some a) = given a names
read_with names token None = outcome_map (named token) (interned names token)

-- the atom that a token reads as, or the refusal of its name
unfoldable pub atom_read : Names → List ℕ → Outcome Atom
atom_read names token = read_with names token (nameless token)

abbrev pub answer_or : Atom → Result Atom SymbolRefusal → Atom
answer_or a (Ok b) = b
answer_or a (Err e) = a

-- what reading the spelling of an atom gives
unfoldable pub settled : Names → Atom → Atom
settled names a = answer_or a (atom_read names (spelled names a)).answer

-- reading the spelling of an atom gives the atom, and leaves the names
abbrev pub IsSettled : Names → Atom → Type 0
IsSettled names a = atom_read names (spelled names a) ≡ given a names
