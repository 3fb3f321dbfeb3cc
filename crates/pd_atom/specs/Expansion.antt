-- Dollars and what they stand for.
use Rattle.std.specs.Prelude.{ℕ, zero, suc, ◌*◌, ℤ, pos, Bool, true, false, ◌==◌, ◌&&◌, List, [], ◌∷◌, ◌++◌, length, take, take_while, slice_get, min, Option, Some, None, if◌then◌else◌, nat_lt}
use Rattle.std.specs.Char.{is_ascii_digit}
use Rattle.std.specs.Str.Parse.{digits_value}
use Rattle.pd_atom.specs.Names.{Names, Outcome, given, outcome_map, interned, name_of, longest}
use Rattle.pd_atom.specs.Atoms.{spelled}
use Rattle.pd_atom.specs.Tokens.{starts_with_digit}
use Rattle.pd_atom.specs.declared.Atom.{Atom}
use Rattle.pd_atom.specs.declared.Atom.TheVariants.{Number, Symbol, Dollar, DollarSymbol, Comma, Semi}
use Rattle.pd_atom.specs.declared.Expanded.{Expanded}

-- the number of so many whole units, in millionths, saturated
abbrev pub units : ℕ → ℤ
units n = pos (min n 1000000000 * 1000000)

-- what a dollar with a number stands for: the number of `$0`, or an argument where it is there
abbrev pub argument : ℕ → List Atom → ℕ → Option Atom
argument own args zero = Some (Number (units own))
argument own args (suc k) = slice_get args k

-- what a dollar with a run of digits stands for: a run of more than four is missing
abbrev pub run_argument : ℕ → List Atom → List ℕ → Option Atom
run_argument own args ds = if nat_lt 4 (length ds) then None else argument own args (digits_value 10 ds)

-- the number by which a run of digits is told
abbrev pub run_number : List ℕ → ℕ
run_number ds = if nat_lt 4 (length ds) then 9999 else digits_value 10 ds

-- the spelling of an argument, and `0` for a missing one
abbrev pub argument_text : Names → Option Atom → List ℕ
argument_text names (Some a) = spelled names a
argument_text names None = 48 ∷ []

abbrev pub run_text : Names → ℕ → List Atom → List ℕ → List ℕ
run_text names own args ds = argument_text names (run_argument own args ds)

-- the digits directly behind a dollar, where one comes first
abbrev pub run_at : List ℕ → List ℕ
run_at [] = []
run_at (b ∷ bs) = if b == 36 then take_while is_ascii_digit bs else []

-- The bytes, in which each dollar and the digits directly behind it are replaced by a text.
-- Where `seen` is true, digits at the front belong to a dollar that was replaced.
abbrev pub filled : (List ℕ → List ℕ) → Bool → List ℕ → List ℕ
filled text seen [] = []
filled text seen (b ∷ bs) =
    if seen && is_ascii_digit b then filled text true bs else
    if b == 36 && starts_with_digit bs then text (take_while is_ascii_digit bs) ++ filled text true bs else
    b ∷ filled text false bs

-- the runs of digits directly behind a dollar
abbrev pub runs_of : List ℕ → List (List ℕ)
runs_of [] = []
runs_of (b ∷ bs) = if b == 36 && starts_with_digit bs then take_while is_ascii_digit bs ∷ runs_of bs else runs_of bs

abbrev pub or_missing : Option Atom → ℕ → Option ℕ → Option ℕ
or_missing (Some a) n rest = rest
or_missing None n rest = Some n

-- the number of the first run whose argument is missing
abbrev pub first_missing : ℕ → List Atom → List (List ℕ) → Option ℕ
first_missing own args [] = None
first_missing own args (ds ∷ rest) = or_missing (run_argument own args ds) (run_number ds) (first_missing own args rest)

-- a dollar by itself: its argument, or the number 0 and the number of the missing argument
abbrev pub dollar_expanded : ℕ → Option Atom → Expanded
dollar_expanded n (Some a) = record { atom = a; missing = None }
dollar_expanded n None = record { atom = Number (units 0); missing = Some n }

-- the name of an expanded dollar symbol: its first 255 bytes
abbrev pub expanded_name : Names → ℕ → ℕ → List Atom → List ℕ
expanded_name names s own args = take longest (filled (run_text names own args) false (name_of names s))

-- an atom with its dollars replaced, and the number of the first missing argument
unfoldable pub expanded : Names → Atom → ℕ → List Atom → Outcome Expanded
expanded names (Dollar n) own args = given (dollar_expanded n (argument own args n)) names
expanded names (DollarSymbol s) own args =
    outcome_map (λ t. record { atom = Symbol t; missing = first_missing own args (runs_of (name_of names s)) })
    (interned names (expanded_name names s own args))
expanded names (Number z) own args = given (record { atom = Number z; missing = None }) names
expanded names (Symbol s) own args = given (record { atom = Symbol s; missing = None }) names
expanded names Comma own args = given (record { atom = Comma; missing = None }) names
expanded names Semi own args = given (record { atom = Semi; missing = None }) names
