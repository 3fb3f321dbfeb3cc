-- The text of an array: its name, its size, what its values are, its flags, and further atoms.
use Rattle.std.specs.Prelude.{◌≡◌, ℕ, ◌/◌, ◌%◌, ◌≤◌, ℤ, pos, negsuc, max, unsigned_abs, Bool, true, false, ◌==◌, List, [], ◌∷◌, length, replicate}
use Rattle.pd_atom.specs.declared.Atom.{Atom}
use Rattle.pd_atom.specs.declared.Atom.TheVariants.{Number, Symbol, Dollar, DollarSymbol, Comma, Semi}

-- how many whole units a number has, and 0 where it is below zero
abbrev pub units_of : ℤ → ℕ
units_of (pos m) = m / 1000000
units_of (negsuc m) = 0

abbrev pub is_name : Atom → Bool
is_name (Number z) = false
is_name (Symbol s) = true
is_name (Dollar n) = true
is_name (DollarSymbol s) = true
is_name Comma = false
is_name Semi = false

abbrev pub is_number : Atom → Bool
is_number (Number z) = true
is_number (Symbol s) = false
is_number (Dollar n) = false
is_number (DollarSymbol s) = false
is_number Comma = false
is_number Semi = false

-- an array has at least one value
abbrev pub size_of : Atom → ℕ
size_of (Number z) = max 1 (units_of z)
size_of _ = 1

-- bit 0 of flags, which count as 0 where they are no number
abbrev pub is_odd : Atom → Bool
is_odd (Number z) = unsigned_abs z / 1000000 % 2 == 1
is_odd _ = false

-- the array's values are saved
abbrev pub is_saved : List Atom → Bool
is_saved [] = false
is_saved (a ∷ []) = false
is_saved (a ∷ b ∷ []) = false
is_saved (a ∷ b ∷ c ∷ []) = false
is_saved (a ∷ b ∷ c ∷ d ∷ text) = is_odd d

-- the greatest size of an array
abbrev pub largest : ℕ
largest = 16777216

-- The text names an array and gives its size, of which there are as many values. Values that are not saved are 0.
abbrev pub IsArray : List Atom → List ℤ → Type 0
IsArray [] vs = ⊥
IsArray (a ∷ []) vs = ⊥
IsArray (a ∷ b ∷ text) vs =
    (is_name a ≡ true) × (is_number b ≡ true) × (size_of b ≤ largest) × (length vs ≡ size_of b)
    × (is_saved (a ∷ b ∷ text) ≡ false → vs ≡ replicate (length vs) (pos 0))
