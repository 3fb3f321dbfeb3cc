-- Reading a numeral from the left.
use Rattle.std.specs.Prelude.{◌≡◌, ℕ, ℤ, Bool, true, false, List, [], ◌∷◌, ◌++◌, Option, Some, None, not, ◌==◌, ◌||◌, ◌&&◌, cond}
use Rattle.std.specs.Char.{is_ascii_digit}
use Rattle.std.specs.Option.{option_map}
use Rattle.pd_num.specs.Numeral.{Numeral, Exponent, IsNumeral, fraction_digits, spelling, value_of}

-- the digits at the front, and what is behind them
abbrev pub digits_at : List ℕ → List ℕ
digits_at [] = []
digits_at (b ∷ bs) = cond (is_ascii_digit b) (b ∷ digits_at bs) []

abbrev pub after_digits : List ℕ → List ℕ
after_digits [] = []
after_digits (b ∷ bs) = cond (is_ascii_digit b) (after_digits bs) (b ∷ bs)

abbrev pub is_empty : List ℕ → Bool
is_empty [] = true
is_empty (b ∷ bs) = false

abbrev pub minus_at : List ℕ → Bool
minus_at [] = false
minus_at (b ∷ bs) = b == 45

abbrev pub after_minus : List ℕ → List ℕ
after_minus [] = []
after_minus (b ∷ bs) = cond (b == 45) bs (b ∷ bs)

abbrev pub fraction_at : List ℕ → Option (List ℕ)
fraction_at [] = None
fraction_at (b ∷ bs) = cond (b == 46) (Some (digits_at bs)) None

abbrev pub after_fraction : List ℕ → List ℕ
after_fraction [] = []
after_fraction (b ∷ bs) = cond (b == 46) (after_digits bs) (b ∷ bs)

abbrev pub sign_at : List ℕ → Option Bool
sign_at [] = None
sign_at (b ∷ bs) = cond (b == 45) (Some true) (cond (b == 43) (Some false) None)

abbrev pub after_sign : List ℕ → List ℕ
after_sign [] = []
after_sign (b ∷ bs) = cond (b == 45) bs (cond (b == 43) bs (b ∷ bs))

-- one digit or more, and nothing else
abbrev pub all_digits : List ℕ → Bool
all_digits bs = not (is_empty (digits_at bs)) && is_empty (after_digits bs)

-- the exponent that the bytes are, or its absence where there are none
unfoldable pub exponent_at : List ℕ → Option (Option Exponent)
exponent_at [] = Some None
exponent_at (b ∷ bs) =
    cond ((b == 101 || b == 69) && all_digits (after_sign bs))
    (Some (Some (record { letter = b; sign = sign_at bs; digits = after_sign bs }))) None

-- the numeral of these parts, where it has a digit and its exponent is one
abbrev pub numeral_with : Bool → List ℕ → Option (List ℕ) → Option (Option Exponent) → Option Numeral
numeral_with minus whole fraction None = None
numeral_with minus whole fraction (Some e) =
    cond (is_empty (whole ++ fraction_digits fraction)) None
    (Some (record { minus = minus; whole = whole; fraction = fraction; exponent = e }))

-- the numeral that the bytes are
unfoldable pub numeral_at : List ℕ → Option Numeral
numeral_at bs =
    let rest = after_minus bs in
    numeral_with (minus_at bs) (digits_at rest) (fraction_at (after_digits rest)) (exponent_at (after_fraction (after_digits rest)))

-- the number that the bytes are, in millionths
unfoldable pub number_at : List ℕ → Option ℤ
number_at bs = option_map value_of (numeral_at bs)

-- the bytes spell a numeral that is worth z
abbrev pub IsSpelled : List ℕ → ℤ → Type 0
IsSpelled bs z = (n : Numeral) × IsNumeral n × (bs ≡ spelling n) × (z ≡ value_of n)
