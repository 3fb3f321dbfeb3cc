-- The numerals: how they are spelled, and what they are worth.
use Rattle.std.specs.Prelude.{◌≡◌, ℕ, ◌+◌, ◌*◌, ◌/◌, ◌^◌, ◌<◌, ℤ, pos, neg_ℤ, min, Bool, true, false, List, [], ◌∷◌, ◌++◌, length, Option, Some, None, ◌⊎◌, IsTrue, if◌then◌else◌}
use Rattle.std.specs.Char.{is_ascii_digit}
use Rattle.std.specs.Str.Parse.{digits_value}
use Rattle.pd_num.specs.Scale.{millionths}

-- each byte is a digit
abbrev pub AreDigits : List ℕ → Type 0
AreDigits [] = Unit {0}
AreDigits (b ∷ bs) = IsTrue (is_ascii_digit b) × AreDigits bs

-- an exponent: its letter, whether its sign is there and is a minus, and its digits
pub record Exponent : Type 0 where
  pub letter : ℕ
  pub sign : Option Bool
  pub digits : List ℕ

-- a numeral: its minus, the digits before the point, those after it where there is one, its exponent
pub record Numeral : Type 0 where
  pub minus : Bool
  pub whole : List ℕ
  pub fraction : Option (List ℕ)
  pub exponent : Option Exponent

-- the digits after the point
abbrev pub fraction_digits : Option (List ℕ) → List ℕ
fraction_digits None = []
fraction_digits (Some ds) = ds

-- the letter is e or E, and there is a digit at least
abbrev pub IsExponent : Option Exponent → Type 0
IsExponent None = Unit {0}
IsExponent (Some e) = ((e.letter ≡ 101) ⊎ (e.letter ≡ 69)) × (0 < length e.digits) × AreDigits e.digits

-- there is a digit at least beside the exponent's
pub record IsNumeral (n : Numeral) : Type 0 where
  pub whole : AreDigits n.whole
  pub fraction : AreDigits (fraction_digits n.fraction)
  pub some : 0 < length (n.whole ++ fraction_digits n.fraction)
  pub exponent : IsExponent n.exponent

abbrev pub minus_text : Bool → List ℕ
minus_text true = 45 ∷ []
minus_text false = []

abbrev pub fraction_text : Option (List ℕ) → List ℕ
fraction_text None = []
fraction_text (Some ds) = 46 ∷ ds

abbrev pub sign_text : Option Bool → List ℕ
sign_text None = []
sign_text (Some true) = 45 ∷ []
sign_text (Some false) = 43 ∷ []

abbrev pub exponent_text : Option Exponent → List ℕ
exponent_text None = []
exponent_text (Some e) = e.letter ∷ sign_text e.sign ++ e.digits

-- the bytes of a numeral
abbrev pub spelling : Numeral → List ℕ
spelling n = minus_text n.minus ++ n.whole ++ fraction_text n.fraction ++ exponent_text n.exponent

-- whether an exponent's sign is a minus
abbrev pub is_negative : Option Bool → Bool
is_negative None = false
is_negative (Some minus) = minus

-- how many places the exponent moves the point to the right, and to the left
abbrev pub places_right : Option Exponent → ℕ
places_right None = 0
places_right (Some e) = if is_negative e.sign then 0 else digits_value 10 e.digits

abbrev pub places_left : Option Exponent → ℕ
places_left None = 0
places_left (Some e) = if is_negative e.sign then digits_value 10 e.digits else 0

-- the nearest whole number to a fraction, a half upward
abbrev pub rounded : ℕ → ℕ → ℕ
rounded numerator denominator = (2 * numerator + denominator) / (2 * denominator)

-- the millionths of the digits ds, of which the last f stand behind the point, which moves by an exponent
abbrev pub magnitude_of : List ℕ → ℕ → ℕ → ℕ → ℕ
magnitude_of ds f right left = min millionths.limit (rounded (digits_value 10 ds * 10 ^ (right + 6)) (10 ^ (f + left)))

abbrev pub signed : Bool → ℕ → ℤ
signed minus n = if minus then neg_ℤ (pos n) else pos n

-- The value: an exact fraction, rounded once to the nearest millionth, a half away from zero, and saturated.
abbrev pub value_of : Numeral → ℤ
value_of n =
    signed n.minus
    (magnitude_of (n.whole ++ fraction_digits n.fraction) (length (fraction_digits n.fraction)) (places_right n.exponent) (places_left n.exponent))
