-- The printed form of a number.
use Rattle.std.specs.Prelude.{ℕ, ◌+◌, ◌/◌, ◌%◌, ℤ, pos, negsuc, zero, suc, List, [], ◌∷◌, ◌++◌, ◌==◌, if◌then◌else◌, decimal, ◌^◌}

-- the digits of r, out of 10 ^ places, up to the last that isn't 0
abbrev pub places_text : ℕ → ℕ → List ℕ
places_text zero r = []
places_text (suc k) r = if r == 0 then [] else (48 + r / 10 ^ k) ∷ places_text k (r % 10 ^ k)

-- a point and the millionths without their trailing zeros, where there are any
abbrev pub point_text : ℕ → List ℕ
point_text r = if r == 0 then [] else 46 ∷ places_text 6 r

abbrev pub magnitude_text : ℕ → List ℕ
magnitude_text n = decimal (n / 1000000) ++ point_text (n % 1000000)

-- the printed form of a count of millionths
abbrev pub printed : ℤ → List ℕ
printed (pos n) = magnitude_text n
printed (negsuc n) = 45 ∷ magnitude_text (suc n)
