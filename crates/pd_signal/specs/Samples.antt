-- Samples in order, and what the signal objects make of them.
use Rattle.std.specs.Prelude.{ℤ, pos, int_le, int_lt, unsigned_abs, List, [], ◌∷◌, if◌then◌else◌}
use Rattle.std.specs.Int.{int_rem_euclid}
use Rattle.pd_num.specs.Scale.{billionths, sum_of, difference_of, product_of}

-- two blocks, sample by sample
abbrev pub zip_with : (ℤ → ℤ → ℤ) → List ℤ → List ℤ → List ℤ
zip_with f (x ∷ xs) (y ∷ ys) = f x y ∷ zip_with f xs ys
zip_with f _ _ = []

abbrev pub greater_of : ℤ → ℤ → ℤ
greater_of x y = if int_le x y then y else x

abbrev pub lesser_of : ℤ → ℤ → ℤ
lesser_of x y = if int_le x y then x else y

abbrev pub magnitude_of : ℤ → ℤ
magnitude_of x = pos (unsigned_abs x)

-- less the greatest whole unit not above it
abbrev pub wrapped : ℤ → ℤ
wrapped x = int_rem_euclid x (pos billionths.unit)

abbrev pub clipped : ℤ → ℤ → ℤ → ℤ
clipped low high x = if int_lt x low then low else if int_lt high x then high else x

-- the last of some samples, or what was before them
abbrev pub last_of : ℤ → List ℤ → ℤ
last_of before [] = before
last_of before (x ∷ xs) = last_of x xs

-- the next value of a low pass on its way to x, at the factor k
abbrev pub nearer : ℤ → ℤ → ℤ → ℤ
nearer k v x = sum_of billionths v (product_of billionths k (difference_of billionths x v))

-- the values of a low pass
abbrev pub low_passed : ℤ → ℤ → List ℤ → List ℤ
low_passed k v [] = []
low_passed k v (x ∷ xs) = nearer k v x ∷ low_passed k (nearer k v x) xs

-- what the low pass takes away
abbrev pub high_passed : ℤ → ℤ → List ℤ → List ℤ
high_passed k v xs = zip_with (difference_of billionths) xs (low_passed k v xs)

-- the value that is kept at a sample: x where y is below the y before it
abbrev pub kept_at : ℤ → ℤ → ℤ → ℤ → ℤ
kept_at last kept x y = if int_lt y last then x else kept

abbrev pub kept_values : ℤ → ℤ → List ℤ → List ℤ → List ℤ
kept_values last kept (x ∷ xs) (y ∷ ys) = kept_at last kept x y ∷ kept_values y (kept_at last kept x y) xs ys
kept_values last kept _ _ = []
