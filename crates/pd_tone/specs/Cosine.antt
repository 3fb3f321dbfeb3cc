-- The cosine in billionths.
use Rattle.std.specs.Prelude.{ℕ, ℤ, pos, suc, ◌+ℤ◌, ◌-ℤ◌, ◌*ℤ◌, ◌*◌, ◌/◌, ◌%◌, ◌-◌, neg_ℤ, int_div, List, [], ◌∷◌, if◌then◌else◌, nat_le}

-- a polynomial in j / 512 with these coefficients, from a sum of those before; each sum is rounded toward zero
abbrev pub polynomial : ℕ → ℤ → List ℤ → ℤ
polynomial j sum [] = sum
polynomial j sum (a ∷ rest) = polynomial j (a +ℤ int_div (sum *ℤ pos (j * j)) (pos (512 * 512))) rest

-- the cosine at j of the 512 parts of a quarter of the circle
unfoldable pub quarter : ℕ → ℤ
quarter j = polynomial j (neg_ℤ (pos 6))
    (pos 471 ∷ neg_ℤ (pos 25202) ∷ pos 919260 ∷ neg_ℤ (pos 20863481) ∷ pos 253669508 ∷ neg_ℤ (pos 1233700550) ∷ pos 1000000000 ∷ [])

-- the cosine at k of the 2048 parts of the circle; past its end it stays as there
unfoldable pub point : ℕ → ℤ
point k =
    if nat_le k 512 then quarter k else
    if nat_le k 1024 then neg_ℤ (quarter (1024 - k)) else
    if nat_le k 1536 then neg_ℤ (quarter (k - 1024)) else quarter (2048 - k)

-- the cosine at a phase on a circle of m: between two points in proportion, rounded toward zero
abbrev pub between : ℤ → ℤ → ℕ → ℕ → ℤ
between from to r m = from +ℤ int_div ((to -ℤ from) *ℤ pos r) (pos m)

unfoldable pub cosine : ℕ → ℕ → ℤ
cosine m p = between (point (p * 2048 / m)) (point (suc (p * 2048 / m))) (p * 2048 % m) m
