-- Sums that are far from the limits are those that 64 bits keep.
use Rattle.std.proofs.Common.{◌≡◌, sym, ◌∙◌, ap, ℕ, ℤ, pos, negsuc, suc, neg_ℤ, ◌+ℤ◌, ◌-ℤ◌, ◌≤ℤ◌, ◌+◌, ◌-◌, ◌%◌, ◌^◌, ◌<◌, ◌≤◌, min, List, ◌∷◌, drop, length, get_or, w64, arith}
use Rattle.std.proofs.lemmas.Int.{ints}
use Rattle.std.proofs.lemmas.List.{drop_more}
use Rattle.std.specs.Int.{cast_unsigned}
use Rattle.pd_num.specs.Scale.{billionths, IsInRange, saturated, sum_of}
use Rattle.pd_signal.specs.Samples.{zip_with}
use Rattle.pd_mix.specs.Sums.{raised_of, lowered_of, short_sum}

short_pos : (k : ℕ) → (k + 2 ^ 59) % 2 ^ 64 < 2 ^ 60 → k ≤ 2000000000000000000 → lowered_of ((k + 2 ^ 59) % 2 ^ 64) ≡ pos (min k 1000000000000000000)
unfolding lowered_of
short_pos k lt le =
    let wide : (k + 2 ^ 59) % 2 ^ 64 ≡ k + 2 ^ 59 = omega arith in
    let cut : (k + 2 ^ 59) % 2 ^ 60 ≡ k + 2 ^ 59 = omega arith in
    let least : min k 1000000000000000000 ≡ k = omega arith in
    let value : pos (k + 2 ^ 59) -ℤ pos (2 ^ 59) ≡ pos k = omega (arith, ints) in
    rw (wide, cut, least) value

short_neg : (k : ℕ) → (2 ^ 64 - suc k + 2 ^ 59) % 2 ^ 64 < 2 ^ 60 → suc k ≤ 2000000000000000000 → lowered_of ((2 ^ 64 - suc k + 2 ^ 59) % 2 ^ 64) ≡ neg_ℤ (pos (min (suc k) 1000000000000000000))
unfolding lowered_of
short_neg k lt le =
    let wide : (2 ^ 64 - suc k + 2 ^ 59) % 2 ^ 64 ≡ 2 ^ 59 - suc k = omega arith in
    let small : suc k ≤ 2 ^ 59 = omega arith in
    let cut : (2 ^ 59 - suc k) % 2 ^ 60 ≡ 2 ^ 59 - suc k = omega arith in
    let least : min (suc k) 1000000000000000000 ≡ suc k = omega arith in
    let value : pos (2 ^ 59 - suc k) -ℤ pos (2 ^ 59) ≡ neg_ℤ (pos (suc k)) = omega (arith, ints) in
    rw (wide, cut, least) value

short_of : (z : ℤ) → neg_ℤ (pos 2000000000000000000) ≤ℤ z → z ≤ℤ pos 2000000000000000000
    → (cast_unsigned w64 z + 2 ^ 59) % 2 ^ 64 < 2 ^ 60 → lowered_of ((cast_unsigned w64 z + 2 ^ 59) % 2 ^ 64) ≡ saturated billionths.limit z
short_of (pos k) low high lt = short_pos k lt (omega (arith, ints))
short_of (negsuc k) low high lt = short_neg k lt (omega (arith, ints))

-- a sum whose raised count is below 2^60
pub short_is : (x y : ℤ) → IsInRange billionths x → IsInRange billionths y → raised_of x y < 2 ^ 60 → short_sum x y ≡ sum_of billionths x y
unfolding raised_of
short_is x y in_x in_y lt =
    let low_x : neg_ℤ (pos 1000000000000000000) ≤ℤ x = in_x.0 in
    let high_x : x ≤ℤ pos 1000000000000000000 = in_x.1 in
    let low_y : neg_ℤ (pos 1000000000000000000) ≤ℤ y = in_y.0 in
    let high_y : y ≤ℤ pos 1000000000000000000 = in_y.1 in
    short_of (x +ℤ y) (omega (arith, ints)) (omega (arith, ints)) lt

-- one value more
pub zip_same : (f g : ℤ → ℤ → ℤ) (xs ys : List ℤ) (i : ℕ) (x y : ℤ) → i < length xs → i < length ys → f (get_or xs i x) (get_or ys i y) ≡ g (get_or xs i x) (get_or ys i y)
    → zip_with f (drop (i + 1) xs) (drop (i + 1) ys) ≡ zip_with g (drop (i + 1) xs) (drop (i + 1) ys)
    → zip_with f (drop i xs) (drop i ys) ≡ zip_with g (drop i xs) (drop i ys)
zip_same f g xs ys i x y in_xs in_ys one rest =
    let from_x : drop i xs ≡ get_or xs i x ∷ drop (i + 1) xs = drop_more xs i x in_xs in
    let from_y : drop i ys ≡ get_or ys i y ∷ drop (i + 1) ys = drop_more ys i y in_ys in
    let split : (h : ℤ → ℤ → ℤ) → zip_with h (drop i xs) (drop i ys) ≡ h (get_or xs i x) (get_or ys i y) ∷ zip_with h (drop (i + 1) xs) (drop (i + 1) ys) =
    λ h. ap (λ (vs : List ℤ). zip_with h vs (drop i ys)) from_x ∙ ap (λ (vs : List ℤ). zip_with h (get_or xs i x ∷ drop (i + 1) xs) vs) from_y in
    split f ∙ (ap (λ (v : ℤ). v ∷ zip_with f (drop (i + 1) xs) (drop (i + 1) ys)) one
    ∙ (ap (λ (vs : List ℤ). g (get_or xs i x) (get_or ys i y) ∷ vs) rest ∙ sym (split g)))
