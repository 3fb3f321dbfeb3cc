-- Values that fit 32 bits are those that 32 bits keep.
use Rattle.std.proofs.Common.{◌≡◌, sym, ◌∙◌, ap, refl, ℕ, ℤ, pos, negsuc, suc, neg_ℤ, ◌-ℤ◌, ◌≤ℤ◌, ◌+◌, ◌-◌, ◌%◌, ◌^◌, ◌<◌, ◌≤◌, List, [], ◌∷◌, drop, length, map, replicate, get_or, w64, arith}
use Rattle.std.proofs.lemmas.Int.{ints}
use Rattle.std.proofs.lemmas.List.{drop_more}
use Rattle.std.specs.Int.{cast_unsigned}
use Rattle.pd_num.specs.Scale.{billionths, IsInRange, product_of}
use Rattle.pd_signal.specs.Samples.{zip_with}
use Rattle.pd_signal.specs.Shorts.{raised_of, lowered_of, short_of}
use Rattle.pd_signal.proofs.LoopLemmas.{zip_replicate}

short_pos : (k : ℕ) → (k + 2 ^ 31) % 2 ^ 64 < 2 ^ 32 → k ≤ 1000000000000000000 → lowered_of ((k + 2 ^ 31) % 2 ^ 64) ≡ pos k
unfolding lowered_of
short_pos k lt le =
    let wide : (k + 2 ^ 31) % 2 ^ 64 ≡ k + 2 ^ 31 = omega arith in
    let cut : (k + 2 ^ 31) % 2 ^ 32 ≡ k + 2 ^ 31 = omega arith in
    let value : pos (k + 2 ^ 31) -ℤ pos (2 ^ 31) ≡ pos k = omega (arith, ints) in
    rw (wide, cut) value

short_neg : (k : ℕ) → (2 ^ 64 - suc k + 2 ^ 31) % 2 ^ 64 < 2 ^ 32 → suc k ≤ 1000000000000000000 → lowered_of ((2 ^ 64 - suc k + 2 ^ 31) % 2 ^ 64) ≡ negsuc k
unfolding lowered_of
short_neg k lt le =
    let wide : (2 ^ 64 - suc k + 2 ^ 31) % 2 ^ 64 ≡ 2 ^ 31 - suc k = omega arith in
    let small : suc k ≤ 2 ^ 31 = omega arith in
    let cut : (2 ^ 31 - suc k) % 2 ^ 32 ≡ 2 ^ 31 - suc k = omega arith in
    let value : pos (2 ^ 31 - suc k) -ℤ pos (2 ^ 31) ≡ negsuc k = omega (arith, ints) in
    rw (wide, cut) value

short_within : (x : ℤ) → neg_ℤ (pos 1000000000000000000) ≤ℤ x → x ≤ℤ pos 1000000000000000000
    → (cast_unsigned w64 x + 2 ^ 31) % 2 ^ 64 < 2 ^ 32 → lowered_of ((cast_unsigned w64 x + 2 ^ 31) % 2 ^ 64) ≡ x
short_within (pos k) low high lt = short_pos k lt (omega (arith, ints))
short_within (negsuc k) low high lt = short_neg k lt (omega (arith, ints))

-- a value whose raised count is below 2^32
pub short_is : (x : ℤ) → IsInRange billionths x → raised_of x < 2 ^ 32 → short_of x ≡ x
unfolding raised_of
short_is x in_x lt = short_within x in_x.0 in_x.1 lt

-- one value more
pub map_same : (f : ℤ → ℤ) (xs : List ℤ) (i : ℕ) (x : ℤ) → i < length xs → f (get_or xs i x) ≡ get_or xs i x → map f (drop (i + 1) xs) ≡ drop (i + 1) xs → map f (drop i xs) ≡ drop i xs
map_same f xs i x in_xs one rest =
    let split : drop i xs ≡ get_or xs i x ∷ drop (i + 1) xs = drop_more xs i x in_xs in
    ap (map f) split ∙ (ap (λ (v : ℤ). v ∷ map f (drop (i + 1) xs)) one ∙ (ap (λ (vs : List ℤ). get_or xs i x ∷ vs) rest ∙ sym split))

within : (f g : ℤ → ℤ) (xs : List ℤ) → map (λ x. g (f x)) xs ≡ map g (map f xs)
within f g [] = refl
within f g (x ∷ xs) = ap (λ (vs : List ℤ). g (f x) ∷ vs) (within f g xs)

-- products of short values are those of the values
pub scaled : (factor : ℤ) (xs : List ℤ) → length xs ≡ 64 → map short_of xs ≡ xs
    → map (λ x. product_of billionths (short_of x) factor) xs ≡ zip_with (product_of billionths) xs (replicate 64 factor)
scaled factor xs len same =
    within short_of (λ x. product_of billionths x factor) xs
    ∙ (ap (map (λ x. product_of billionths x factor)) same ∙ sym (zip_replicate (product_of billionths) factor xs 64 len))

pub scaled_long : (factor : ℤ) (xs : List ℤ) → length xs ≡ 64 → map (λ x. product_of billionths x factor) xs ≡ zip_with (product_of billionths) xs (replicate 64 factor)
scaled_long factor xs len = sym (zip_replicate (product_of billionths) factor xs 64 len)
