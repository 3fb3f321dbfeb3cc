-- A list of digits, a step at a time, and its number with a bound.
use Rattle.std.proofs.Common.{◌≡◌, ℕ, ◌+◌, ◌-◌, ◌*◌, ◌<◌, ◌≤◌, min, true, false, Bool, List, [], ◌∷◌, length, get_or, drop, refl, sym, ap, ◌∙◌, subst, arith, add-one, drop-cons}
use Rattle.std.specs.Char.{is_ascii_digit, digit_value}
use Rattle.std.specs.List.{list_all}
use Rattle.std.specs.Str.Parse.{digits_value_after}
use Rattle.std.proofs.lemmas.Bool.Decides.{nat_tests}

pub digit_is : (b : ℕ) → is_ascii_digit b ≡ true → (48 ≤ b) × (b < 58) × (digit_value b ≡ b - 48)
digit_is b h = (grind (arith, nat_tests), grind (arith, nat_tests), grind (arith, nat_tests))

-- a test is true or false
pub by_test : {P : Type 0} (b : Bool) → (b ≡ true → P) → (b ≡ false → P) → P
by_test {P} b t f = elim b as (λ v. (v ≡ true → P) → (v ≡ false → P) → P) [ true ↦ (λ y n. y refl) | false ↦ (λ y n. n refl) ] t f

all_parts : (b : ℕ) (bs : List ℕ) → list_all is_ascii_digit (b ∷ bs) ≡ true → (is_ascii_digit b ≡ true) × (list_all is_ascii_digit bs ≡ true)
all_parts b bs h = grind arith

pub digits_more : (s : List ℕ) (i : ℕ) → i < length s → list_all is_ascii_digit (drop i s) ≡ true →
    (is_ascii_digit (get_or s i 0) ≡ true) × (list_all is_ascii_digit (drop (i + 1) s) ≡ true)
digits_more s i h d =
    let e : drop i s ≡ get_or s i 0 ∷ drop (i + 1) s = rw add-one (drop-cons s i 0 h) in
    all_parts (get_or s i 0) (drop (i + 1) s) (subst (λ l. list_all is_ascii_digit l ≡ true) e d)

-- a number that is cut on the way is the number that is cut at the end
pub cut : (m n : ℕ) (ds : List ℕ) → min (digits_value_after 10 (min n m) ds) m ≡ min (digits_value_after 10 n ds) m
cut m n [] = omega arith
cut m n (c ∷ cs) =
    let e : min (min n m * 10 + digit_value c) m ≡ min (n * 10 + digit_value c) m = omega arith in
    sym (cut m (min n m * 10 + digit_value c) cs) ∙ ap (λ t. min (digits_value_after 10 t cs) m) e ∙ cut m (n * 10 + digit_value c) cs

pub cut_more : (m total next : ℕ) (s : List ℕ) (i : ℕ) → i < length s → next ≡ min (total * 10 + digit_value (get_or s i 0)) m →
    min (digits_value_after 10 next (drop (i + 1) s)) m ≡ min (digits_value_after 10 total (drop i s)) m
cut_more m total next s i h e =
    let d : drop i s ≡ get_or s i 0 ∷ drop (i + 1) s = rw add-one (drop-cons s i 0 h) in
    rw (d, e) (cut m (total * 10 + digit_value (get_or s i 0)) (drop (i + 1) s))
