-- A list of digits, a step at a time, and its number with a bound.
use Rattle.std.proofs.Common.{◌≡◌, ℕ, zero, suc, ◌+◌, ◌-◌, ◌*◌, ◌/◌, ◌^◌, ◌<◌, ◌≤◌, min, Bool, true, false, cond, List, [], ◌∷◌, ◌++◌, length, get_or, take, drop, refl, sym, ap, ◌∙◌, subst, arith, add-one, drop-cons, length-drop, length-append, inl, inr}
use Rattle.std.specs.Char.{is_ascii_digit, digit_value}
use Rattle.std.specs.Str.Parse.{digits_value_after, digits_value, AllDigits}
use Rattle.std.proofs.lemmas.Bool.Decides.{nat_tests}
use Rattle.std.proofs.lemmas.List.{take-append-drop, take_all}
use Rattle.std.proofs.lemmas.Int.Digits.{digits_value-lt}
use Rattle.std.proofs.Math.Nat.{pow-zero, pow-suc, one-le-pow, pow-le-pow_right, div-eq_of_lt, mul-div_cancel, mul-div-mul_right, mul-div-mul_left, add-mul-div_right, div-div-eq-div-mul, le-mul_of_pos_right, mul_assoc, add-mul}
use Rattle.std.proofs.lemmas.Bool.{cases_lt}
use Rattle.std.proofs.lemmas.Nat.{pow-add, div-mul-add}
use Rattle.pd_num.specs.declared.reading.TheConstants.{CAP, FAR}
use Rattle.pd_num.specs.Numeral.{AreDigits, rounded, magnitude_of}
use Rattle.pd_num.specs.Scale.{millionths}

pub digit_is : (b : ℕ) → is_ascii_digit b ≡ true → (48 ≤ b) × (b < 58) × (digit_value b ≡ b - 48)
digit_is b h = (grind (arith, nat_tests), grind (arith, nat_tests), grind (arith, nat_tests))

pub digits_more : (s : List ℕ) (i : ℕ) → i < length s → AreDigits (drop i s) →
    (is_ascii_digit (get_or s i 0) ≡ true) × AreDigits (drop (i + 1) s)
digits_more s i h d =
    let e : drop i s ≡ get_or s i 0 ∷ drop (i + 1) s = rw add-one (drop-cons s i 0 h) in
    subst AreDigits e d

-- a number that is cut on the way is the number that is cut at the end
pub cut : (m n : ℕ) (ds : List ℕ) → min (digits_value_after 10 (min n m) ds) m ≡ min (digits_value_after 10 n ds) m
cut m n [] = omega arith
cut m n (c ∷ cs) =
    let e : min (min n m * 10 + digit_value c) m ≡ min (n * 10 + digit_value c) m = omega arith in
    sym (cut m (min n m * 10 + digit_value c) cs) ∙ ap (λ t. min (digits_value_after 10 t cs) m) e ∙ cut m (n * 10 + digit_value c) cs

pub cut_more : (m total next : ℕ) (s : List ℕ) (i : ℕ) → i < length s → next ≡ min (total * 10 + digit_value (get_or s i 0)) m →
    min (digits_value_after 10 next (drop (i + 1) s)) m ≡ min (digits_value_after 10 total (drop i s)) m
cut_more m total next s i h e =
    let d : drop i s ≡ get_or s i 0 ∷ drop (i + 1) s = rw add-one (drop-cons s i 0 h) in
    rw (d, e) (cut m (total * 10 + digit_value (get_or s i 0)) (drop (i + 1) s))

-- as `cut_more`, where some digits are wanted still
pub cut_wanted : (m total next left : ℕ) (s : List ℕ) (i : ℕ) → i < length s → 0 < left → next ≡ min (total * 10 + digit_value (get_or s i 0)) m →
    min (digits_value_after 10 next (take (left - 1) (drop (i + 1) s))) m ≡ min (digits_value_after 10 total (take left (drop i s))) m
cut_wanted m total next zero s i h w e = absurd (omega arith)
cut_wanted m total next (suc k) s i h w e =
    let d : drop i s ≡ get_or s i 0 ∷ drop (i + 1) s = rw add-one (drop-cons s i 0 h) in
    let f : suc k - 1 ≡ k = omega arith in
    rw (d, e, f) (cut m (total * 10 + digit_value (get_or s i 0)) (take k (drop (i + 1) s)))

pub all_digits_from : (ds : List ℕ) → AreDigits ds → AllDigits 10 ds
all_digits_from [] d = tt
all_digits_from (b ∷ ds) d = let h = digit_is b d.0 in (omega arith, all_digits_from ds d.1)

pub after-append : (n : ℕ) (xs ys : List ℕ) → digits_value_after 10 n (xs ++ ys) ≡ digits_value_after 10 (digits_value_after 10 n xs) ys
after-append n [] ys = refl
after-append n (x ∷ xs) ys = after-append (n * 10 + digit_value x) xs ys

carried : (n d p v a b q : ℕ) → a ≡ (n * 10 + d) * p + v → b ≡ (0 * 10 + d) * p + v → q ≡ p * 10 → a ≡ n * q + b
carried n d p v a b q h k e =
    let x : (n * 10 + d) * p ≡ (n * 10) * p + d * p = add-mul (n * 10) d p in
    let y : (n * 10) * p ≡ n * (10 * p) = mul_assoc n 10 p in
    let m : 10 * p ≡ q = omega arith in
    let z : n * (10 * p) ≡ n * q = ap (λ t. n * t) m in
    let w : (0 * 10 + d) * p ≡ d * p = ap (λ t. t * p) (let f : 0 * 10 + d ≡ d = omega arith in f) in
    omega arith

pub after-value : (n : ℕ) (ds : List ℕ) → digits_value_after 10 n ds ≡ n * 10 ^ length ds + digits_value 10 ds
after-value n [] = omega (arith, pow-zero 10)
after-value n (c ∷ cs) =
    carried n (digit_value c) (10 ^ length cs) (digits_value 10 cs) _ _ (10 ^ suc (length cs))
    (after-value (n * 10 + digit_value c) cs) (after-value (0 * 10 + digit_value c) cs) (pow-suc 10 (length cs))

digits-lt : (ds : List ℕ) → AreDigits ds → digits_value 10 ds < 10 ^ length ds
digits-lt ds d = digits_value-lt 10 ds (all_digits_from ds d)

digits-drop : (ds : List ℕ) (i : ℕ) → AreDigits ds → AreDigits (drop i ds)
digits-drop ds zero d = d
digits-drop [] (suc i) d = tt
digits-drop (x ∷ ds) (suc i) d = digits-drop ds i d.1

pub digits-append : (xs ys : List ℕ) → AreDigits xs → AreDigits ys → AreDigits (xs ++ ys)
digits-append [] ys d e = e
digits-append (x ∷ xs) ys d e = (d.0, digits-append xs ys d.1 e)

pub power_pos : (n : ℕ) → 0 < 10 ^ n
power_pos n = omega (arith, one-le-pow n 10 (omega arith))

-- the digits without their last j are the quotient by a power
take_quotient : (ds : List ℕ) (j : ℕ) → AreDigits ds → digits_value 10 (take (length ds - j) ds) ≡ digits_value 10 ds / 10 ^ j
take_quotient ds j d =
    elim (cases_lt (length ds) j) as (λ _. digits_value 10 (take (length ds - j) ds) ≡ digits_value 10 ds / 10 ^ j) [
      | inr short ↦
          (let i = length ds - j in
          let l : length (drop (length ds - j) ds) ≡ j = omega (arith, length-drop (length ds - j) ds) in
          let low : digits_value 10 (drop (length ds - j) ds) < 10 ^ j =
          subst (λ k. digits_value 10 (drop (length ds - j) ds) < 10 ^ k) l (digits-lt (drop (length ds - j) ds) (digits-drop ds (length ds - j) d)) in
          let whole : digits_value 10 ds ≡ digits_value 10 (take (length ds - j) ds) * 10 ^ j + digits_value 10 (drop (length ds - j) ds) =
          ap (digits_value 10) (sym (take-append-drop (length ds - j) ds))
          ∙ after-append 0 (take (length ds - j) ds) (drop (length ds - j) ds)
          ∙ after-value (digits_value 10 (take (length ds - j) ds)) (drop (length ds - j) ds)
          ∙ ap (λ k. digits_value 10 (take (length ds - j) ds) * 10 ^ k + digits_value 10 (drop (length ds - j) ds)) l in
          sym (ap (λ v. v / 10 ^ j) whole ∙ div-mul-add (digits_value 10 (take (length ds - j) ds)) (10 ^ j) (digits_value 10 (drop (length ds - j) ds)) low))
      | inl long ↦
          (let none : length ds - j ≡ 0 = omega arith in
          let below : digits_value 10 ds < 10 ^ j = omega (arith, digits-lt ds d, pow-le-pow_right {n = 10} (omega arith) {i = length ds} {j = j} (omega arith)) in
          rw none (sym (div-eq_of_lt below)))
    ]

-- the number of the first n digits, with zeros after_digits the last
abbrev pub total_of : List ℕ → ℕ → ℕ
total_of ds n = digits_value 10 (take n ds) * 10 ^ (n - length ds)

-- it is the digits' number moved by p places to the left and q to the right
pub moved : (ds : List ℕ) (p q : ℕ) → AreDigits ds → total_of ds (length ds + p - q) ≡ digits_value 10 ds * 10 ^ p / 10 ^ q
moved ds p q d =
    elim (cases_lt p q) as (λ _. total_of ds (length ds + p - q) ≡ digits_value 10 ds * 10 ^ p / 10 ^ q) [
      | inr right ↦
          (let all : take (length ds + p - q) ds ≡ ds = take_all (length ds + p - q) ds (omega arith) in
          let k : length ds + p - q - length ds ≡ p - q = omega arith in
          let e : 10 ^ p ≡ 10 ^ (p - q) * 10 ^ q = (let s : p ≡ (p - q) + q = omega arith in ap (λ x. 10 ^ x) s ∙ pow-add 10 (p - q) q) in
          rw (all, k, e) (sym (ap (λ v. v / 10 ^ q) (sym (mul_assoc (digits_value 10 ds) (10 ^ (p - q)) (10 ^ q)))
          ∙ mul-div_cancel (digits_value 10 ds * 10 ^ (p - q)) (power_pos q))))
      | inl left ↦
          (let n : length ds + p - q ≡ length ds - (q - p) = omega arith in
          let k : length ds - (q - p) - length ds ≡ 0 = omega arith in
          let e : 10 ^ q ≡ 10 ^ (q - p) * 10 ^ p = (let s : q ≡ (q - p) + p = omega arith in ap (λ x. 10 ^ x) s ∙ pow-add 10 (q - p) p) in
          rw (n, k, e) (omega (arith, pow-zero 10, take_quotient ds (q - p) d, mul-div-mul_right {m = 10 ^ p} (digits_value 10 ds) (10 ^ (q - p)) (power_pos p))))
    ]

-- rounding at the place after_digits: the next digit decides
pub rounded_by_digit : (num den : ℕ) → 0 < den → (num * 10 / den + 5) / 10 ≡ rounded num den
rounded_by_digit num den pos =
    ap (λ t. t / 10) (sym (add-mul-div_right (num * 10) 5 pos))
    ∙ div-div-eq-div-mul (num * 10 + 5 * den) den 10
    ∙ (let top : num * 10 + 5 * den ≡ 5 * (2 * num + den) = omega arith in
    let bottom : den * 10 ≡ 5 * (2 * den) = omega arith in
    rw (top, bottom) (mul-div-mul_left {m = 5} (2 * num + den) (2 * den) (omega arith)))

-- seventeen zeros tell as much as more
pub zeros_enough : (total a b : ℕ) → 17 ≤ a → 17 ≤ b → min (total * 10 ^ a) CAP ≡ min (total * 10 ^ b) CAP
zeros_enough zero a b h k = omega arith
zeros_enough (suc t) a b h k =
    let x : 10 ^ 17 ≤ 10 ^ a = pow-le-pow_right {n = 10} (omega arith) {i = 17} {j = a} h in
    let y : 10 ^ 17 ≤ 10 ^ b = pow-le-pow_right {n = 10} (omega arith) {i = 17} {j = b} k in
    let s : 10 ^ a ≤ 10 ^ a * suc t = le-mul_of_pos_right (10 ^ a) (omega arith) in
    let r : 10 ^ b ≤ 10 ^ b * suc t = le-mul_of_pos_right (10 ^ b) (omega arith) in
    omega arith

pub zeros_more : (m t total next i : ℕ) → total ≡ min (t * 10 ^ i) m → next ≡ min (total * 10) m → next ≡ min (t * 10 ^ (i + 1)) m
zeros_more m t total next i h e =
    let p : 10 ^ (i + 1) ≡ 10 ^ i * 10 = rw add-one (pow-suc 10 i) in
    let q : t * 10 ^ (i + 1) ≡ (t * 10 ^ i) * 10 = ap (λ x. t * x) p ∙ sym (mul_assoc t (10 ^ i) 10) in
    omega arith

take-append : (n : ℕ) (xs ys : List ℕ) → take n (xs ++ ys) ≡ take n xs ++ take (n - length xs) ys
take-append zero xs ys = let z : 0 - length xs ≡ 0 = omega arith in rw z refl
take-append (suc n) [] ys = let z : suc n - 0 ≡ suc n = omega arith in rw z refl
take-append (suc n) (x ∷ xs) ys =
    let z : suc n - suc (length xs) ≡ n - length xs = omega arith in rw z (ap (λ t. x ∷ t) (take-append n xs ys))

min_times : (m a c : ℕ) → 0 < c → min (min a m * c) m ≡ min (a * c) m
min_times m a c pos =
    elim (cases_lt a m) as (λ _. min (min a m * c) m ≡ min (a * c) m) [
      | inl less ↦ (let e : min a m ≡ a = omega arith in rw e refl)
      | inr more ↦
          (let e : min a m ≡ m = omega arith in
          let x : m ≤ m * c = le-mul_of_pos_right m pos in
          let y : a ≤ a * c = le-mul_of_pos_right a pos in
          rw e (omega arith))
    ]

-- what two pieces of digits and then zeros come to
pieces : (w f : List ℕ) (left t1 t2 t3 l1 l2 : ℕ) → t1 ≡ min (digits_value_after 10 0 (take left w)) CAP → l1 ≡ left - length w →
    t2 ≡ min (digits_value_after 10 t1 (take l1 f)) CAP → l2 ≡ l1 - length f → t3 ≡ min (t2 * 10 ^ l2) CAP →
    t3 ≡ min (total_of (w ++ f) left) CAP
pieces w f left t1 t2 t3 l1 l2 e1 m1 e2 m2 e3 =
    let v : digits_value_after 10 (digits_value_after 10 0 (take left w)) (take (left - length w) f) ≡ digits_value 10 (take left (w ++ f)) =
    sym (ap (digits_value 10) (take-append left w f) ∙ after-append 0 (take left w) (take (left - length w) f)) in
    let k2 : t2 ≡ min (digits_value 10 (take left (w ++ f))) CAP =
    e2 ∙ rw (e1, m1) (cut CAP (digits_value_after 10 0 (take left w)) (take (left - length w) f) ∙ ap (λ x. min x CAP) v) in
    let z : l2 ≡ left - length (w ++ f) = omega (arith, length-append w f) in
    e3 ∙ rw (k2, z) (min_times CAP (digits_value 10 (take left (w ++ f))) (10 ^ (left - length (w ++ f))) (power_pos (left - length (w ++ f))))

-- a far exponent is as good as any farther one
far_enough : (ds : List ℕ) (a b : ℕ) → length ds + 17 ≤ a → length ds + 17 ≤ b → min (total_of ds a) CAP ≡ min (total_of ds b) CAP
far_enough ds a b h k =
    let x : take a ds ≡ ds = take_all a ds (omega arith) in
    let y : take b ds ≡ ds = take_all b ds (omega arith) in
    rw (x, y) (zeros_enough (digits_value 10 ds) (a - length ds) (b - length ds) (omega arith) (omega arith))

capped : (t n r : ℕ) → t ≡ min n CAP → (n + 5) / 10 ≡ r → (t + 5) / 10 ≡ min millionths.limit r
capped t n r h k = omega arith

-- from the count of places to the value
valued : (ds : List ℕ) (f u d t : ℕ) → AreDigits ds → f ≤ length ds → t ≡ min (total_of ds (length ds + (u + 7) - (f + d))) CAP →
    (t + 5) / 10 ≡ magnitude_of ds f u d
valued ds f u d t are short e =
    let num = digits_value 10 ds * 10 ^ (u + 6) in
    let m = moved ds (u + 7) (f + d) are in
    let p : 10 ^ (u + 7) ≡ 10 ^ (u + 6) * 10 = (let s : u + 7 ≡ suc (u + 6) = omega arith in ap (λ x. 10 ^ x) s ∙ pow-suc 10 (u + 6)) in
    let q : digits_value 10 ds * 10 ^ (u + 7) ≡ (digits_value 10 ds * 10 ^ (u + 6)) * 10 =
    ap (λ x. digits_value 10 ds * x) p ∙ sym (mul_assoc (digits_value 10 ds) (10 ^ (u + 6)) 10) in
    let t2 : t ≡ min ((digits_value 10 ds * 10 ^ (u + 6)) * 10 / 10 ^ (f + d)) CAP =
    e ∙ ap (λ x. min x CAP) (m ∙ ap (λ x. x / 10 ^ (f + d)) q) in
    let r = rounded_by_digit (digits_value 10 ds * 10 ^ (u + 6)) (10 ^ (f + d)) (power_pos (f + d)) in
    capped t ((digits_value 10 ds * 10 ^ (u + 6)) * 10 / 10 ^ (f + d)) (rounded (digits_value 10 ds * 10 ^ (u + 6)) (10 ^ (f + d))) t2 r

pub magnitude_is : (w f : List ℕ) (negative : Bool) (power p left t1 t2 t3 l1 l2 : ℕ) → AreDigits w → AreDigits f → length w < 2 ^ 64 → length f < 2 ^ 64 →
    power ≡ min p FAR → left ≡ cond negative (length w + 7 - power) (length w + 7 + power) →
    t1 ≡ min (digits_value_after 10 0 (take left w)) CAP → l1 ≡ left - length w →
    t2 ≡ min (digits_value_after 10 t1 (take l1 f)) CAP → l2 ≡ l1 - length f → t3 ≡ min (t2 * 10 ^ l2) CAP →
    (t3 + 5) / 10 ≡ magnitude_of (w ++ f) (length f) (cond negative 0 p) (cond negative p 0)
magnitude_is w f true power p left t1 t2 t3 l1 l2 dw df sw sf ep el e1 m1 e2 m2 e3 =
    let len : length (w ++ f) ≡ length w + length f = length-append w f in
    let same : left ≡ length (w ++ f) + (0 + 7) - (length f + p) = omega arith in
    valued (w ++ f) (length f) 0 p t3 (digits-append w f dw df) (omega arith)
    (pieces w f left t1 t2 t3 l1 l2 e1 m1 e2 m2 e3 ∙ ap (λ x. min (total_of (w ++ f) x) CAP) same)
magnitude_is w f false power p left t1 t2 t3 l1 l2 dw df sw sf ep el e1 m1 e2 m2 e3 =
    let len : length (w ++ f) ≡ length w + length f = length-append w f in
    let whole : t3 ≡ min (total_of (w ++ f) left) CAP = pieces w f left t1 t2 t3 l1 l2 e1 m1 e2 m2 e3 in
    valued (w ++ f) (length f) p 0 t3 (digits-append w f dw df) (omega arith)
    (elim (cases_lt FAR p) as (λ _. t3 ≡ min (total_of (w ++ f) (length (w ++ f) + (p + 7) - (length f + 0))) CAP) [
      | inl far ↦ whole ∙ far_enough (w ++ f) left (length (w ++ f) + (p + 7) - (length f + 0)) (omega arith) (omega arith)
      | inr near ↦
          (let same : left ≡ length (w ++ f) + (p + 7) - (length f + 0) = omega arith in
          whole ∙ ap (λ x. min (total_of (w ++ f) x) CAP) same)
    ])
