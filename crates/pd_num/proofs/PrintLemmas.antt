-- A printed number is a numeral with the number's value.
use Rattle.std.proofs.Common.{◌≡◌, ℕ, zero, suc, ◌+◌, ◌-◌, ◌*◌, ◌/◌, ◌%◌, ◌^◌, ◌<◌, ◌≤◌, min, Bool, true, false, cond, List, [], ◌∷◌, ◌++◌, length, Option, Some, None, refl, sym, ap, ◌∙◌, subst, append_assoc, arith, inl, inr, length-append}
use Rattle.std.specs.Prelude.{ℤ, pos, negsuc, decimal, nat_eq}
use Rattle.std.specs.Char.{is_ascii_digit, digit_value}
use Rattle.std.specs.Str.Parse.{digits_value_after, digits_value, AllDigits}
use Rattle.std.proofs.lemmas.Bool.Decides.{nat_tests}
use Rattle.std.proofs.lemmas.Fmt.{decimal_is_IsNumeral}
use Rattle.std.proofs.lemmas.Int.{ints}
use Rattle.std.proofs.lemmas.List.{append-nil}
use Rattle.std.proofs.Math.Nat.{pow-zero, pow-suc, mul_assoc, mul_comm, add-mul, mul-div-mul_right, mod-lt, div-add-mod}
use Rattle.std.proofs.lemmas.Bool.{cases_lt}
use Rattle.pd_num.specs.Scale.{millionths, IsInRange}
use Rattle.pd_num.specs.Numeral.{AreDigits, fraction_digits, fraction_text, minus_text, rounded, magnitude_of, signed}
use Rattle.pd_num.specs.Printing.{places_text, printed}
use Rattle.pd_num.specs.Reading.{number_at, IsSpelled}
use Rattle.pd_num.proofs.ReadLemmas.{number_at-spelling}
use Rattle.pd_num.proofs.DigitLemmas.{after-append, after-value, power_pos}
use Rattle.pd_num.proofs.PlaceLemmas.{place_step}

digit-from : (c : ℕ) → digit_value c < 10 → is_ascii_digit c ≡ true
digit-from c h = grind (arith, nat_tests)

digits-from : (ds : List ℕ) → AllDigits 10 ds → AreDigits ds
digits-from [] h = tt
digits-from (c ∷ cs) h = (digit-from c h.0, digits-from cs h.1)

digit-made : (d : ℕ) → d < 10 → (is_ascii_digit (48 + d) ≡ true) × (digit_value (48 + d) ≡ d)
digit-made d h = (grind (arith, nat_tests), grind (arith, nat_tests))

-- the digits of a fraction are worth it
pub record ArePlaces (places r : ℕ) (ds : List ℕ) : Type 0 where
  pub digits : AreDigits ds
  pub worth : digits_value 10 ds * 10 ^ places ≡ r * 10 ^ length ds

place_worth : (d len k v w r rest : ℕ) → w ≡ d * len + v → v * k ≡ rest * len → r ≡ k * d + rest → w * (k * 10) ≡ r * (len * 10)
place_worth d len k v w r rest a b c =
    let e : (d * len) * k ≡ (k * d) * len = mul_comm (d * len) k ∙ sym (mul_assoc k d len) in
    let x : w * k ≡ (d * len) * k + v * k = ap (λ t. t * k) a ∙ add-mul (d * len) v k in
    let y : r * len ≡ (k * d) * len + rest * len = ap (λ t. t * len) c ∙ add-mul (k * d) rest len in
    let p : w * (k * 10) ≡ (w * k) * 10 = sym (mul_assoc w k 10) in
    let q : r * (len * 10) ≡ (r * len) * 10 = sym (mul_assoc r len 10) in
    omega arith

places_are : (k r : ℕ) → r < 10 ^ k → ArePlaces k r (places_text k r)
places_are zero r h = record { digits = tt; worth = (let z : r ≡ 0 = omega (arith, pow-zero 10) in rw z refl) }
places_are (suc k) r h =
    let i = places_are k (r % 10 ^ k) (mod-lt r (power_pos k)) in
    elim (cases_lt 0 r) as (λ _. ArePlaces (suc k) r (places_text (suc k) r)) [
      | inl some ↦
          (let z : suc k - 1 ≡ k = omega arith in
          let st = place_step (suc k) r (10 ^ (suc k - 1)) some h refl in
          let st2 = rw z at st in
          let m = digit-made (r / 10 ^ k) st2.digit in
          let v : digits_value_after 10 (0 * 10 + digit_value (48 + r / 10 ^ k)) (places_text k (r % 10 ^ k))
          ≡ (r / 10 ^ k) * 10 ^ length (places_text k (r % 10 ^ k)) + digits_value 10 (places_text k (r % 10 ^ k)) =
          ap (λ t. digits_value_after 10 t (places_text k (r % 10 ^ k))) (let q : 0 * 10 + digit_value (48 + r / 10 ^ k) ≡ r / 10 ^ k = omega (arith, m.1) in q)
          ∙ after-value (r / 10 ^ k) (places_text k (r % 10 ^ k)) in
          let whole : r ≡ 10 ^ k * (r / 10 ^ k) + r % 10 ^ k = sym (div-add-mod r (10 ^ k)) in
          let t : places_text (suc k) r ≡ (48 + r / 10 ^ k) ∷ places_text k (r % 10 ^ k) =
          (let test : nat_eq r 0 ≡ false = grind (arith, nat_tests) in rw test refl) in
          subst (ArePlaces (suc k) r) (sym t)
          (record {
            digits = (m.0, i.digits);
            worth =
                rw (pow-suc 10 k, pow-suc 10 (length (places_text k (r % 10 ^ k))))
                (place_worth (r / 10 ^ k) (10 ^ length (places_text k (r % 10 ^ k))) (10 ^ k) (digits_value 10 (places_text k (r % 10 ^ k)))
                (digits_value_after 10 (0 * 10 + digit_value (48 + r / 10 ^ k)) (places_text k (r % 10 ^ k))) r (r % 10 ^ k) v i.worth whole);
          }))
      | inr none ↦
          (let z : r ≡ 0 = omega arith in
          subst (λ x. ArePlaces (suc k) x (places_text (suc k) x)) (sym z) (record { digits = tt; worth = omega arith }))
    ]

exact : (n den : ℕ) → 0 < den → rounded (n * den) den ≡ n
exact n den some =
    let top : 2 * (n * den) + den ≡ (2 * n + 1) * den = (let a = add-mul (2 * n) 1 den in let b = mul_assoc 2 n den in omega arith) in
    rw top (mul-div-mul_right {m = den} (2 * n + 1) 2 some ∙ omega arith)

-- the fraction after_digits the point, where it isn't 0
abbrev pub fraction_of : ℕ → ℕ → Option (List ℕ)
fraction_of k r = cond (nat_eq r 0) None (Some (places_text k r))

fraction_is : (k r : ℕ) → r < 10 ^ k →
    (cond (nat_eq r 0) [] (46 ∷ places_text k r) ≡ fraction_text (fraction_of k r)) × ArePlaces k r (fraction_digits (fraction_of k r))
fraction_is k r h =
    elim (cases_lt 0 r) as (λ _. (cond (nat_eq r 0) [] (46 ∷ places_text k r) ≡ fraction_text (fraction_of k r)) × ArePlaces k r (fraction_digits (fraction_of k r))) [
      | inl some ↦ (let test : nat_eq r 0 ≡ false = grind (arith, nat_tests) in let p = places_are k r h in rw test (refl, p))
      | inr none ↦
          (let z : r ≡ 0 = omega arith in
          let test : nat_eq r 0 ≡ true = grind (arith, nat_tests) in
          rw test (refl, record { digits = tt; worth = (let t = pow-zero 10 in rw z (omega arith)) }))
    ]

total : (q r n len v w : ℕ) → w ≡ q * len + v → v * 1000000 ≡ r * len → n ≡ 1000000 * q + r → w * 1000000 ≡ n * len
total q r n len v w a b c =
    let x : n * len ≡ (1000000 * q) * len + r * len = ap (λ t. t * len) c ∙ add-mul (1000000 * q) r len in
    let y : (1000000 * q) * len ≡ 1000000 * (q * len) = mul_assoc 1000000 q len in
    omega arith

-- the digits of a whole part and of a fraction are worth the number
worth_of : (n : ℕ) (w f : List ℕ) → n ≤ millionths.limit → digits_value 10 w ≡ n / 1000000 → ArePlaces 6 (n % 1000000) f →
    magnitude_of (w ++ f) (length f) 0 0 ≡ n
worth_of n w f small v p =
    let whole : n ≡ 1000000 * (n / 1000000) + n % 1000000 = sym (div-add-mod n 1000000) in
    let d : digits_value 10 (w ++ f) ≡ (n / 1000000) * 10 ^ length f + digits_value 10 f =
    after-append 0 w f ∙ after-value (digits_value 10 w) f ∙ ap (λ t. t * 10 ^ length f + digits_value 10 f) v in
    let t : digits_value 10 (w ++ f) * 1000000 ≡ n * 10 ^ length f =
    total (n / 1000000) (n % 1000000) n (10 ^ length f) (digits_value 10 f) (digits_value 10 (w ++ f)) d p.worth whole in
    let z : length f + 0 ≡ length f = omega arith in
    let e : rounded (digits_value 10 (w ++ f) * 1000000) (10 ^ (length f + 0)) ≡ n =
    ap (λ k. rounded (digits_value 10 (w ++ f) * 1000000) (10 ^ k)) z
    ∙ ap (λ k. rounded k (10 ^ length f)) t
    ∙ exact n (10 ^ length f) (power_pos (length f)) in
    ap (min millionths.limit) e ∙ omega arith

-- the numeral that is printed
again : (m : Bool) (n k : ℕ) → k ≡ 6 → n ≤ millionths.limit →
    IsSpelled (minus_text m ++ (decimal (n / 1000000) ++ cond (nat_eq (n % 1000000) 0) [] (46 ∷ places_text k (n % 1000000)))) (signed m n)
again m n k is small =
    let below : n % 1000000 < 10 ^ k = rw is (omega arith) in
    let f = fraction_is k (n % 1000000) below in
    let d = decimal_is_IsNumeral (n / 1000000) (omega arith) in
    let p : ArePlaces 6 (n % 1000000) (fraction_digits (fraction_of k (n % 1000000))) =
    subst (λ j. ArePlaces j (n % 1000000) (fraction_digits (fraction_of k (n % 1000000)))) is f.1 in (
      record { minus = m; whole = decimal (n / 1000000); fraction = fraction_of k (n % 1000000); exponent = None },
      record {
        whole = digits-from (decimal (n / 1000000)) d.0.1;
        fraction = p.digits;
        some = omega (arith, length-append (decimal (n / 1000000)) (fraction_digits (fraction_of k (n % 1000000))), d.0.0);
        exponent = tt;
      },
      ap (λ t. minus_text m ++ (decimal (n / 1000000) ++ t)) f.0 ∙ sym (append-nil _ ∙ append_assoc (minus_text m) (decimal (n / 1000000)) (fraction_text (fraction_of k (n % 1000000)))),
      ap (signed m) (sym (worth_of n (decimal (n / 1000000)) (fraction_digits (fraction_of k (n % 1000000))) small d.1 p)),
    )

pub printed_spelled : (z : ℤ) → IsInRange millionths z → IsSpelled (printed z) z
printed_spelled (pos n) h = again false n 6 refl (omega (arith, ints, h.1))
printed_spelled (negsuc n) h = again true (suc n) 6 refl (omega (arith, ints, h.0))

pub number_at-printed : (z : ℤ) → IsInRange millionths z → number_at (printed z) ≡ Some z
number_at-printed z h =
    let s = printed_spelled z h in
    ap number_at s.2 ∙ number_at-spelling s.0 s.1 ∙ ap Some (sym s.3)
