-- Numbers as they are read.
use Rattle.std.proofs.Common.{◌≡◌, ◌≢◌, IfSome, IfNone, ◌<◌, ◌≤◌, ◌^◌, ℕ, ◌==◌, ◌&&◌, ◌||◌, List, [], ◌∷◌, length, drop, Bool, true, false, Option, Some, None, Result, Ok, Err, refl, sym, ap, ◌∙◌, subst, cond, arith, nat_lt, slice_index, option_map, if◌then◌else◌, eqb}
use Rattle.std.specs.List.{list_all}
use Rattle.std.specs.Char.{digit_value, is_ascii_digit}
use Rattle.std.specs.Result.{OkIff, result_ok}
use Rattle.std.specs.Str.Parse.{AllDigits, IsNumeral, ParsesUnsigned, digits_value, without_leading_plus}
use Rattle.std.proofs.lemmas.Bool.{lt-ltb, ltb-true, eq-eqb}
use Rattle.std.proofs.lemmas.Bool.Decides.{nat_tests}
use Rattle.pd_clock.specs.Rates.{samples}
use Rattle.pd_clock.specs.declared.times.Rate.{Rate}
use Rattle.pd_clock.specs.declared.times.Rate.TheVariants.{R44100, R48000, R88200, R96000}
use Rattle.pd_words.specs.Grammar.{Text, is_number, is_rate, number_where}
use Rattle.pd_words.proofs.FormLemmas.{by_test}

digit-below : (c : ℕ) → is_ascii_digit c ≡ true → digit_value c < 10
digit-below c h = grind (arith, nat_tests)

digit-no_plus : (c : ℕ) → is_ascii_digit c ≡ true → (c == 43) ≡ false
digit-no_plus c h = grind (arith, nat_tests)

both-first : (a b : Bool) → (a && b) ≡ true → a ≡ true
both-first true b e = refl
both-first false b e = e

both-second : (a b : Bool) → (a && b) ≡ true → b ≡ true
both-second true b e = e
both-second false b e = cc

all-digits : (bs : Text) → list_all is_ascii_digit bs ≡ true → AllDigits 10 bs
all-digits [] h = tt
all-digits (c ∷ bs) h = (
  digit-below c (both-first (is_ascii_digit c) (list_all is_ascii_digit bs) h),
  all-digits bs (both-second (is_ascii_digit c) (list_all is_ascii_digit bs) h),
)

numeral : (bs : Text) → is_number bs ≡ true → IsNumeral 10 bs
numeral [] h = cc
numeral (c ∷ bs) h = (omega arith, all-digits (c ∷ bs) h)

no-plus : (bs : Text) → is_number bs ≡ true → without_leading_plus bs ≡ bs
no-plus [] h = cc
no-plus (c ∷ bs) h =
    let digit : is_ascii_digit c ≡ true = both-first (is_ascii_digit c) (list_all is_ascii_digit bs) h in
    ap (λ x. drop (cond x 1 0) (c ∷ bs)) (digit-no_plus c digit)

-- digits are read as their number, where it isn't too great
pub number-read : {E : Type 0} (bs : Text) (r : Result ℕ E) → is_number bs ≡ true → ParsesUnsigned 32 10 bs r → result_ok r ≡ number_where (λ n. nat_lt n (2 ^ 32)) bs
number-read {E} bs r digits h = go r (subst (λ t. OkIff r (IsNumeral 10 t × (digits_value 10 t < 2 ^ 32)) (digits_value 10 t)) (no-plus bs digits) h)
  where
    go : (r : Result ℕ E) → OkIff r (IsNumeral 10 bs × (digits_value 10 bs < 2 ^ 32)) (digits_value 10 bs) → result_ok r ≡ number_where (λ n. nat_lt n (2 ^ 32)) bs
    go (Ok x) h = rw (digits, lt-ltb (digits_value 10 bs) (2 ^ 32) h.0.1) (ap Some h.1)
    go (Err e) h =
        by_test (nat_lt (digits_value 10 bs) (2 ^ 32))
        (λ less. absurd (h (numeral bs digits, ltb-true (digits_value 10 bs) (2 ^ 32) less)))
        (λ more. rw (digits, more) refl)

rate-known : (rate : Rate) → is_rate (samples rate) ≡ true
rate-known R44100 = refl
rate-known R48000 = refl
rate-known R88200 = refl
rate-known R96000 = refl

rate-unknown : (n : ℕ) → ((rate : Rate) → samples rate ≢ n) → is_rate n ≡ false
rate-unknown n h =
    by_test (is_rate n)
    (λ known. absurd (go known))
    (λ unknown. unknown)
  where
    go : is_rate n ≡ true → ⊥
    go known =
        let a = h R44100 in
        let b = h R48000 in
        let d = h R88200 in
        let e = h R96000 in
        grind (arith, nat_tests)

number-is : (test : ℕ → Bool) (bs : Text) (n : ℕ) → Some n ≡ number_where test bs → (is_number bs ≡ true) × (digits_value 10 bs ≡ n)
number-is test bs n e =
    by_test (is_number bs && test (digits_value 10 bs))
    (λ both.
    let some : Some n ≡ Some (digits_value 10 bs) = rw both at e in
    (both-first (is_number bs) (test (digits_value 10 bs)) both, cc))
    (λ neither. let never : Some n ≡ None = rw neither at e in cc)

pub rate-read : (test : ℕ → Bool) (bs : Text) (n : ℕ) (r : Option Rate) → Some n ≡ number_where test bs
    → IfSome r (λ rate. samples rate ≡ n) → IfNone r ((rate : Rate) → samples rate ≢ n)
    → option_map samples r ≡ number_where is_rate bs
rate-read test bs n (Some rate) e known unknown =
    let is = number-is test bs n e in
    let same : samples rate ≡ n = known in
    let yes : is_rate (digits_value 10 bs) ≡ true = ap is_rate (is.1 ∙ sym same) ∙ rate-known rate in
    rw (is.0, yes) (ap Some (same ∙ sym is.1))
rate-read test bs n None e known unknown =
    let is = number-is test bs n e in
    let no : is_rate (digits_value 10 bs) ≡ false = ap is_rate is.1 ∙ rate-unknown n unknown in
    rw (is.0, no) refl
