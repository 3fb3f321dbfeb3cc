-- Reading finds a spelling, and each spelling is read.
use Rattle.std.proofs.Common.{◌≡◌, ◌≢◌, ℕ, ◌+◌, ◌<◌, Bool, true, false, cond, not, ◌&&◌, ◌||◌, List, [], ◌∷◌, ◌++◌, length, Option, Some, None, refl, sym, ap, ◌∙◌, subst, append_assoc, ◌⊎◌, inl, inr, arith, eqb}
use Rattle.std.proofs.lemmas.List.{append-nil}
use Rattle.std.proofs.lemmas.Bool.{and_parts, or_cases}
use Rattle.std.proofs.lemmas.Bool.Decides.{nat_tests}
use Rattle.std.proofs.lemmas.Option.{cond_some}
use Rattle.std.specs.Prelude.{ℤ, IfSome, min}
use Rattle.std.specs.Char.{is_ascii_digit}
use Rattle.pd_num.specs.Numeral.{AreDigits, Exponent, Numeral, fraction_digits, IsExponent, IsNumeral, minus_text, fraction_text, sign_text, exponent_text, spelling, places_right, places_left, magnitude_of, signed, value_of}
use Rattle.pd_num.specs.Reading.{digits_at, after_digits, is_empty, minus_at, after_minus, fraction_at, after_fraction, sign_at, after_sign, all_digits, exponent_at, numeral_with, numeral_at, number_at, IsSpelled}
use Rattle.std.specs.Option.{option_map}
use Rattle.pd_num.specs.Cut.{exponent_cut}
use Rattle.std.specs.Str.Parse.{digits_value}
use Rattle.pd_num.specs.declared.reading.TheConstants.{FAR}

-- which way a test went
pub chosen : {X : Type 0} {b : Bool} {x y z : X} → cond b x y ≡ z → ((b ≡ true) × (x ≡ z)) ⊎ ((b ≡ false) × (y ≡ z))
chosen {X} {b} {x} {y} {z} h =
    elim b as (λ v. cond v x y ≡ z → ((v ≡ true) × (x ≡ z)) ⊎ ((v ≡ false) × (y ≡ z))) [ true ↦ (λ e. inl (refl, e)) | false ↦ (λ e. inr (refl, e)) ] h

eqb-eq : (m n : ℕ) → eqb m n ≡ true → m ≡ n
eqb-eq m n h = grind (arith, nat_tests)

eqb-ne : (m n : ℕ) → m ≢ n → eqb m n ≡ false
eqb-ne m n h = grind (arith, nat_tests)

eqb-same : (n : ℕ) → eqb n n ≡ true
eqb-same n = grind (arith, nat_tests)

parted : (bs : List ℕ) → bs ≡ digits_at bs ++ after_digits bs
parted [] = refl
parted (b ∷ bs) =
    elim (is_ascii_digit b) as (λ v. b ∷ bs ≡ cond v (b ∷ digits_at bs) [] ++ cond v (after_digits bs) (b ∷ bs))
    [ true ↦ ap (λ xs. b ∷ xs) (parted bs) | false ↦ refl ]

pub digits_at_are : (bs : List ℕ) → AreDigits (digits_at bs)
digits_at_are [] = tt
digits_at_are (b ∷ bs) =
    let rest = digits_at_are bs in
    elim (is_ascii_digit b) as (λ v. is_ascii_digit b ≡ v → AreDigits (cond v (b ∷ digits_at bs) []))
    [ true ↦ (λ e. (e, rest)) | false ↦ (λ e. tt) ] refl

-- what doesn't begin with a digit
abbrev pub IsStop : List ℕ → Type 0
IsStop [] = Unit {0}
IsStop (b ∷ bs) = is_ascii_digit b ≡ false

digits_at-append : (ds bs : List ℕ) → AreDigits ds → IsStop bs → digits_at (ds ++ bs) ≡ ds
digits_at-append [] [] d s = refl
digits_at-append [] (b ∷ bs) d s = rw s refl
digits_at-append (x ∷ ds) bs d s = let e = d.0 in rw e (ap (λ xs. x ∷ xs) (digits_at-append ds bs d.1 s))

after_digits-append : (ds bs : List ℕ) → AreDigits ds → IsStop bs → after_digits (ds ++ bs) ≡ bs
after_digits-append [] [] d s = refl
after_digits-append [] (b ∷ bs) d s = rw s refl
after_digits-append (x ∷ ds) bs d s = let e = d.0 in rw e (after_digits-append ds bs d.1 s)

minus_is : (bs : List ℕ) → bs ≡ minus_text (minus_at bs) ++ after_minus bs
minus_is [] = refl
minus_is (b ∷ bs) =
    elim (eqb b 45) as (λ v. eqb b 45 ≡ v → b ∷ bs ≡ minus_text v ++ cond v bs (b ∷ bs))
    [ true ↦ (λ e. ap (λ x. x ∷ bs) (eqb-eq b 45 e)) | false ↦ (λ e. refl) ] refl

fraction_is : (bs : List ℕ) → bs ≡ fraction_text (fraction_at bs) ++ after_fraction bs
fraction_is [] = refl
fraction_is (b ∷ bs) =
    elim (eqb b 46) as (λ v. eqb b 46 ≡ v → b ∷ bs ≡ fraction_text (cond v (Some (digits_at bs)) None) ++ cond v (after_digits bs) (b ∷ bs))
    [ true ↦ (λ e. rw (eqb-eq b 46 e) (ap (λ xs. 46 ∷ xs) (parted bs))) | false ↦ (λ e. refl) ] refl

pub fraction_digits_are : (bs : List ℕ) → AreDigits (fraction_digits (fraction_at bs))
fraction_digits_are [] = tt
fraction_digits_are (b ∷ bs) =
    elim (eqb b 46) as (λ v. AreDigits (fraction_digits (cond v (Some (digits_at bs)) None))) [ true ↦ digits_at_are bs | false ↦ tt ]

sign_is : (bs : List ℕ) → bs ≡ sign_text (sign_at bs) ++ after_sign bs
sign_is [] = refl
sign_is (b ∷ bs) =
    elim (eqb b 45) as (λ v. eqb b 45 ≡ v → b ∷ bs ≡ sign_text (cond v (Some true) (cond (eqb b 43) (Some false) None)) ++ cond v bs (cond (eqb b 43) bs (b ∷ bs))) [
      | true ↦ (λ e. ap (λ x. x ∷ bs) (eqb-eq b 45 e))
      | false ↦ (λ e.
          elim (eqb b 43) as (λ v. eqb b 43 ≡ v → b ∷ bs ≡ sign_text (cond v (Some false) None) ++ cond v bs (b ∷ bs))
          [ true ↦ (λ e. ap (λ x. x ∷ bs) (eqb-eq b 43 e)) | false ↦ (λ e. refl) ] refl)
    ] refl

empty_is : (bs : List ℕ) → is_empty bs ≡ true → bs ≡ []
empty_is [] h = refl
empty_is (b ∷ bs) h = absurd (cc)

some_is : (bs : List ℕ) → is_empty bs ≡ false → 0 < length bs
some_is [] h = absurd (cc)
some_is (b ∷ bs) h = omega arith

is_some : (bs : List ℕ) → 0 < length bs → is_empty bs ≡ false
is_some [] h = absurd (omega arith)
is_some (b ∷ bs) h = refl

pub all_digits_are : (bs : List ℕ) → all_digits bs ≡ true → (0 < length bs) × AreDigits bs
all_digits_are [] h = absurd (cc)
all_digits_are (b ∷ bs) h =
    let e : after_digits (b ∷ bs) ≡ [] =
    empty_is (after_digits (b ∷ bs)) (and_parts (not (is_empty (digits_at (b ∷ bs)))) (is_empty (after_digits (b ∷ bs))) h).1 in
    let same : b ∷ bs ≡ digits_at (b ∷ bs) =
    parted (b ∷ bs) ∙ ap (λ xs. digits_at (b ∷ bs) ++ xs) e ∙ append-nil (digits_at (b ∷ bs)) in
    (omega arith, subst AreDigits (sym same) (digits_at_are (b ∷ bs)))

are_all_digits : (bs : List ℕ) → 0 < length bs → AreDigits bs → all_digits bs ≡ true
are_all_digits bs h d =
    let f : digits_at bs ≡ bs = ap digits_at (sym (append-nil bs)) ∙ digits_at-append bs [] d tt in
    let e : after_digits bs ≡ [] = ap after_digits (sym (append-nil bs)) ∙ after_digits-append bs [] d tt in
    rw (f, e, is_some bs h) refl

exponent_is : (bs : List ℕ) (e : Option Exponent) → exponent_at bs ≡ Some e → IsExponent e × (bs ≡ exponent_text e)
unfolding exponent_at
exponent_is [] None h = (tt, refl)
exponent_is [] (Some e) h = absurd (cc)
exponent_is (b ∷ bs) e h =
    let p = cond_some ((eqb b 101 || eqb b 69) && all_digits (after_sign bs)) (Some (record { letter = b; sign = sign_at bs; digits = after_sign bs })) e h in
    let both = and_parts (eqb b 101 || eqb b 69) (all_digits (after_sign bs)) p.0 in
    let digits = all_digits_are (after_sign bs) both.1 in
    subst (λ e. IsExponent e × (b ∷ bs ≡ exponent_text e)) p.1 (
      (
        elim (or_cases (eqb b 101) (eqb b 69) both.0) as (λ _. (b ≡ 101) ⊎ (b ≡ 69)) [ inl l ↦ inl (eqb-eq b 101 l) | inr r ↦ inr (eqb-eq b 69 r) ],
        digits.0,
        digits.1,
      ),
      ap (λ xs. b ∷ xs) (sign_is bs),
    )

-- a reading that finds a numeral
abbrev pub Found : List ℕ → Numeral → Type 0
Found bs n = IsNumeral n × (bs ≡ spelling n)

parts_found : (bs : List ℕ) (minus : Bool) (whole : List ℕ) (fraction : Option (List ℕ)) (e : Option (Option Exponent)) (n : Numeral) (rest : List ℕ) →
    AreDigits whole → AreDigits (fraction_digits fraction) → ((x : Option Exponent) → e ≡ Some x → IsExponent x × (rest ≡ exponent_text x)) →
    bs ≡ minus_text minus ++ (whole ++ (fraction_text fraction ++ rest)) →
    numeral_with minus whole fraction e ≡ Some n → Found bs n
parts_found bs minus whole fraction None n rest w f x same h = absurd (cc)
parts_found bs minus whole fraction (Some e) n rest w f x same h =
    elim (is_empty (whole ++ fraction_digits fraction)) as (λ v. is_empty (whole ++ fraction_digits fraction) ≡ v →
    cond v None (Some (record { minus = minus; whole = whole; fraction = fraction; exponent = e })) ≡ Some n → Found bs n) [
      | true ↦ (λ q k. absurd (cc))
      | false ↦ (λ q k.
          let is : record { minus = minus; whole = whole; fraction = fraction; exponent = e } ≡ n = cc in
          let ex = x e refl in
          subst (Found bs) is (
            record { whole = w; fraction = f; some = some_is _ q; exponent = ex.0 },
            same ∙ ap (λ r. minus_text minus ++ (whole ++ (fraction_text fraction ++ r))) ex.1 ∙ simp append_assoc,
          ))
    ] refl h

pub numeral_found : (bs : List ℕ) (n : Numeral) → numeral_at bs ≡ Some n → Found bs n
unfolding numeral_at
numeral_found bs n h =
    let rest = after_minus bs in
    let tail = after_digits (after_minus bs) in
    parts_found bs (minus_at bs) (digits_at (after_minus bs)) (fraction_at tail) (exponent_at (after_fraction tail)) n (after_fraction tail)
    (digits_at_are (after_minus bs)) (fraction_digits_are tail) (exponent_is (after_fraction tail))
    (minus_is bs ∙ ap (λ r. minus_text (minus_at bs) ++ r) (parted (after_minus bs) ∙ ap (λ r. digits_at (after_minus bs) ++ r) (fraction_is tail))) h

-- ---- each spelling is read

-- what doesn't begin with a minus
abbrev pub IsUnsigned : List ℕ → Type 0
IsUnsigned [] = Unit {0}
IsUnsigned (b ∷ bs) = eqb b 45 ≡ false

not_sign : (x c : ℕ) → is_ascii_digit x ≡ true → c < 48 → eqb x c ≡ false
not_sign x c h less = grind (arith, nat_tests)

minus_again : (m : Bool) (bs : List ℕ) → IsUnsigned bs → (minus_at (minus_text m ++ bs) ≡ m) × (after_minus (minus_text m ++ bs) ≡ bs)
minus_again true bs h = (refl, refl)
minus_again false [] h = (refl, refl)
minus_again false (b ∷ bs) h = (h, rw h refl)

sign_again : (s : Option Bool) (ds : List ℕ) → 0 < length ds → AreDigits ds → (sign_at (sign_text s ++ ds) ≡ s) × (after_sign (sign_text s ++ ds) ≡ ds)
sign_again None [] some d = (refl, refl)
sign_again None (x ∷ ds) some d =
    let e : eqb x 45 ≡ false = not_sign x 45 d.0 (omega arith) in
    let f : eqb x 43 ≡ false = not_sign x 43 d.0 (omega arith) in
    (rw (e, f) refl, rw (e, f) refl)
sign_again (Some true) ds some d = (refl, refl)
sign_again (Some false) ds some d = (refl, refl)

stop_exponent : (e : Option Exponent) → IsExponent e → IsStop (exponent_text e)
stop_exponent None h = tt
stop_exponent (Some e) h = elim h.0 as (λ _. is_ascii_digit e.letter ≡ false) [ inl l ↦ rw l refl | inr r ↦ rw r refl ]

exponent_again : (e : Option Exponent) → IsExponent e → exponent_at (exponent_text e) ≡ Some e
unfolding exponent_at
exponent_again None h = refl
exponent_again (Some e) h =
    let s = sign_again e.sign e.digits h.1 h.2 in
    let s0 = s.0 in
    let s1 = s.1 in
    let l : (eqb e.letter 101 || eqb e.letter 69) ≡ true =
    elim h.0 as (λ _. (eqb e.letter 101 || eqb e.letter 69) ≡ true) [ inl l ↦ rw l refl | inr r ↦ rw r refl ] in
    let d = are_all_digits e.digits h.1 h.2 in
    rw (l, s0, s1, d) refl

fraction_again : (f : Option (List ℕ)) (e : Option Exponent) → AreDigits (fraction_digits f) → IsExponent e →
    (fraction_at (fraction_text f ++ exponent_text e) ≡ f) × (after_fraction (fraction_text f ++ exponent_text e) ≡ exponent_text e)
fraction_again None None d h = (refl, refl)
fraction_again None (Some e) d h =
    let p : eqb e.letter 46 ≡ false = elim h.0 as (λ _. eqb e.letter 46 ≡ false) [ inl l ↦ rw l refl | inr r ↦ rw r refl ] in
    (rw p refl, rw p refl)
fraction_again (Some ds) e d h =
    (ap Some (digits_at-append ds (exponent_text e) d (stop_exponent e h)), after_digits-append ds (exponent_text e) d (stop_exponent e h))

stop_fraction : (f : Option (List ℕ)) (e : Option Exponent) → IsExponent e → IsStop (fraction_text f ++ exponent_text e)
stop_fraction None e h = stop_exponent e h
stop_fraction (Some ds) e h = refl

unsigned_rest : (ds : List ℕ) (f : Option (List ℕ)) (e : Option Exponent) → AreDigits ds → 0 < length (ds ++ fraction_digits f) →
    IsUnsigned (ds ++ (fraction_text f ++ exponent_text e))
unsigned_rest [] None e d h = absurd (omega arith)
unsigned_rest [] (Some fs) e d h = refl
unsigned_rest (x ∷ ds) f e d h = not_sign x 45 d.0 (omega arith)

pub spelling_read : (n : Numeral) → IsNumeral n → numeral_at (spelling n) ≡ Some n
unfolding numeral_at
spelling_read n is =
    let rest = fraction_text n.fraction ++ exponent_text n.exponent in
    let grouped : spelling n ≡ minus_text n.minus ++ (n.whole ++ rest) = simp append_assoc in
    let m = minus_again n.minus (n.whole ++ rest) (unsigned_rest n.whole n.fraction n.exponent is.whole is.some) in
    let m0 = m.0 in let m1 = m.1 in
    let w = digits_at-append n.whole rest is.whole (stop_fraction n.fraction n.exponent is.exponent) in
    let b = after_digits-append n.whole rest is.whole (stop_fraction n.fraction n.exponent is.exponent) in
    let f = fraction_again n.fraction n.exponent is.fraction is.exponent in
    let f0 = f.0 in let f1 = f.1 in
    let e = exponent_again n.exponent is.exponent in
    let s = is_some _ is.some in
    rw (grouped, m0, m1, w, b, f0, f1, e, s) refl

-- ---- the value of what is read

valued_exponent : (e : Option Exponent) (ds : List ℕ) (f : ℕ) (count : ℕ) →
    ((p : ℕ) → (exponent_cut e).1 ≡ min p FAR →
    count ≡ magnitude_of ds f (cond (exponent_cut e).0 0 p) (cond (exponent_cut e).0 p 0)) →
    count ≡ magnitude_of ds f (places_right e) (places_left e)
valued_exponent None ds f count h = h 0 refl
valued_exponent (Some e) ds f count h = h (digits_value 10 e.digits) refl

pub parse_is : (x : Option (Option Exponent)) (minus : Bool) (whole : List ℕ) (fraction : Option (List ℕ)) (left : Bool) (power : ℕ) (count : ℕ) →
    Some (left, power) ≡ option_map exponent_cut x → is_empty (whole ++ fraction_digits fraction) ≡ false →
    ((p : ℕ) → power ≡ min p FAR →
    count ≡ magnitude_of (whole ++ fraction_digits fraction) (length (fraction_digits fraction)) (cond left 0 p) (cond left p 0)) →
    Some (signed minus count) ≡ option_map value_of (numeral_with minus whole fraction x)
parse_is None minus whole fraction left power count same some h = absurd (cc)
parse_is (Some e) minus whole fraction left power count same some h =
    let seen : (left, power) ≡ exponent_cut e = cc in
    let F : Bool × ℕ → Type 0 = λ s. (p : ℕ) → s.1 ≡ min p FAR →
    count ≡ magnitude_of (whole ++ fraction_digits fraction) (length (fraction_digits fraction)) (cond s.0 0 p) (cond s.0 p 0) in
    let c = valued_exponent e (whole ++ fraction_digits fraction) (length (fraction_digits fraction)) count (subst F seen h) in
    rw (some, c) refl

pub some_from_lengths : (w f : List ℕ) → length w + length f ≢ 0 → is_empty (w ++ f) ≡ false
some_from_lengths [] [] h = absurd (h (omega arith))
some_from_lengths [] (y ∷ f) h = refl
some_from_lengths (x ∷ w) f h = refl

pub none_from_lengths : (w f : List ℕ) → length w + length f ≡ 0 → is_empty (w ++ f) ≡ true
none_from_lengths [] [] h = refl
none_from_lengths [] (y ∷ f) h = absurd (omega arith)
none_from_lengths (x ∷ w) f h = absurd (omega arith)

pub number_found : (bs : List ℕ) → IfSome (number_at bs) (IsSpelled bs)
unfolding number_at
number_found bs =
    elim (numeral_at bs) as (λ q. numeral_at bs ≡ q → IfSome (option_map value_of q) (IsSpelled bs))
    [ None ↦ (λ e. tt) | Some n ↦ (λ e. let f = numeral_found bs n e in (n, f.0, f.1, refl)) ] refl

pub number_at-spelling : (n : Numeral) → IsNumeral n → number_at (spelling n) ≡ Some (value_of n)
unfolding number_at
number_at-spelling n is = ap (option_map value_of) (spelling_read n is)

pub read_found : (bs : List ℕ) (r : Option ℤ) → r ≡ number_at bs → IfSome r (IsSpelled bs)
read_found bs r h = subst (λ r. IfSome r (IsSpelled bs)) (sym h) (number_found bs)

pub read_only : (bs : List ℕ) (r : Option ℤ) → r ≡ number_at bs → (n : Numeral) → IsNumeral n → bs ≡ spelling n → r ≡ Some (value_of n)
read_only bs r h n is e = h ∙ ap number_at e ∙ number_at-spelling n is
