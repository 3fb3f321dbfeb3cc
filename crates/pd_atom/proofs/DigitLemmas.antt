-- Short lists of digits, and the digits at a list's front.
use Rattle.std.proofs.Common.{◌≡◌, ℕ, zero, suc, nat_lt, nat_le, ◌≢◌, ◌+◌, ◌-◌, ◌*◌, ◌^◌, ◌<◌, ◌≤◌, Bool, true, false, ◌&&◌, List, [], ◌∷◌, length, get_or, take, drop, refl, sym, ap, ◌∙◌, arith, true≢false}
use Rattle.std.specs.Char.{is_ascii_digit, digit_value}
use Rattle.std.specs.List.{list_all, prefix_len}
use Rattle.std.specs.Str.Parse.{digits_value, AllDigits}
use Rattle.std.proofs.Math.Nat.{pow-le-pow_right}
use Rattle.std.proofs.lemmas.Bool.Decides.{nat_tests}
use Rattle.std.proofs.lemmas.List.{take_more, length-take}
use Rattle.std.proofs.lemmas.List.Sums.{prefix_len-drop_all, prefix_len-drop_no, prefix_len-drop_yes}
use Rattle.std.proofs.lemmas.Int.Digits.{digits_value-lt, digits_value_push}
use Rattle.pd_atom.specs.Tokens.{are_few_digits}

pub digit_range : (b : ℕ) → is_ascii_digit b ≡ true → (48 ≤ b) × (b < 58) × (digit_value b ≡ b - 48)
digit_range b h = (grind (arith, nat_tests), grind (arith, nat_tests), grind (arith, nat_tests))

-- both parts of a test
pub and_left : (a b : Bool) → (a && b) ≡ true → a ≡ true
and_left true b h = refl
and_left false b h = h

pub and_right : (a b : Bool) → (a && b) ≡ true → b ≡ true
and_right true b h = h
and_right false b h = absurd (true≢false (sym h))

pub digit_all : (ds : List ℕ) → list_all is_ascii_digit ds ≡ true → (i : ℕ) → i < length ds → is_ascii_digit (get_or ds i 0) ≡ true
digit_all [] h i low = absurd (omega (arith, low))
digit_all (d ∷ ds) h zero low = and_left (is_ascii_digit d) (list_all is_ascii_digit ds) h
digit_all (d ∷ ds) h (suc i) low = digit_all ds (and_right (is_ascii_digit d) (list_all is_ascii_digit ds) h) i (omega (arith, low))

pub all_digits : (ds : List ℕ) → list_all is_ascii_digit ds ≡ true → AllDigits 10 ds
all_digits [] h = tt
all_digits (d ∷ ds) h =
    let r = digit_range d (and_left (is_ascii_digit d) (list_all is_ascii_digit ds) h) in
    (omega (arith, r.0, r.1, r.2), all_digits ds (and_right (is_ascii_digit d) (list_all is_ascii_digit ds) h))

pub digits-take : (ds : List ℕ) (i : ℕ) → list_all is_ascii_digit ds ≡ true → list_all is_ascii_digit (take i ds) ≡ true
digits-take ds zero h = refl
digits-take [] (suc i) h = refl
digits-take (d ∷ ds) (suc i) h =
    ap (λ b. b && list_all is_ascii_digit (take i ds)) (and_left (is_ascii_digit d) (list_all is_ascii_digit ds) h)
    ∙ digits-take ds i (and_right (is_ascii_digit d) (list_all is_ascii_digit ds) h)

-- k digits at most have a number below 10 ^ k
pub few_value : (ds : List ℕ) (k : ℕ) → list_all is_ascii_digit ds ≡ true → length ds ≤ k → digits_value 10 ds < 10 ^ k
few_value ds k h few =
    let below = digits_value-lt 10 ds (all_digits ds h) in
    let more : 10 ^ length ds ≤ 10 ^ k = pow-le-pow_right (omega arith) few in
    omega (arith, below, more)

pub value_more : (ds : List ℕ) (i : ℕ) → list_all is_ascii_digit ds ≡ true → i < length ds → digits_value 10 (take (i + 1) ds) ≡ digits_value 10 (take i ds) * 10 + (get_or ds i 0 - 48)
value_more ds i h low =
    ap (digits_value 10) (take_more ds i 0 low) ∙ digits_value_push 10 (take i ds) (get_or ds i 0)
    ∙ ap (λ v. digits_value 10 (take i ds) * 10 + v) (digit_range (get_or ds i 0) (digit_all ds h i low)).2

pub value_taken : (ds : List ℕ) (i k : ℕ) → list_all is_ascii_digit ds ≡ true → i ≤ k → digits_value 10 (take i ds) < 10 ^ k
value_taken ds i k h low = few_value (take i ds) k (digits-take ds i h) (taken ds i k low)
  where
    taken : (xs : List ℕ) (i k : ℕ) → i ≤ k → length (take i xs) ≤ k
    taken xs i k low = omega (arith, low, length-take i xs)

-- how many digits come first
pub digits_one : (s : List ℕ) (i : ℕ) → i < length s → is_ascii_digit (get_or s i 0) ≡ true → prefix_len is_ascii_digit (drop i s) ≡ 1 + prefix_len is_ascii_digit (drop (i + 1) s)
digits_one s i h b = prefix_len-drop_yes is_ascii_digit s i 0 h b

pub digits_none : (s : List ℕ) (i : ℕ) → i < length s → is_ascii_digit (get_or s i 0) ≡ false → prefix_len is_ascii_digit (drop i s) ≡ 0
digits_none s i h b = prefix_len-drop_no is_ascii_digit s i 0 h b

pub digits_end : (s : List ℕ) (i : ℕ) → length s ≤ i → prefix_len is_ascii_digit (drop i s) ≡ 0
digits_end s i h = prefix_len-drop_all is_ascii_digit s i h

pub ruleset digit_steps = (digits_one, digits_none, digits_end)

pub less : (m n : ℕ) → m < n → nat_lt m n ≡ true
less m n h = grind (arith, nat_tests)

pub not_less : (m n : ℕ) → n ≤ m → nat_lt m n ≡ false
not_less m n h = grind (arith, nat_tests)

pub most_ : (m n : ℕ) → m ≤ n → nat_le m n ≡ true
most_ m n h = grind (arith, nat_tests)

pub not_most : (m n : ℕ) → n < m → nat_le m n ≡ false
not_most m n h = grind (arith, nat_tests)

-- from one to four digits, by the length
pub few_none : (ds : List ℕ) → length ds ≡ 0 → are_few_digits ds ≡ false
few_none ds h = ap (λ b. list_all is_ascii_digit ds && b && nat_le (length ds) 4) (not_less 0 (length ds) (omega (arith, h))) ∙ nothing (list_all is_ascii_digit ds) (nat_le (length ds) 4)
  where
    nothing : (a b : Bool) → (a && false && b) ≡ false
    nothing true b = refl
    nothing false b = refl

pub few_many : (ds : List ℕ) → 4 < length ds → are_few_digits ds ≡ false
few_many ds h = ap (λ b. list_all is_ascii_digit ds && nat_lt 0 (length ds) && b) (not_most (length ds) 4 h) ∙ nothing (list_all is_ascii_digit ds && nat_lt 0 (length ds))
  where
    nothing : (a : Bool) → (a && false) ≡ false
    nothing true = refl
    nothing false = refl

pub few_all : (ds : List ℕ) → length ds ≢ 0 → length ds ≤ 4 → are_few_digits ds ≡ list_all is_ascii_digit ds
few_all ds some few =
    ap (λ b. list_all is_ascii_digit ds && b && nat_le (length ds) 4) (less 0 (length ds) (omega (arith, some)))
    ∙ ap (λ b. list_all is_ascii_digit ds && true && b) (most_ (length ds) 4 few) ∙ both (list_all is_ascii_digit ds)
  where
    both : (a : Bool) → (a && true && true) ≡ a
    both true = refl
    both false = refl

pub ruleset few_steps = (few_none, few_many, few_all)
