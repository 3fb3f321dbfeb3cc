-- What tokens and spellings read as.
use Rattle.std.proofs.Common.{◌⊎◌, inl, inr, ◌≡◌, ◌≢◌, ℕ, zero, suc, ◌+◌, ◌/◌, ◌%◌, ◌^◌, length-append, ◌<◌, ◌≤◌, ℤ, pos, negsuc, Bool, true, false, cond, ◌&&◌, ◌==◌, eqb, List, [], ◌∷◌, length, Option, Some, None, option_map, is_some, IfSome, decimal, refl, sym, ap, ◌∙◌, subst, arith, rules, true≢false, nat_lt, nat_le}
use Rattle.std.specs.Char.{is_ascii_digit, digit_value}
use Rattle.std.specs.List.{list_all}
use Rattle.std.specs.Str.Parse.{digits_value, AllDigits}
use Rattle.std.proofs.lemmas.Bool.Decides.{nat_tests}
use Rattle.std.proofs.lemmas.Fmt.{length-decimal-le, decimal_nonempty, digits_decimal, digits_value-decimal}
use Rattle.std.proofs.lemmas.Str.Parse.{IsNumeralModel}
use Rattle.pd_num.specs.Numeral.{signed}
use Rattle.pd_num.specs.Printing.{printed, places_text, point_text, magnitude_text}
use Rattle.pd_num.specs.Reading.{number_at, numeral_at, exponent_at, IsSpelled}
use Rattle.pd_num.specs.Scale.{millionths, IsInRange}
use Rattle.pd_num.proofs.PrintLemmas.{number_at-printed}
use Rattle.pd_num.proofs.ReadLemmas.{number_found}
use Rattle.pd_atom.specs.Names.{Names, name_of, IsTable, given, outcome_map, interned}
use Rattle.pd_atom.specs.Atoms.{IsOf, spelled, HoldsNumber}
use Rattle.pd_atom.specs.Tokens.{is_mark, are_few_digits, dollar_at, has_argument, or_else, nameless, named, read_with, atom_read, settled, answer_or, IsSettled}
use Rattle.pd_atom.specs.declared.Atom.{Atom}
use Rattle.pd_atom.specs.declared.Atom.TheVariants.{Number, Symbol, Dollar, DollarSymbol, Comma, Semi}
use Rattle.pd_atom.proofs.CaseLemmas.{by_test, eqb-true}
use Rattle.pd_atom.proofs.NameLemmas.{position_at, interned_found, some_same}
use Rattle.pd_atom.proofs.DigitLemmas.{few_all, few_value, and_left, and_right}

-- by cases of an option
pub by_option : {A : Type 0} {P : Type 0} → (o : Option A) → (o ≡ None → P) → ((x : A) → o ≡ Some x → P) → P
by_option None none some = none refl
by_option (Some x) none some = some x refl

pub none_not_some : {A : Type 0} (x : A) → None ≡ Some x → ⊥
none_not_some x e = true≢false (sym (ap is_some e))

pub atom_read_some : (names : Names) (token : List ℕ) (a : Atom) → nameless token ≡ Some a → atom_read names token ≡ given a names
unfolding atom_read
atom_read_some names token a e = ap (read_with names token) e

pub atom_read_none : (names : Names) (token : List ℕ) → nameless token ≡ None → atom_read names token ≡ outcome_map (named token) (interned names token)
unfolding atom_read
atom_read_none names token e = ap (read_with names token) e

pub nameless_is : (token : List ℕ) → nameless token ≡ cond (is_mark 44 token) (Some Comma) (cond (is_mark 59 token) (Some Semi)
    (or_else (option_map (λ z. Number z) (number_at token)) (option_map (λ n. Dollar n) (dollar_at token))))
unfolding nameless
nameless_is token = refl

pub mark_is : (m : ℕ) (bs : List ℕ) → is_mark m bs ≡ true → bs ≡ m ∷ []
mark_is m [] h = absurd (true≢false (sym h))
mark_is m (b ∷ []) h = ap (λ x. x ∷ []) (eqb-true b m (and_left (eqb b m) (eqb (length {A = ℕ} []) 0) h))
mark_is m (b ∷ c ∷ cs) h = absurd (more (length cs) (eqb-true (suc (length cs)) 0 (and_right (eqb b m) (eqb (suc (length cs)) 0) h)))
  where
    more : (n : ℕ) → suc n ≡ 0 → ⊥
    more n e = omega (arith, e)

pub nameless_comma : nameless (44 ∷ []) ≡ Some Comma
unfolding nameless
nameless_comma = refl

pub nameless_semi : nameless (59 ∷ []) ≡ Some Semi
unfolding nameless
nameless_semi = refl

number_comma : number_at (44 ∷ []) ≡ None
unfolding number_at numeral_at exponent_at
number_comma = refl

number_semi : number_at (59 ∷ []) ≡ None
unfolding number_at numeral_at exponent_at
number_semi = refl

number_dollar : (ds : List ℕ) → number_at (36 ∷ ds) ≡ None
unfolding number_at numeral_at exponent_at
number_dollar ds = refl

not_mark : (m : ℕ) (bs : List ℕ) (z : ℤ) → number_at (m ∷ []) ≡ None → number_at bs ≡ Some z → is_mark m bs ≡ false
not_mark m bs z none some = by_test (is_mark m bs)
    (λ e. absurd (none_not_some z (sym none ∙ ap number_at (sym (mark_is m bs e)) ∙ some)))
    (λ e. e)

pub nameless_number : (bs : List ℕ) (z : ℤ) → number_at bs ≡ Some z → nameless bs ≡ Some (Number z)
nameless_number bs z h =
    nameless_is bs
    ∙ ap (λ b. cond b (Some Comma) (cond (is_mark 59 bs) (Some Semi) (or_else (option_map (λ y. Number y) (number_at bs)) (option_map (λ n. Dollar n) (dollar_at bs))))) (not_mark 44 bs z number_comma h)
    ∙ ap (λ b. cond b (Some Semi) (or_else (option_map (λ y. Number y) (number_at bs)) (option_map (λ n. Dollar n) (dollar_at bs)))) (not_mark 59 bs z number_semi h)
    ∙ ap (λ o. or_else (option_map (λ y. Number y) o) (option_map (λ n. Dollar n) (dollar_at bs))) h

own_numerals : IsNumeralModel (AllDigits 10) (digits_value 10)
own_numerals = record { to = λ ds d. d; from = λ ds d. d; same = λ ds d. refl }

is_digit : (b : ℕ) → digit_value b < 10 → is_ascii_digit b ≡ true
is_digit b h = grind (arith, nat_tests)

all_ascii : (ds : List ℕ) → AllDigits 10 ds → list_all is_ascii_digit ds ≡ true
all_ascii [] h = refl
all_ascii (d ∷ ds) h = ap (λ b. b && list_all is_ascii_digit ds) (is_digit d h.0) ∙ all_ascii ds h.1

pub nameless_dollar : (n : ℕ) → n ≤ 9999 → nameless (36 ∷ decimal n) ≡ Some (Dollar n)
nameless_dollar n h =
    let ds = decimal n in
    let small : n < 2 ^ 64 = omega (arith, h) in
    let some : length ds ≢ 0 = more_than_none (length ds) (decimal_nonempty n small) in
    let few : length ds ≤ 4 = length-decimal-le 4 n (omega arith) (omega (arith, h)) small in
    let all : are_few_digits ds ≡ true = few_all ds some few ∙ all_ascii ds (digits_decimal own_numerals n small) in
    nameless_is (36 ∷ ds)
    ∙ ap (λ o. or_else (option_map (λ z. Number z) o) (option_map (λ k. Dollar k) (dollar_at (36 ∷ ds)))) (number_dollar ds)
    ∙ ap (λ b. option_map (λ k. Dollar k) (cond b (Some (digits_value 10 ds)) None)) all
    ∙ ap (λ k. Some (Dollar k)) (digits_value-decimal own_numerals n small)
  where
    more_than_none : (n : ℕ) → 0 < n → n ≢ 0
    more_than_none n some e = omega (arith, some, e)

few_list : (ds : List ℕ) → are_few_digits ds ≡ true → list_all is_ascii_digit ds ≡ true
few_list ds h = and_left (list_all is_ascii_digit ds) (nat_lt 0 (length ds)) (and_left (list_all is_ascii_digit ds && nat_lt 0 (length ds)) (nat_le (length ds) 4) h)

le_from : (m n : ℕ) → nat_le m n ≡ true → m ≤ n
le_from m n h = grind (arith, nat_tests)

few_len : (ds : List ℕ) → are_few_digits ds ≡ true → length ds ≤ 4
few_len ds h = le_from (length ds) 4 (and_right (list_all is_ascii_digit ds && nat_lt 0 (length ds)) (nat_le (length ds) 4) h)

pub dollar_small : (token : List ℕ) (n : ℕ) → dollar_at token ≡ Some n → n ≤ 9999
dollar_small [] n h = absurd (none_not_some n h)
dollar_small (b ∷ ds) n h = by_test (b == 36 && are_few_digits ds)
    (λ e. let value = some_same (digits_value 10 ds) n (sym (ap (λ t. cond t (Some (digits_value 10 ds)) None) e) ∙ h) in
    let few = and_right (b == 36) (are_few_digits ds) e in
    let below = few_value ds 4 (few_list ds few) (few_len ds few) in
    omega (arith, value, below))
    (λ e. absurd (none_not_some n (sym (ap (λ t. cond t (Some (digits_value 10 ds)) None) e) ∙ h)))

signed_range : (minus : Bool) (n : ℕ) → n ≤ 1000000000000000 → IsInRange millionths (signed minus n)
signed_range true zero h = (search rules, search rules)
signed_range true (suc n) h = (search rules, search rules)
signed_range false n h = (search rules, search rules)

spelled_range : (bs : List ℕ) (z : ℤ) → IsSpelled bs z → IsInRange millionths z
spelled_range bs z h = subst (IsInRange millionths) (sym h.3) (signed_range _ _ (omega arith))

pub number_range : (bs : List ℕ) (z : ℤ) → number_at bs ≡ Some z → IsInRange millionths z
number_range bs z h = spelled_range bs z (subst (λ o. IfSome o (IsSpelled bs)) h (number_found bs))

-- an atom without a name is read again from its spelling
pub nameless_again : (names : Names) (token : List ℕ) (a : Atom) → nameless token ≡ Some a → nameless (spelled names a) ≡ Some a
nameless_again names token a h =
    let is = sym (nameless_is token) ∙ h in
    let again : (b : Atom) → Some b ≡ Some a → nameless (spelled names b) ≡ Some b → nameless (spelled names a) ≡ Some a =
    λ b e r. subst (λ x. nameless (spelled names x) ≡ Some x) (some_same b a e) r in
    by_test (is_mark 44 token)
    (λ e. again Comma (sym (ap (λ b. cond b (Some Comma) (rest token)) e) ∙ is) nameless_comma)
    (λ e. let is' = sym (ap (λ b. cond b (Some Comma) (rest token)) e) ∙ is in
    by_test (is_mark 59 token)
    (λ e'. again Semi (sym (ap (λ b. cond b (Some Semi) (last token)) e') ∙ is') nameless_semi)
    (λ e'. let is'' = sym (ap (λ b. cond b (Some Semi) (last token)) e') ∙ is' in
    by_option (number_at token)
    (λ none. let is3 = sym (ap (λ o. or_else (option_map (λ z. Number z) o) (option_map (λ n. Dollar n) (dollar_at token))) none) ∙ is'' in
    by_option (dollar_at token)
    (λ none'. absurd (none_not_some a (sym (ap (option_map (λ n. Dollar n)) none') ∙ is3)))
    (λ n some. again (Dollar n) (sym (ap (option_map (λ k. Dollar k)) some) ∙ is3) (nameless_dollar n (dollar_small token n some))))
    (λ z some. again (Number z) (sym (ap (λ o. or_else (option_map (λ y. Number y) o) (option_map (λ n. Dollar n) (dollar_at token))) some) ∙ is'')
    (nameless_number (printed z) z (number_at-printed z (number_range token z some))))))
  where
    last : List ℕ → Option Atom
    last token = or_else (option_map (λ z. Number z) (number_at token)) (option_map (λ n. Dollar n) (dollar_at token))

    rest : List ℕ → Option Atom
    rest token = cond (is_mark 59 token) (Some Semi) (last token)

pub settled_nameless : (names : Names) (token : List ℕ) (a : Atom) → nameless token ≡ Some a → IsSettled names a
settled_nameless names token a h = atom_read_some names (spelled names a) a (nameless_again names token a h)

-- a name of the table is found
pub interned_again : (names : Names) (s : ℕ) → IsTable names → s < length names → interned names (name_of names s) ≡ given s names
interned_again names s h low = interned_found names (name_of names s) s (h.short s low).1 (position_at names (name_of names s) s h.distinct low refl)

pub spelled_named : (names : Names) (token : List ℕ) (s : ℕ) → spelled names (named token s) ≡ name_of names s
spelled_named names token s = by_test (has_argument token)
    (λ e. ap (λ b. spelled names (cond b (DollarSymbol s) (Symbol s))) e)
    (λ e. ap (λ b. spelled names (cond b (DollarSymbol s) (Symbol s))) e)

pub of_named : (names : Names) (token : List ℕ) (s : ℕ) → s < length names → IsOf names (named token s)
of_named names token s h = by_test (has_argument token)
    (λ e. subst (λ b. IsOf names (cond b (DollarSymbol s) (Symbol s))) (sym e) h)
    (λ e. subst (λ b. IsOf names (cond b (DollarSymbol s) (Symbol s))) (sym e) h)

pub of_any : (names : Names) (a : Atom) → IsOf [] a → IsOf names a
of_any names (Number z) h = tt
of_any names (Symbol s) h = absurd (omega (arith, h))
of_any names (Dollar n) h = h
of_any names (DollarSymbol s) h = absurd (omega (arith, h))
of_any names Comma h = tt
of_any names Semi h = tt

-- reading a name of the table
pub name_read : (names : Names) (s : ℕ) → IsTable names → s < length names → nameless (name_of names s) ≡ None → atom_read names (name_of names s) ≡ given (named (name_of names s) s) names
name_read names s h low none = atom_read_none names (name_of names s) none ∙ ap (outcome_map (named (name_of names s))) (interned_again names s h low)

pub settled_named : (names : Names) (s : ℕ) → IsTable names → s < length names → nameless (name_of names s) ≡ None → IsSettled names (named (name_of names s) s)
settled_named names s h low none = ap (atom_read names) (spelled_named names (name_of names s) s) ∙ name_read names s h low none

pub settled_from : (names : Names) (a b : Atom) → atom_read names (spelled names a) ≡ given b names → settled names a ≡ b
unfolding settled
settled_from names a b h = ap (λ o. answer_or a o.answer) h

pub number_settled : (names : Names) (z : ℤ) → IsInRange millionths z → IsSettled names (Number z)
number_settled names z h = atom_read_some names (printed z) (Number z) (nameless_number (printed z) z (number_at-printed z h))

pub dollar_settled : (names : Names) (n : ℕ) → n ≤ 9999 → IsSettled names (Dollar n)
dollar_settled names n h = atom_read_some names (36 ∷ decimal n) (Dollar n) (nameless_dollar n h)

pub comma_settled : (names : Names) → IsSettled names Comma
comma_settled names = atom_read_some names (44 ∷ []) Comma nameless_comma

pub semi_settled : (names : Names) → IsSettled names Semi
semi_settled names = atom_read_some names (59 ∷ []) Semi nameless_semi

-- where an atom is known, reading its spelling gives what it gives of that
pub read_as : (names : Names) (a b c : Atom) → a ≡ b → atom_read names (spelled names b) ≡ given c names → atom_read names (spelled names a) ≡ given c names
read_as names a b c e h = ap (λ x. atom_read names (spelled names x)) e ∙ h

pub symbol_of : (names : Names) (a : Atom) (s : ℕ) → (a ≡ Symbol s) ⊎ (a ≡ DollarSymbol s) → IsOf names a → s < length names
symbol_of names a s e h = elim e [ inl p ↦ subst (IsOf names) p h | inr p ↦ subst (IsOf names) p h ]

places_len : (k r : ℕ) → length (places_text k r) ≤ k
places_len zero r = omega arith
places_len (suc k) r = by_test (eqb r 0)
    (λ e. omega (arith, ap (λ b. length (cond b [] ((48 + r / 10 ^ k) ∷ places_text k (r % 10 ^ k)))) e))
    (λ e. omega (arith, ap (λ b. length (cond b [] ((48 + r / 10 ^ k) ∷ places_text k (r % 10 ^ k)))) e, places_len k (r % 10 ^ k)))

point_len : (r : ℕ) → length (point_text r) ≤ 7
point_len r = by_test (eqb r 0)
    (λ e. omega (arith, ap (λ b. length (cond b [] (46 ∷ places_text 6 r))) e))
    (λ e. omega (arith, ap (λ b. length (cond b [] (46 ∷ places_text 6 r))) e, places_len 6 r))

magnitude_len : (n : ℕ) → n ≤ 1000000000000000 → (0 < length (magnitude_text n)) × (length (magnitude_text n) ≤ 17)
magnitude_len n h =
    let whole : n / 1000000 ≤ 1000000000 = omega (arith, h) in
    let len = length-append (decimal (n / 1000000)) (point_text (n % 1000000)) in
    let some = decimal_nonempty (n / 1000000) (omega (arith, whole)) in
    let few = length-decimal-le 10 (n / 1000000) (omega arith) (omega (arith, whole)) (omega (arith, whole)) in
    (omega (arith, len, some), omega (arith, len, few, point_len (n % 1000000)))

pos_small : (n : ℕ) → IsInRange millionths (pos n) → n ≤ 1000000000000000
pos_small n h = grind (arith, h.1)

neg_small : (n : ℕ) → IsInRange millionths (negsuc n) → suc n ≤ 1000000000000000
neg_small n h = grind (arith, h.0)

pub printed_len : (z : ℤ) → IsInRange millionths z → (0 < length (printed z)) × (length (printed z) ≤ 18)
printed_len (pos n) h = let l = magnitude_len n (pos_small n h) in (l.0, omega (arith, l.1))
printed_len (negsuc n) h = let l = magnitude_len (suc n) (neg_small n h) in (omega arith, omega (arith, l.1))

pub spelled_len : (names : Names) (a : Atom) → IsTable names → IsOf names a → HoldsNumber a → (0 < length (spelled names a)) × (length (spelled names a) ≤ 255)
spelled_len names (Number z) t h r = let l = printed_len z r in (l.0, omega (arith, l.1))
spelled_len names (Symbol s) t h r = t.short s h
spelled_len names (Dollar n) t h r = (omega arith, omega (arith, length-decimal-le 4 n (omega arith) (omega (arith, h)) (omega (arith, h))))
spelled_len names (DollarSymbol s) t h r = t.short s h
spelled_len names Comma t h r = (omega arith, omega arith)
spelled_len names Semi t h r = (omega arith, omega arith)
