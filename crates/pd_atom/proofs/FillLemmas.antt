-- Names that are filled piece by piece.
use Rattle.std.proofs.Common.{◌≡◌, ◌≢◌, ℕ, ◌==◌, slice_get, All, nat_lt, nat_le, take_while, Option, Some, None, zero, suc, ◌+◌, ◌<◌, ◌≤◌, min, true, false, cond, ◌&&◌, List, [], ◌∷◌, ◌++◌, length, take, drop, refl, sym, ap, ◌∙◌, subst, arith, append_assoc}
use Rattle.std.proofs.Math.Seq.{take-append-add}
use Rattle.std.proofs.lemmas.List.{take_min, take_all, take-append-le, length-take-le}
use Rattle.std.proofs.lemmas.List.Sums.{prefix_len-le-length}
use Rattle.std.proofs.lemmas.Bool.Decides.{nat_tests}
use Rattle.std.proofs.lemmas.Option.{get_or_from_slice_get, slice_get_past}
use Rattle.std.specs.Char.{is_ascii_digit}
use Rattle.std.specs.List.{prefix_len, list_all}
use Rattle.std.specs.Str.Parse.{digits_value}
use Rattle.pd_atom.specs.Names.{Names, name_of, given, outcome_map, interned}
use Rattle.pd_atom.specs.Atoms.{IsOf}
use Rattle.pd_atom.specs.Tokens.{starts_with_digit, or_else}
use Rattle.pd_atom.specs.Expansion.{run_at, filled, runs_of, first_missing, or_missing, argument, units, run_argument, run_number, dollar_expanded, expanded_name, expanded}
use Rattle.pd_atom.proofs.CaseLemmas.{by_test}
use Rattle.pd_atom.specs.declared.Atom.{Atom}
use Rattle.pd_atom.specs.declared.Atom.TheVariants.{Number, Symbol, Dollar, DollarSymbol, Comma, Semi}
use Rattle.pd_atom.proofs.NameLemmas.{some_same, lt_from}
use Rattle.pd_atom.proofs.TokenLemmas.{none_not_some, by_option}

pub one_more : (n : ℕ) → 1 + n ≡ suc n
one_more n = omega arith

pub no_dollar : (b : ℕ) → is_ascii_digit b ≡ true → (b == 36) ≡ false
no_dollar b h = grind (arith, nat_tests)

no_zero : (n : ℕ) → suc n ≡ 0 → ⊥
no_zero n e = omega (arith, e)

none_less : 0 < 0 → ⊥
none_less h = omega (arith, h)

pub front_len : (bs : List ℕ) → length (take_while is_ascii_digit bs) ≡ prefix_len is_ascii_digit bs
front_len bs = length-take-le (prefix_len is_ascii_digit bs) bs (prefix_len-le-length is_ascii_digit bs)

pub starts_from : (bs : List ℕ) → length (take_while is_ascii_digit bs) ≢ 0 → starts_with_digit bs ≡ true
starts_from [] some = absurd (some refl)
starts_from (b ∷ bs) some = by_test (is_ascii_digit b) (λ e. e)
    (λ e. absurd (some (ap (λ t. length (take (cond t (1 + prefix_len is_ascii_digit bs) 0) (b ∷ bs))) e)))

le_from : (m n : ℕ) → nat_le m n ≡ true → m ≤ n
le_from m n h = grind (arith, nat_tests)

more_from : (m n : ℕ) → nat_le m n ≡ false → n < m
more_from m n h = grind (arith, nat_tests)

-- what fits of bytes behind others
pub put_taken : (old bytes : List ℕ) (left room : ℕ) → left + length old ≡ 255 → room ≡ min left (length bytes) → old ++ take room bytes ≡ take 255 (old ++ bytes)
put_taken old bytes left room whole is =
    ap (λ n. old ++ take n bytes) is ∙ ap (λ xs. old ++ xs) (take_min left bytes) ∙ sym (take-append-add old bytes left)
    ∙ ap (λ n. take n (old ++ bytes)) (flip (length old) left whole)
  where
    flip : (m n : ℕ) → n + m ≡ 255 → m + n ≡ 255
    flip m n e = omega (arith, e)

-- the digits at the front are digits
pub front_digits : (bs : List ℕ) → list_all is_ascii_digit (take_while is_ascii_digit bs) ≡ true
front_digits [] = refl
front_digits (b ∷ bs) = by_test (is_ascii_digit b)
    (λ e. ap (λ n. list_all is_ascii_digit (take n (b ∷ bs))) (ap (λ t. cond t (1 + prefix_len is_ascii_digit bs) 0) e ∙ one_more (prefix_len is_ascii_digit bs))
    ∙ ap (λ t. t && list_all is_ascii_digit (take_while is_ascii_digit bs)) e ∙ front_digits bs)
    (λ e. ap (λ n. list_all is_ascii_digit (take n (b ∷ bs))) (ap (λ t. cond t (1 + prefix_len is_ascii_digit bs) 0) e))

pub run_digits : (bs : List ℕ) → list_all is_ascii_digit (run_at bs) ≡ true
run_digits [] = refl
run_digits (b ∷ bs) = by_test (b == 36)
    (λ e. ap (λ t. list_all is_ascii_digit (cond t (take_while is_ascii_digit bs) [])) e ∙ front_digits bs)
    (λ e. ap (λ t. list_all is_ascii_digit (cond t (take_while is_ascii_digit bs) [])) e)

-- digits that belong to a dollar are passed over
pub filled_seen : (text : List ℕ → List ℕ) (bs : List ℕ) → filled text true bs ≡ filled text false (drop (prefix_len is_ascii_digit bs) bs)
filled_seen text [] = refl
filled_seen text (b ∷ bs) = by_test (is_ascii_digit b)
    (λ e. ap (λ t. cond t (filled text true bs) (cond (b == 36 && starts_with_digit bs) (text (take_while is_ascii_digit bs) ++ filled text true bs) (b ∷ filled text false bs))) e
    ∙ filled_seen text bs
    ∙ sym (ap (λ n. filled text false (drop n (b ∷ bs))) (ap (λ t. cond t (1 + prefix_len is_ascii_digit bs) 0) e ∙ one_more (prefix_len is_ascii_digit bs))))
    (λ e. ap (λ t. cond t (filled text true bs) (cond (b == 36 && starts_with_digit bs) (text (take_while is_ascii_digit bs) ++ filled text true bs) (b ∷ filled text false bs))) e
    ∙ sym (ap (λ n. filled text false (drop n (b ∷ bs))) (ap (λ t. cond t (1 + prefix_len is_ascii_digit bs) 0) e)))

pub runs_seen : (bs : List ℕ) → runs_of bs ≡ runs_of (drop (prefix_len is_ascii_digit bs) bs)
runs_seen [] = refl
runs_seen (b ∷ bs) = by_test (is_ascii_digit b)
    (λ e. ap (λ t. cond (t && starts_with_digit bs) (take_while is_ascii_digit bs ∷ runs_of bs) (runs_of bs)) (no_dollar b e)
    ∙ runs_seen bs
    ∙ sym (ap (λ n. runs_of (drop n (b ∷ bs))) (ap (λ t. cond t (1 + prefix_len is_ascii_digit bs) 0) e ∙ one_more (prefix_len is_ascii_digit bs))))
    (λ e. sym (ap (λ n. runs_of (drop n (b ∷ bs))) (ap (λ t. cond t (1 + prefix_len is_ascii_digit bs) 0) e)))

-- a dollar with digits: its text comes, and what is behind the digits
pub filled_run : (text : List ℕ → List ℕ) (bs : List ℕ) → length (run_at bs) ≢ 0
    → filled text false bs ≡ text (run_at bs) ++ filled text false (drop (length (run_at bs) + 1) bs)
filled_run text [] some = absurd (some refl)
filled_run text (b ∷ bs) some = by_test (b == 36)
    (λ e. let at : run_at (b ∷ bs) ≡ take_while is_ascii_digit bs = ap (λ t. cond t (take_while is_ascii_digit bs) []) e in
    let digit : starts_with_digit bs ≡ true = starts_from bs (λ z. some (ap length at ∙ z)) in
    let len : length (run_at (b ∷ bs)) + 1 ≡ suc (prefix_len is_ascii_digit bs) = omega (arith, ap length at, front_len bs) in
    ap (λ t. cond (t && starts_with_digit bs) (text (take_while is_ascii_digit bs) ++ filled text true bs) (b ∷ filled text false bs)) e
    ∙ ap (λ t. cond t (text (take_while is_ascii_digit bs) ++ filled text true bs) (b ∷ filled text false bs)) digit
    ∙ ap (λ r. text r ++ filled text true bs) (sym at)
    ∙ ap (λ r. text (run_at (b ∷ bs)) ++ r) (filled_seen text bs ∙ sym (ap (λ n. filled text false (drop n (b ∷ bs))) len)))
    (λ e. absurd (some (ap (λ t. length (cond t (take_while is_ascii_digit bs) [])) e)))

pub runs_run : (bs : List ℕ) → length (run_at bs) ≢ 0 → runs_of bs ≡ run_at bs ∷ runs_of (drop (length (run_at bs) + 1) bs)
runs_run [] some = absurd (some refl)
runs_run (b ∷ bs) some = by_test (b == 36)
    (λ e. let at : run_at (b ∷ bs) ≡ take_while is_ascii_digit bs = ap (λ t. cond t (take_while is_ascii_digit bs) []) e in
    let digit : starts_with_digit bs ≡ true = starts_from bs (λ z. some (ap length at ∙ z)) in
    let len : length (run_at (b ∷ bs)) + 1 ≡ suc (prefix_len is_ascii_digit bs) = omega (arith, ap length at, front_len bs) in
    ap (λ t. cond (t && starts_with_digit bs) (take_while is_ascii_digit bs ∷ runs_of bs) (runs_of bs)) e
    ∙ ap (λ t. cond t (take_while is_ascii_digit bs ∷ runs_of bs) (runs_of bs)) digit
    ∙ ap (λ r. r ∷ runs_of bs) (sym at)
    ∙ ap (λ r. run_at (b ∷ bs) ∷ r) (runs_seen bs ∙ sym (ap (λ n. runs_of (drop n (b ∷ bs))) len)))
    (λ e. absurd (some (ap (λ t. length (cond t (take_while is_ascii_digit bs) [])) e)))

pub run_len : (bs : List ℕ) → 0 < length bs → length (run_at bs) + 1 ≤ length bs
run_len [] h = absurd (none_less h)
run_len (b ∷ bs) h = by_test (b == 36)
    (λ e. omega (arith, ap (λ t. length (cond t (take_while is_ascii_digit bs) [])) e, front_len bs, prefix_len-le-length is_ascii_digit bs))
    (λ e. omega (arith, ap (λ t. length (cond t (take_while is_ascii_digit bs) [])) e))

no_digit : (bs : List ℕ) → length (take_while is_ascii_digit bs) ≡ 0 → starts_with_digit bs ≡ false
no_digit [] none = refl
no_digit (b ∷ bs) none = by_test (is_ascii_digit b)
    (λ e. absurd (no_zero (length (take (prefix_len is_ascii_digit bs) bs)) (sym (ap (λ t. length (take t (b ∷ bs))) (ap (λ t. cond t (1 + prefix_len is_ascii_digit bs) 0) e ∙ one_more (prefix_len is_ascii_digit bs))) ∙ none)))
    (λ e. e)

-- any other byte stays
pub plain_test : (b : ℕ) (bs : List ℕ) → length (run_at (b ∷ bs)) ≡ 0 → (b == 36 && starts_with_digit bs) ≡ false
plain_test b bs none = by_test (b == 36)
    (λ e. ap (λ t. t && starts_with_digit bs) e ∙ no_digit bs (sym (ap (λ t. length (cond t (take_while is_ascii_digit bs) [])) e) ∙ none))
    (λ e. ap (λ t. t && starts_with_digit bs) e)

pub filled_plain : (text : List ℕ → List ℕ) (bs : List ℕ) → 0 < length bs → length (run_at bs) ≡ 0 → filled text false bs ≡ take 1 bs ++ filled text false (drop 1 bs)
filled_plain text [] some none = absurd (none_less some)
filled_plain text (b ∷ bs) some none =
    ap (λ t. cond t (text (take_while is_ascii_digit bs) ++ filled text true bs) (b ∷ filled text false bs)) (plain_test b bs none)

pub runs_plain : (bs : List ℕ) → 0 < length bs → length (run_at bs) ≡ 0 → runs_of bs ≡ runs_of (drop 1 bs)
runs_plain [] some none = absurd (none_less some)
runs_plain (b ∷ bs) some none = ap (λ t. cond t (take_while is_ascii_digit bs ∷ runs_of bs) (runs_of bs)) (plain_test b bs none)

-- what fits is cut again behind more
pub take_again : (xs ys : List ℕ) → take 255 (take 255 xs ++ ys) ≡ take 255 (xs ++ ys)
take_again xs ys = by_test (nat_le (length xs) 255)
    (λ e. ap (λ zs. take 255 (zs ++ ys)) (take_all 255 xs (le_from (length xs) 255 e)))
    (λ e. let more : 255 ≤ length xs = omega (arith, more_from (length xs) 255 e) in
    let cut : length (take 255 xs) ≡ 255 = length-take-le 255 xs more in
    take-append-le 255 (take 255 xs) ys (omega (arith, cut)) ∙ take_all 255 (take 255 xs) (omega (arith, cut)) ∙ sym (take-append-le 255 xs ys more))

-- a piece that is put and the rest are the old bytes and the whole
pub piece_put : (old piece rest whole : List ℕ) → whole ≡ piece ++ rest → take 255 (take 255 (old ++ piece) ++ rest) ≡ take 255 (old ++ whole)
piece_put old piece rest whole e =
    take_again (old ++ piece) rest ∙ ap (take 255) (append_assoc old piece rest ∙ ap (λ w. old ++ w) (sym e))

pub or_else_assoc : (x y z : Option ℕ) → or_else (or_else x y) z ≡ or_else x (or_else y z)
or_else_assoc None y z = refl
or_else_assoc (Some a) y z = refl

pub or_else_none : (x : Option ℕ) → or_else x None ≡ x
or_else_none None = refl
or_else_none (Some a) = refl

pub missing_some : (own : ℕ) (args : List Atom) (ds : List ℕ) (rest : List (List ℕ)) (a : Atom) → run_argument own args ds ≡ Some a → first_missing own args (ds ∷ rest) ≡ first_missing own args rest
missing_some own args ds rest a e = ap (λ o. or_missing o (run_number ds) (first_missing own args rest)) e

pub missing_none : (own : ℕ) (args : List Atom) (ds : List ℕ) (rest : List (List ℕ)) → run_argument own args ds ≡ None → first_missing own args (ds ∷ rest) ≡ Some (run_number ds)
missing_none own args ds rest e = ap (λ o. or_missing o (run_number ds) (first_missing own args rest)) e

pub missing_more : (own : ℕ) (args : List Atom) (ds : List ℕ) (rest : List (List ℕ)) → first_missing own args (ds ∷ rest)
    ≡ or_else (or_missing (run_argument own args ds) (run_number ds) None) (first_missing own args rest)
missing_more own args ds rest = by (run_argument own args ds)
  where
    by : (o : Option Atom) → or_missing o (run_number ds) (first_missing own args rest) ≡ or_else (or_missing o (run_number ds) None) (first_missing own args rest)
    by None = refl
    by (Some a) = refl

pub all_got : (P : Atom → Type 0) (xs : List Atom) (k : ℕ) (a : Atom) → All P xs → slice_get xs k ≡ Some a → P a
all_got P xs k a h e = by_test (nat_lt k (length xs))
    (λ t. subst P (get_or_from_slice_get xs k a a e) (h k a (lt_from k (length xs) t)))
    (λ t. absurd (none_not_some a (sym (slice_get_past xs k (high_from k (length xs) t)) ∙ e)))
  where
    high_from : (m n : ℕ) → nat_lt m n ≡ false → n ≤ m
    high_from m n h = grind (arith, nat_tests)

pub argument_of_table : (names : Names) (own : ℕ) (args : List Atom) (n : ℕ) (a : Atom) → All (IsOf names) args → argument own args n ≡ Some a → IsOf names a
argument_of_table names own args zero a h e = subst (IsOf names) (some_same (Number (units own)) a e) tt
argument_of_table names own args (suc k) a h e = all_got (IsOf names) args k a h e

pub run_of_table : (names : Names) (own : ℕ) (args : List Atom) (ds : List ℕ) (a : Atom) → All (IsOf names) args → run_argument own args ds ≡ Some a → IsOf names a
run_of_table names own args ds a h e = by_test (nat_lt 4 (length ds))
    (λ t. absurd (none_not_some a (sym (ap (λ b. cond b None (argument own args (digits_value 10 ds))) t) ∙ e)))
    (λ t. argument_of_table names own args (digits_value 10 ds) a h (sym (ap (λ b. cond b None (argument own args (digits_value 10 ds))) t) ∙ e))

pub expanded_dollar : (names : Names) (n own : ℕ) (args : List Atom) → expanded names (Dollar n) own args ≡ given (dollar_expanded n (argument own args n)) names
unfolding expanded
expanded_dollar names n own args = refl

pub expanded_symbol : (names : Names) (s own : ℕ) (args : List Atom) → expanded names (DollarSymbol s) own args
    ≡ outcome_map (λ t. record { atom = Symbol t; missing = first_missing own args (runs_of (name_of names s)) }) (interned names (expanded_name names s own args))
unfolding expanded
expanded_symbol names s own args = refl

pub expanded_other : (names : Names) (a : Atom) (own : ℕ) (args : List Atom) → ((n : ℕ) → a ≡ Dollar n → ⊥) → ((s : ℕ) → a ≡ DollarSymbol s → ⊥)
    → expanded names a own args ≡ given (record { atom = a; missing = None }) names
unfolding expanded
expanded_other names (Number z) own args d s = refl
expanded_other names (Symbol t) own args d s = refl
expanded_other names (Dollar n) own args d s = absurd (d n refl)
expanded_other names (DollarSymbol t) own args d s = absurd (s t refl)
expanded_other names Comma own args d s = refl
expanded_other names Semi own args d s = refl

pub dollar_of_table : (names : Names) (n own : ℕ) (args : List Atom) → All (IsOf names) args → IsOf names (dollar_expanded n (argument own args n)).atom
dollar_of_table names n own args h = by_option (argument own args n)
    (λ none. subst (λ o. IsOf names (dollar_expanded n o).atom) (sym none) tt)
    (λ a some. subst (λ o. IsOf names (dollar_expanded n o).atom) (sym some) (argument_of_table names own args n a h some))
