-- Tables of names: where a name stands, and what a new name keeps.
use Rattle.std.proofs.Common.{◌≡◌, ◌≢◌, ℕ, slice_get, unwrap_or, zero, suc, not, is_some, ◌+◌, ◌-◌, ◌<◌, ◌≤◌, List, [], ◌∷◌, ◌++◌, length, take, get_or, min, Bool, true, false, cond, eqb, nat_lt, position, bytes_eq, Some, None, refl, sym, ◌∙◌, ap, subst, arith, true≢false}
use Rattle.std.specs.List.{position_or_len}
use Rattle.std.proofs.lemmas.List.{get_or_append_left, get_or-append_right, get_or-take, length-append, length-take, take-append-le, take-take}
use Rattle.std.proofs.lemmas.Option.{slice_get-get_or}
use Rattle.std.proofs.lemmas.List.Sums.{position_or_len_is}
use Rattle.std.proofs.lemmas.Bool.Decides.{nat_tests}
use Rattle.std.proofs.lemmas.Slice.Eq.{bytes_eq-Decides}
use Rattle.pd_atom.specs.declared.SymbolRefusal.TheVariants.{TooLong, Full}
use Rattle.pd_atom.specs.Names.{Names, name_of, AreDistinct, AreShort, IsTable, longest, most, given, refused, placed, interned}
use Rattle.pd_atom.proofs.CaseLemmas.{by_test, eqb-true, eqb-false}

pub same_bytes : (a b : List ℕ) → bytes_eq a b ≡ true → a ≡ b
same_bytes a b h = (bytes_eq-Decides a b).0 h

pub bytes_same : (a b : List ℕ) → a ≡ b → bytes_eq a b ≡ true
bytes_same a b h = (bytes_eq-Decides a b).1 h

pub other_bytes : (a b : List ℕ) → bytes_eq a b ≡ false → a ≢ b
other_bytes a b h e = true≢false (sym (bytes_same a b e) ∙ h)

pub bytes_other : (a b : List ℕ) → (a ≡ b → ⊥) → bytes_eq a b ≡ false
bytes_other a b h = by_test (bytes_eq a b) (λ e. absurd (h (same_bytes a b e))) (λ e. e)

pub lt_true : (m n : ℕ) → m < n → nat_lt m n ≡ true
lt_true m n h = grind (arith, nat_tests)

pub lt_false : (m n : ℕ) → n ≤ m → nat_lt m n ≡ false
lt_false m n h = grind (arith, nat_tests)

pub position_at : (names : Names) (name : List ℕ) (p : ℕ) → AreDistinct names → p < length names → name_of names p ≡ name → position (bytes_eq name) names ≡ Some p
position_at names name p distinct low at =
    let e : position_or_len (bytes_eq name) names ≡ p =
    position_or_len_is (bytes_eq name) names p [] (omega (arith, low))
    (λ k below. bytes_other name (get_or names k []) (λ same. distinct k p below low (sym same ∙ sym at)))
    (λ _. bytes_same name (get_or names p []) (sym at)) in
    ap (λ i. cond (nat_lt i (length names)) (Some i) None) e ∙ ap (λ b. cond b (Some p) None) (lt_true p (length names) low)

pub lt_from : (m n : ℕ) → nat_lt m n ≡ true → m < n
lt_from m n h = grind (arith, nat_tests)

pub some_same : {X : Type 0} → (x y : X) → Some x ≡ Some y → x ≡ y
some_same x y e = ap (λ o. unwrap_or o x) e

pub no_less : (n : ℕ) → n < n → ⊥
no_less n h = omega (arith, h)

pub position_none : (names : Names) (name : List ℕ) → ((k : ℕ) → k < length names → name_of names k ≢ name) → position (bytes_eq name) names ≡ None
position_none names name absent =
    let n = length names in
    let e : position_or_len (bytes_eq name) names ≡ n =
    position_or_len_is (bytes_eq name) names n [] (omega arith)
    (λ k below. bytes_other name (get_or names k []) (λ same. absent k below (sym same)))
    (λ more. absurd (no_less n more)) in
    ap (λ i. cond (nat_lt i n) (Some i) None) e ∙ ap (λ b. cond b (Some n) None) (lt_false n n (omega arith))

-- the first place that passes a test is no later than another that does
pub first_below : (t : List ℕ → Bool) (xs : Names) (k : ℕ) → k < length xs → t (get_or xs k []) ≡ true → position_or_len t xs ≤ k
first_below t [] k low at = omega (arith, low)
first_below t (x ∷ xs) zero low at = let e : position_or_len t (x ∷ xs) ≡ 0 = ap (λ b. cond (not b) (1 + position_or_len t xs) 0) at in omega (arith, e)
first_below t (x ∷ xs) (suc k) low at = by_test (t x)
    (λ e. let first : position_or_len t (x ∷ xs) ≡ 0 = ap (λ b. cond (not b) (1 + position_or_len t xs) 0) e in omega (arith, first))
    (λ e. let next : position_or_len t (x ∷ xs) ≡ 1 + position_or_len t xs = ap (λ b. cond (not b) (1 + position_or_len t xs) 0) e in
    omega (arith, next, first_below t xs k (omega (arith, low)) at))

-- a name that has no position stands nowhere
pub absent_at : (names : Names) (name : List ℕ) → position (bytes_eq name) names ≡ None → (k : ℕ) → k < length names → name_of names k ≢ name
absent_at names name none k low at =
    let first = first_below (bytes_eq name) names k low (bytes_same name (name_of names k) (sym at)) in
    let there = lt_true (position_or_len (bytes_eq name) names) (length names) (omega (arith, first, low)) in
    let found : Some (position_or_len (bytes_eq name) names) ≡ None =
    sym (ap (λ b. cond b (Some (position_or_len (bytes_eq name) names)) None) there) ∙ none in
    absurd (true≢false (ap is_some found))

pub first_one : {X : Type 0} → (x d : X) (i : ℕ) → i ≡ 0 → get_or (x ∷ []) i d ≡ x
first_one x d i e = ap (λ j. get_or (x ∷ []) j d) e

pub last_name : (names : Names) (x : List ℕ) → name_of (names ++ x ∷ []) (length names) ≡ x
last_name names x = get_or-append_right names (x ∷ []) (length names) (length names) [] refl (omega arith) ∙ first_one x [] (length names - length names) (omega arith)

pub distinct_push : (names : Names) (x : List ℕ) → AreDistinct names → ((k : ℕ) → k < length names → name_of names k ≢ x) → AreDistinct (names ++ x ∷ [])
distinct_push names x h absent i j below low e =
    let len : length (names ++ x ∷ []) ≡ length names + 1 = length-append names (x ∷ []) in
    let i_low : i < length names = omega (arith, below, low, len) in
    let i_at : name_of (names ++ x ∷ []) i ≡ name_of names i = get_or_append_left names (x ∷ []) [] i i_low in
    by_test (eqb j (length names))
    (λ j_is. absent i i_low (sym i_at ∙ e ∙ ap (name_of (names ++ x ∷ [])) (eqb-true j (length names) j_is) ∙ last_name names x))
    (λ j_not. let ne : j ≢ length names = eqb-false j (length names) j_not in
    let j_low : j < length names = omega (arith, low, len, ne) in
    h i j below j_low (sym i_at ∙ e ∙ get_or_append_left names (x ∷ []) [] j j_low))

pub short_push : (names : Names) (x : List ℕ) → AreShort names → 0 < length x → length x ≤ longest → AreShort (names ++ x ∷ [])
short_push names x h some short i low =
    let len : length (names ++ x ∷ []) ≡ length names + 1 = length-append names (x ∷ []) in
    let P : List ℕ → Type 0 = λ n. (0 < length n) × (length n ≤ longest) in
    by_test (eqb i (length names))
    (λ i_is. subst P (sym (ap (name_of (names ++ x ∷ [])) (eqb-true i (length names) i_is) ∙ last_name names x)) (some, short))
    (λ i_not. let ne : i ≢ length names = eqb-false i (length names) i_not in
    let i_low : i < length names = omega (arith, low, len, ne) in
    subst P (sym (get_or_append_left names (x ∷ []) [] i i_low)) (h i i_low))

pub distinct_take : (names : Names) (n : ℕ) → AreDistinct names → AreDistinct (take n names)
distinct_take names n h i j below low e =
    let len : length (take n names) ≡ min n (length names) = length-take n names in
    let j_low : j < n = omega (arith, low, len) in
    let j_in : j < length names = omega (arith, low, len) in
    h i j below j_in (sym (get_or-take n names i [] (omega (arith, below, j_low))) ∙ e ∙ get_or-take n names j [] j_low)

pub short_take : (names : Names) (n : ℕ) → AreShort names → AreShort (take n names)
short_take names n h i low =
    let len : length (take n names) ≡ min n (length names) = length-take n names in
    let P : List ℕ → Type 0 = λ x. (0 < length x) × (length x ≤ longest) in
    subst P (sym (get_or-take n names i [] (omega (arith, low, len)))) (h i (omega (arith, low, len)))

-- a test passes at the first place that passes it
pub first_passes : (t : List ℕ → Bool) (xs : Names) → position_or_len t xs < length xs → t (get_or xs (position_or_len t xs) []) ≡ true
first_passes t [] low = absurd (no_less 0 low)
first_passes t (x ∷ xs) low = by_test (t x)
    (λ e. let first : position_or_len t (x ∷ xs) ≡ 0 = ap (λ b. cond (not b) (1 + position_or_len t xs) 0) e in
    ap (λ i. t (get_or (x ∷ xs) i [])) first ∙ e)
    (λ e. let next : position_or_len t (x ∷ xs) ≡ suc (position_or_len t xs) = ap (λ b. cond (not b) (1 + position_or_len t xs) 0) e ∙ one_more (position_or_len t xs) in
    ap (λ i. t (get_or (x ∷ xs) i [])) next ∙ first_passes t xs (omega (arith, low, next)))
  where
    one_more : (n : ℕ) → 1 + n ≡ suc n
    one_more n = omega arith

-- what a position says of the place
pub position_low : (names : Names) (name : List ℕ) (s : ℕ) → position (bytes_eq name) names ≡ Some s → (s < length names) × (name_of names s ≡ name)
position_low names name s e =
    let p = position_or_len (bytes_eq name) names in
    by_test (nat_lt p (length names))
    (λ low. let p_s : p ≡ s = some_same p s (sym (ap (λ b. cond b (Some p) None) low) ∙ e) in
    let below = lt_from p (length names) low in
    (omega (arith, p_s, below), ap (name_of names) (sym p_s) ∙ sym (same_bytes name (name_of names p) (first_passes (bytes_eq name) names below))))
    (λ high. absurd (true≢false (sym (ap is_some (sym (ap (λ b. cond b (Some p) None) high) ∙ e)))))

pub position_named : (names : Names) (name : List ℕ) (s : ℕ) → position (bytes_eq name) names ≡ Some s → slice_get names s ≡ Some name
position_named names name s e = let at = position_low names name s e in slice_get-get_or names s [] at.0 ∙ ap Some at.1

pub last_got : (names : Names) (x : List ℕ) → slice_get (names ++ x ∷ []) (length names) ≡ Some x
last_got names x = slice_get-get_or (names ++ x ∷ []) (length names) [] (omega (arith, length-append names (x ∷ []))) ∙ ap Some (last_name names x)

pub interned_long : (names : Names) (name : List ℕ) → longest < length name → interned names name ≡ refused TooLong names
unfolding interned
interned_long names name h = ap (λ b. cond b (refused TooLong names) (placed names name (position (bytes_eq name) names))) (lt_true longest (length name) h)

pub interned_short : (names : Names) (name : List ℕ) → length name ≤ longest → interned names name ≡ placed names name (position (bytes_eq name) names)
unfolding interned
interned_short names name h = ap (λ b. cond b (refused TooLong names) (placed names name (position (bytes_eq name) names))) (lt_false longest (length name) h)

pub interned_found : (names : Names) (name : List ℕ) (s : ℕ) → length name ≤ longest → position (bytes_eq name) names ≡ Some s → interned names name ≡ given s names
interned_found names name s h e = interned_short names name h ∙ ap (placed names name) e

pub interned_full : (names : Names) (name : List ℕ) → length name ≤ longest → position (bytes_eq name) names ≡ None → most ≤ length names → interned names name ≡ refused Full names
interned_full names name h e full = interned_short names name h ∙ ap (placed names name) e
    ∙ ap (λ b. cond b (given (length names) (names ++ name ∷ [])) (refused Full names)) (lt_false (length names) most full)

pub interned_new : (names : Names) (name : List ℕ) → length name ≤ longest → position (bytes_eq name) names ≡ None → length names < most
    → interned names name ≡ given (length names) (names ++ name ∷ [])
interned_new names name h e room = interned_short names name h ∙ ap (placed names name) e
    ∙ ap (λ b. cond b (given (length names) (names ++ name ∷ [])) (refused Full names)) (lt_true (length names) most room)

pub six_names : (names : Names) → IsTable names → 6 ≤ length names
six_names names h = let six : length (take 6 names) ≡ 6 = ap length h.begins in omega (arith, six, length-take 6 names)

pub table_push : (names : Names) (x : List ℕ) → IsTable names → 0 < length x → length x ≤ longest → position (bytes_eq x) names ≡ None → length names < most → IsTable (names ++ x ∷ [])
table_push names x h some short none room = record {
  begins = take-append-le 6 names (x ∷ []) (six_names names h) ∙ h.begins;
  distinct = distinct_push names x h.distinct (absent_at names x none);
  short = short_push names x h.short some short;
  few = omega (arith, length-append names (x ∷ []), room);
}

pub table_take : (names : Names) (n : ℕ) → 6 ≤ n → IsTable names → IsTable (take n names)
table_take names n low h = record {
  begins = take-take 6 n names low ∙ h.begins;
  distinct = distinct_take names n h.distinct;
  short = short_take names n h.short;
  few = omega (arith, length-take n names, h.few);
}
