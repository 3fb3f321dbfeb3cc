-- A table that goes on gives the same names, the same numbers of names, and the same expanded texts.
use Rattle.std.proofs.Common.{◌≡◌, ℕ, zero, suc, ◌+◌, ◌<◌, ◌≤◌, Bool, true, false, cond, eqb, List, [], ◌∷◌, ◌++◌, length, get_or, Option, Some, None, Result, Ok, Err, is_ok, nat_lt, position, bytes_eq, slice_get, take, refl, sym, ap, ◌∙◌, subst, arith, true≢false, length-append}
use Rattle.std.proofs.Math.Path.{fun_ext}
use Rattle.std.specs.List.{position_or_len}
use Rattle.std.proofs.lemmas.List.{get_or_append_left}
use Rattle.std.proofs.lemmas.List.Folds.{prefix_len-append}
use Rattle.std.proofs.lemmas.List.Sums.{position_or_len_is}
use Rattle.std.proofs.lemmas.Bool.Decides.{nat_tests}
use Rattle.pd_atom.specs.declared.Atom.{Atom}
use Rattle.pd_atom.specs.declared.Atom.TheVariants as atom
use Rattle.pd_atom.specs.declared.Expanded.{Expanded}
use Rattle.pd_atom.specs.declared.SymbolRefusal.{SymbolRefusal}
use Rattle.pd_atom.specs.declared.SymbolRefusal.TheVariants.{TooLong, Full}
use Rattle.pd_atom.specs.Names.{Names, name_of, Extends, Outcome, given, refused, longest, most, interned, answer_map, outcome_map}
use Rattle.pd_atom.specs.Atoms.{IsOf, spelled}
use Rattle.pd_atom.specs.Expansion.{argument, run_argument, argument_text, run_text, runs_of, filled, first_missing, dollar_expanded, expanded_name, expanded}
use Rattle.pd_atom.proofs.CaseLemmas.{by_test}
use Rattle.pd_atom.proofs.TokenLemmas.{by_option, none_not_some}
use Rattle.pd_atom.proofs.LawLemmas.{of_extended}
use Rattle.pd_atom.proofs.NameLemmas.{bytes_other, bytes_same, last_name, lt_true, lt_from, some_same, position_low, absent_at, interned_long, interned_found, interned_full, interned_new}
use Rattle.pd_growth.specs.Steps.{outcome_after, outcome_then, text_expanded}
use Rattle.pd_regrowth_law.specs.Suits.{AreOf}
use Rattle.pd_regrowth_law.proofs.StepLemmas.{extends_on, text_extends, interned_extends, expanded_extends}

-- ---- names

pub name_stays : (names names2 : Names) → Extends names names2 → (s : ℕ) → s < length names → name_of names2 s ≡ name_of names s
name_stays names names2 x s h = ap (λ ns. name_of ns s) x.1 ∙ get_or_append_left names x.0 [] s h

pub below_more : (names names2 : Names) → Extends names names2 → (s : ℕ) → s < length names → s < length names2
below_more names names2 x s h = omega (arith, h, ap length x.1, length-append names x.0)

pub are_of_more : (names names2 : Names) → Extends names names2 → (atoms : List Atom) → AreOf names atoms → AreOf names2 atoms
are_of_more names names2 x [] h = tt
are_of_more names names2 x (a ∷ atoms) h = (of_extended names names2 a x h.0, are_of_more names names2 x atoms h.1)

not_equal : (m n : ℕ) → m < n → eqb m n ≡ false
not_equal m n h = grind (arith, nat_tests)

first_stays : (t : List ℕ → Bool) (xs ys : Names) → position_or_len t xs < length xs → position_or_len t (xs ++ ys) ≡ position_or_len t xs
first_stays t xs ys h =
    prefix_len-append _ xs ys
    ∙ ap (λ b. cond b (length xs + position_or_len t ys) (position_or_len t xs)) (not_equal (position_or_len t xs) (length xs) h)

place_is : (t : List ℕ → Bool) (xs : Names) (i : ℕ) → position_or_len t xs ≡ i → i < length xs → position t xs ≡ Some i
place_is t xs i e h =
    ap (λ k. cond (nat_lt k (length xs)) (Some k) None) e ∙ ap (λ b. cond b (Some i) None) (lt_true i (length xs) h)

place_from : (t : List ℕ → Bool) (xs : Names) (i : ℕ) → position t xs ≡ Some i → position_or_len t xs ≡ i
place_from t xs i e =
    let p = position_or_len t xs in
    by_test (nat_lt p (length xs))
    (λ low. some_same p i (sym (ap (λ b. cond b (Some p) None) low) ∙ e))
    (λ high. absurd (none_not_some i (sym (ap (λ b. cond b (Some p) None) high) ∙ e)))

pub place_stays : (names names2 : Names) (name : List ℕ) (s : ℕ) → Extends names names2 → position (bytes_eq name) names ≡ Some s → position (bytes_eq name) names2 ≡ Some s
place_stays names names2 name s x e =
    let t = bytes_eq name in
    let first = place_from t names s e in
    let low : s < length names = (position_low names name s e).0 in
    ap (position t) x.1 ∙ place_is t (names ++ x.0) s
    (first_stays t names x.0 (omega (arith, first, low)) ∙ first) (omega (arith, low, length-append names x.0))

place_of_last : (names : Names) (name : List ℕ) → position (bytes_eq name) names ≡ None → position (bytes_eq name) (names ++ name ∷ []) ≡ Some (length names)
place_of_last names name none =
    let long : length (names ++ name ∷ []) ≡ length names + 1 = length-append names (name ∷ []) in
    place_is (bytes_eq name) (names ++ name ∷ []) (length names)
    (position_or_len_is (bytes_eq name) (names ++ name ∷ []) (length names) [] (omega (arith, long))
    (λ k below. bytes_other name (get_or (names ++ name ∷ []) k [])
    (λ same. absent_at names name none k below (sym (get_or_append_left names (name ∷ []) [] k below) ∙ sym same)))
    (λ _. bytes_same name (get_or (names ++ name ∷ []) (length names) []) (sym (last_name names name))))
    (omega (arith, long))

-- ---- outcomes

abbrev answer_of : {A : Type 0} → A → Result A SymbolRefusal → A
answer_of a (Ok b) = b
answer_of a (Err e) = a

pub given_same : {A : Type 0} (a b : A) (m n : Names) → given a m ≡ given b n → a ≡ b
given_same {A} a b m n h = ap (λ (o : Outcome A). answer_of a o.answer) h

pub given_names : {A : Type 0} (a b : A) (m n : Names) → given a m ≡ given b n → m ≡ n
given_names {A} a b m n h = ap (λ (o : Outcome A). o.names) h

pub refused_never : {A : Type 0} (e : SymbolRefusal) (m : Names) (b : A) (n : Names) → refused e m ≡ given b n → ⊥
refused_never {A} e m b n h = true≢false (sym (ap (λ (o : Outcome A). is_ok o.answer) h))

-- what a chain of outcomes went through
pub record Outcomes {A B : Type 0} (o : Outcome A) (f : A → Names → Outcome B) (b : B) (n : Names) : Type 0 where
  pub value : A
  pub names : Names
  pub first : o ≡ given value names
  pub next : f value names ≡ given b n

outcomes_by : {A B : Type 0} (r : Result A SymbolRefusal) (m : Names) (f : A → Names → Outcome B) (b : B) (n : Names)
    → outcome_after r m f ≡ given b n → Outcomes (record { answer = r; names = m }) f b n
outcomes_by (Ok a) m f b n h = record { value = a; names = m; first = refl; next = h }
outcomes_by (Err e) m f b n h = absurd (refused_never e m b n h)

pub outcomes : {A B : Type 0} (o : Outcome A) (f : A → Names → Outcome B) (b : B) (n : Names) → outcome_then o f ≡ given b n → Outcomes o f b n
outcomes o f b n h = outcomes_by o.answer o.names f b n h

pub record Mapped {A B : Type 0} (f : A → B) (o : Outcome A) (b : B) (n : Names) : Type 0 where
  pub value : A
  pub first : o ≡ given value n
  pub all : f value ≡ b

mapped_by : {A B : Type 0} (f : A → B) (r : Result A SymbolRefusal) (m : Names) (b : B) (n : Names)
    → record { answer = answer_map f r; names = m } ≡ given b n → Mapped f (record { answer = r; names = m }) b n
mapped_by f (Ok a) m b n h = record { value = a; first = ap (given a) (given_names (f a) b m n h); all = given_same (f a) b m n h }
mapped_by f (Err e) m b n h = absurd (refused_never e m b n h)

pub mapped : {A B : Type 0} (f : A → B) (o : Outcome A) (b : B) (n : Names) → outcome_map f o ≡ given b n → Mapped f o b n
mapped f o b n h = mapped_by f o.answer o.names b n h

-- ---- a name has its number again

-- the name is short enough, and stands first at this place
pub record HasPlace (names : Names) (name : List ℕ) (s : ℕ) : Type 0 where
  pub short : length name ≤ longest
  pub place : position (bytes_eq name) names ≡ Some s

not_more : (m n : ℕ) → nat_lt m n ≡ false → n ≤ m
not_more m n h = grind (arith, nat_tests)

short_place : (names : Names) (name : List ℕ) (s : ℕ) (final : Names) → length name ≤ longest → interned names name ≡ given s final → HasPlace final name s
short_place names name s final short h = by_option (position (bytes_eq name) names)
    (λ none. by_test (nat_lt (length names) most)
    (λ room. let e = sym (interned_new names name short none (lt_from (length names) most room)) ∙ h in
    let n = given_names (length names) s (names ++ name ∷ []) final e in
    record { short = short; place = ap (position (bytes_eq name)) (sym n) ∙ place_of_last names name none ∙ ap (λ k. Some k) (given_same (length names) s (names ++ name ∷ []) final e) })
    (λ full. absurd (refused_never Full names s final (sym (interned_full names name short none (not_more (length names) most full)) ∙ h))))
    (λ k some. let e = sym (interned_found names name k short some) ∙ h in
    record { short = short; place = ap (position (bytes_eq name)) (sym (given_names k s names final e)) ∙ some ∙ ap (λ x. Some x) (given_same k s names final e) })

pub has_place : (names : Names) (name : List ℕ) (s : ℕ) (final : Names) → interned names name ≡ given s final → HasPlace final name s
has_place names name s final h = by_test (nat_lt longest (length name))
    (λ long. absurd (refused_never TooLong names s final (sym (interned_long names name (lt_from longest (length name) long)) ∙ h)))
    (λ short. short_place names name s final (not_more longest (length name) short) h)

pub interned_again : (names : Names) (name : List ℕ) (s : ℕ) (final names2 : Names) → interned names name ≡ given s final → Extends final names2
    → interned names2 name ≡ given s names2
interned_again names name s final names2 h x =
    let p = has_place names name s final h in interned_found names2 name s p.short (place_stays final names2 name s x p.place)

pub interned_below : (names : Names) (name : List ℕ) (s : ℕ) (final : Names) → interned names name ≡ given s final → s < length final
interned_below names name s final h = (position_low final name s (has_place names name s final h).place).0

-- ---- expanded texts

spelled_stays : (names names2 : Names) → Extends names names2 → (a : Atom) → IsOf names a → spelled names2 a ≡ spelled names a
spelled_stays names names2 x (atom.Number z) h = refl
spelled_stays names names2 x (atom.Symbol s) h = name_stays names names2 x s h
spelled_stays names names2 x (atom.Dollar n) h = refl
spelled_stays names names2 x (atom.DollarSymbol s) h = name_stays names names2 x s h
spelled_stays names names2 x atom.Comma h = refl
spelled_stays names names2 x atom.Semi h = refl

-- an argument that is there is of the table
abbrev IsOfIf : Names → Option Atom → Type 0
IsOfIf names (Some a) = IsOf names a
IsOfIf names None = Unit {0}

at_of : (names : Names) (args : List Atom) (k : ℕ) → AreOf names args → IsOfIf names (slice_get args k)
at_of names [] k h = tt
at_of names (a ∷ args) zero h = h.0
at_of names (a ∷ args) (suc k) h = at_of names args k h.1

argument_of : (names : Names) (own : ℕ) (args : List Atom) (n : ℕ) → AreOf names args → IsOfIf names (argument own args n)
argument_of names own args zero h = tt
argument_of names own args (suc k) h = at_of names args k h

run_of : (names : Names) (own : ℕ) (args : List Atom) (ds : List ℕ) (b : Bool) (n : ℕ) → AreOf names args → IsOfIf names (cond b None (argument own args n))
run_of names own args ds true n h = tt
run_of names own args ds false n h = argument_of names own args n h

argument_stays : (names names2 : Names) → Extends names names2 → (o : Option Atom) → IsOfIf names o → argument_text names2 o ≡ argument_text names o
argument_stays names names2 x (Some a) h = spelled_stays names names2 x a h
argument_stays names names2 x None h = refl

run_stays : (names names2 : Names) → Extends names names2 → (own : ℕ) (args : List Atom) → AreOf names args → run_text names2 own args ≡ run_text names own args
run_stays names names2 x own args h =
    fun_ext (λ ds. argument_stays names names2 x (run_argument own args ds) (run_of names own args ds (nat_lt 4 (length ds)) _ h))

name_again : (names names2 : Names) → Extends names names2 → (s own : ℕ) (args : List Atom) → s < length names → AreOf names args
    → expanded_name names2 s own args ≡ expanded_name names s own args
name_again names names2 x s own args low h =
    ap (λ r. take longest (filled r false (name_of names2 s))) (run_stays names names2 x own args h)
    ∙ ap (λ n. take longest (filled (run_text names own args) false n)) (name_stays names names2 x s low)

pub expanded_again : (names : Names) (a : Atom) (own : ℕ) (args : List Atom) (e : Expanded) (final names2 : Names) → IsOf names a → AreOf names args
    → expanded names a own args ≡ given e final → Extends final names2 → expanded names2 a own args ≡ given e names2
unfolding expanded
expanded_again names (atom.Dollar n) own args e final names2 h k g x = ap (λ y. given y names2) (given_same _ e names final g)
expanded_again names (atom.DollarSymbol s) own args e final names2 h k g x =
    let made : Names → ℕ → Expanded = λ ns t. record { atom = atom.Symbol t; missing = first_missing own args (runs_of (name_of ns s)) } in
    let name = expanded_name names s own args in
    let m = mapped (made names) (interned names name) e final g in
    let on : Extends names final = subst (Extends names) (ap (λ (o : Outcome ℕ). o.names) m.first) (interned_extends names name) in
    let whole = extends_on names final names2 on x in
    ap (λ n. outcome_map (made names2) (interned names2 n)) (name_again names names2 whole s own args h k)
    ∙ ap (outcome_map (made names2)) (interned_again names name m.value final names2 m.first x)
    ∙ ap (λ n. given (record { atom = atom.Symbol m.value; missing = first_missing own args (runs_of n) }) names2) (name_stays names names2 whole s h)
    ∙ ap (λ y. given y names2) m.all
expanded_again names (atom.Number z) own args e final names2 h k g x = ap (λ y. given y names2) (given_same _ e names final g)
expanded_again names (atom.Symbol s) own args e final names2 h k g x = ap (λ y. given y names2) (given_same _ e names final g)
expanded_again names atom.Comma own args e final names2 h k g x = ap (λ y. given y names2) (given_same _ e names final g)
expanded_again names atom.Semi own args e final names2 h k g x = ap (λ y. given y names2) (given_same _ e names final g)

dollar_of : (names : Names) (n : ℕ) (o : Option Atom) → IsOfIf names o → IsOf names (dollar_expanded n o).atom
dollar_of names n (Some a) h = h
dollar_of names n None h = tt

same_of : (names : Names) (d e : Expanded) (final : Names) → IsOf names d.atom → given d names ≡ given e final → IsOf final e.atom
same_of names d e final h g =
    subst (λ ns. IsOf ns e.atom) (given_names d e names final g) (subst (λ (y : Expanded). IsOf names y.atom) (given_same d e names final g) h)

pub expanded_of : (names : Names) (a : Atom) (own : ℕ) (args : List Atom) (e : Expanded) (final : Names) → IsOf names a → AreOf names args
    → expanded names a own args ≡ given e final → IsOf final e.atom
unfolding expanded
expanded_of names (atom.Dollar n) own args e final h k g =
    same_of names (dollar_expanded n (argument own args n)) e final (dollar_of names n (argument own args n) (argument_of names own args n k)) g
expanded_of names (atom.DollarSymbol s) own args e final h k g =
    let made : ℕ → Expanded = λ t. record { atom = atom.Symbol t; missing = first_missing own args (runs_of (name_of names s)) } in
    let m = mapped made (interned names (expanded_name names s own args)) e final g in
    subst (λ (y : Expanded). IsOf final y.atom) m.all (interned_below names (expanded_name names s own args) m.value final m.first)
expanded_of names (atom.Number z) own args e final h k g = same_of names (record { atom = atom.Number z; missing = None }) e final h g
expanded_of names (atom.Symbol s) own args e final h k g = same_of names (record { atom = atom.Symbol s; missing = None }) e final h g
expanded_of names atom.Comma own args e final h k g = same_of names (record { atom = atom.Comma; missing = None }) e final h g
expanded_of names atom.Semi own args e final h k g = same_of names (record { atom = atom.Semi; missing = None }) e final h g

-- what a text went through: its first atom, and the others
pub record TextWent (own : ℕ) (args : List Atom) (a : Atom) (atoms : List Atom) (names : Names) (text : List Atom) (final : Names) : Type 0 where
  pub one : Expanded
  pub between : Names
  pub rest : List Atom
  pub one_is : expanded names a own args ≡ given one between
  pub rest_is : text_expanded own args atoms between ≡ given rest final
  pub all_is : one.atom ∷ rest ≡ text
  pub extends : Extends names between
  pub onward : Extends between final

pub text_went : (own : ℕ) (args : List Atom) (a : Atom) (atoms : List Atom) (names : Names) (text : List Atom) (final : Names)
    → text_expanded own args (a ∷ atoms) names ≡ given text final → TextWent own args a atoms names text final
unfolding text_expanded
text_went own args a atoms names text final h =
    let first = outcomes (expanded names a own args)
    (λ (e : Expanded) more. outcome_then (text_expanded own args atoms more) (λ bs all. given (e.atom ∷ bs) all)) text final h in
    let second = outcomes (text_expanded own args atoms first.names) (λ bs all. given (first.value.atom ∷ bs) all) text final first.next in
    let rest : text_expanded own args atoms first.names ≡ given second.value final =
    second.first ∙ ap (given second.value) (given_names (first.value.atom ∷ second.value) text second.names final second.next) in
    record {
      one = first.value;
      between = first.names;
      rest = second.value;
      one_is = first.first;
      rest_is = rest;
      all_is = given_same (first.value.atom ∷ second.value) text second.names final second.next;
      extends = subst (Extends names) (ap (λ (o : Outcome Expanded). o.names) first.first) (expanded_extends names a own args);
      onward = subst (Extends first.names) (ap (λ (o : Outcome (List Atom)). o.names) rest) (text_extends own args atoms first.names);
    }

pub text_again : (own : ℕ) (args atoms : List Atom) (names : Names) (text : List Atom) (final names2 : Names) → AreOf names args → AreOf names atoms
    → text_expanded own args atoms names ≡ given text final → Extends final names2 → text_expanded own args atoms names2 ≡ given text names2
unfolding text_expanded
text_again own args [] names text final names2 k h g x = ap (λ y. given y names2) (given_same [] text names final g)
text_again own args (a ∷ atoms) names text final names2 k h g x =
    let t = text_went own args a atoms names text final g in
    ap (λ (o : Outcome Expanded). outcome_then o (λ e more. outcome_then (text_expanded own args atoms more) (λ bs all. given (e.atom ∷ bs) all)))
    (expanded_again names a own args t.one t.between names2 h.0 k t.one_is (extends_on t.between final names2 t.onward x))
    ∙ ap (λ (o : Outcome (List Atom)). outcome_then o (λ bs all. given (t.one.atom ∷ bs) all))
    (text_again own args atoms t.between t.rest final names2 (are_of_more names t.between t.extends args k)
    (are_of_more names t.between t.extends atoms h.1) t.rest_is x)
    ∙ ap (λ y. given y names2) t.all_is

pub text_of : (own : ℕ) (args atoms : List Atom) (names : Names) (text : List Atom) (final : Names) → AreOf names args → AreOf names atoms
    → text_expanded own args atoms names ≡ given text final → AreOf final text
unfolding text_expanded
text_of own args [] names text final k h g = subst (AreOf final) (given_same [] text names final g) tt
text_of own args (a ∷ atoms) names text final k h g =
    let t = text_went own args a atoms names text final g in
    subst (AreOf final) t.all_is (
      of_extended t.between final t.one.atom t.onward (expanded_of names a own args t.one t.between h.0 k t.one_is),
      text_of own args atoms t.between t.rest final (are_of_more names t.between t.extends args k) (are_of_more names t.between t.extends atoms h.1) t.rest_is,
    )
