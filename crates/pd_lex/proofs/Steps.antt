-- A text from a place on, a byte or an escape at a time.
use Rattle.std.proofs.Common.{◌≡◌, ◌≢◌, ℕ, ◌+◌, ◌<◌, ◌≤◌, true, false, List, [], ◌∷◌, length, get_or, drop, Option, Some, None, refl, ap, ◌∙◌, arith, add-one, drop-cons, eqb}
use Rattle.std.proofs.lemmas.Bool.Decides.{nat_tests}
use Rattle.std.proofs.lemmas.List.{drop_all}
use Rattle.std.proofs.lemmas.List.Sums.{prefix_len-drop_yes, prefix_len-drop_no, prefix_len-drop_all}
use Rattle.std.specs.List.{prefix_len}
use Rattle.pd_lex.specs.Text.{is_space, is_stop}
use Rattle.pd_lex.specs.Reading.{units_len, semicolon, plus}

pub eqb-yes : (m n : ℕ) → m ≡ n → eqb m n ≡ true
eqb-yes m n h = grind (arith, nat_tests)

pub eqb-no : (m n : ℕ) → m ≢ n → eqb m n ≡ false
eqb-no m n h = grind (arith, nat_tests)

pub drop-one : (s : List ℕ) (i : ℕ) → i < length s → drop i s ≡ get_or s i 0 ∷ drop (i + 1) s
drop-one s i h = rw add-one (drop-cons s i 0 h)

pub drop-two : (s : List ℕ) (i : ℕ) → i + 1 < length s → drop i s ≡ get_or s i 0 ∷ get_or s (i + 1) 0 ∷ drop (i + 2) s
drop-two s i h =
    let e : i + 1 + 1 ≡ i + 2 = omega arith in
    drop-one s i (omega arith) ∙ ap (λ r. get_or s i 0 ∷ r) (drop-one s (i + 1) h ∙ ap (λ k. get_or s (i + 1) 0 ∷ drop k s) e)

pub drop-last : (s : List ℕ) (i : ℕ) → i + 1 ≡ length s → drop i s ≡ get_or s i 0 ∷ []
drop-last s i h = drop-one s i (omega arith) ∙ ap (λ r. get_or s i 0 ∷ r) (drop_all (i + 1) s (omega arith))

-- ---- runs of units

units-plain : (b : ℕ) (bs : List ℕ) → b ≢ 92 → is_stop b ≡ false → units_len (b ∷ bs) ≡ 1 + units_len bs
units-plain b [] n s = let e = eqb-no b 92 n in rw (e, s) refl
units-plain b (c ∷ cs) n s = let e = eqb-no b 92 n in rw (e, s) refl

units-stop : (b : ℕ) (bs : List ℕ) → b ≢ 92 → is_stop b ≡ true → units_len (b ∷ bs) ≡ 0
units-stop b [] n s = let e = eqb-no b 92 n in rw (e, s) refl
units-stop b (c ∷ cs) n s = let e = eqb-no b 92 n in rw (e, s) refl

pub units_two : (s : List ℕ) (i : ℕ) → i + 1 < length s → get_or s i 0 ≡ 92 → units_len (drop i s) ≡ 2 + units_len (drop (i + 2) s)
units_two s i h b = rw (drop-two s i h, b) refl

pub units_one : (s : List ℕ) (i : ℕ) → i < length s → get_or s i 0 ≢ 92 → is_stop (get_or s i 0) ≡ false →
    units_len (drop i s) ≡ 1 + units_len (drop (i + 1) s)
units_one s i h n b = ap units_len (drop-one s i h) ∙ units-plain (get_or s i 0) (drop (i + 1) s) n b

pub units_none : (s : List ℕ) (i : ℕ) → i < length s → get_or s i 0 ≢ 92 → is_stop (get_or s i 0) ≡ true → units_len (drop i s) ≡ 0
units_none s i h n b = ap units_len (drop-one s i h) ∙ units-stop (get_or s i 0) (drop (i + 1) s) n b

pub units_last : (s : List ℕ) (i : ℕ) → i + 1 ≡ length s → get_or s i 0 ≡ 92 → units_len (drop i s) ≡ 0
units_last s i h b = rw (drop-last s i h, b) refl

pub units_end : (s : List ℕ) (i : ℕ) → length s ≤ i → units_len (drop i s) ≡ 0
units_end s i h = ap units_len (drop_all i s h)

pub ruleset unit_steps = (units_two, units_one, units_none, units_last, units_end)

-- ---- the first semicolon

pub semicolon-plain : (b : ℕ) (bs : List ℕ) → b ≢ 59 → b ≢ 92 → semicolon (b ∷ bs) ≡ plus 1 (semicolon bs)
semicolon-plain b [] n s = let e = eqb-no b 59 n in rw e refl
semicolon-plain b (c ∷ cs) n s = let e = eqb-no b 59 n in let f = eqb-no b 92 s in rw (e, f) refl

semicolon-here : (bs : List ℕ) → semicolon (59 ∷ bs) ≡ Some 0
semicolon-here [] = refl
semicolon-here (c ∷ cs) = refl

pub plus-plus : (m n : ℕ) (o : Option ℕ) → plus m (plus n o) ≡ plus (m + n) o
plus-plus m n None = refl
plus-plus m n (Some k) = ap Some (omega arith)

pub plus-zero : (o : Option ℕ) → plus 0 o ≡ o
plus-zero None = refl
plus-zero (Some k) = ap Some (omega arith)

pub semicolon_two : (s : List ℕ) (i : ℕ) → i + 1 < length s → get_or s i 0 ≡ 92 →
    plus i (semicolon (drop i s)) ≡ plus (i + 2) (semicolon (drop (i + 2) s))
semicolon_two s i h b = rw (drop-two s i h, b) (plus-plus i 2 (semicolon (drop (i + 2) s)))

pub semicolon_one : (s : List ℕ) (i : ℕ) → i < length s → get_or s i 0 ≢ 59 → get_or s i 0 ≢ 92 →
    plus i (semicolon (drop i s)) ≡ plus (i + 1) (semicolon (drop (i + 1) s))
semicolon_one s i h n b =
    ap (λ r. plus i (semicolon r)) (drop-one s i h) ∙ ap (plus i) (semicolon-plain (get_or s i 0) (drop (i + 1) s) n b)
    ∙ plus-plus i 1 (semicolon (drop (i + 1) s))

pub semicolon_found : (s : List ℕ) (i : ℕ) → i < length s → get_or s i 0 ≡ 59 → plus i (semicolon (drop i s)) ≡ Some i
semicolon_found s i h b =
    ap (λ r. plus i (semicolon r)) (drop-one s i h) ∙ rw b (ap (plus i) (semicolon-here (drop (i + 1) s)) ∙ ap Some (omega arith))

pub semicolon_last : (s : List ℕ) (i : ℕ) → i + 1 ≡ length s → get_or s i 0 ≡ 92 → plus i (semicolon (drop i s)) ≡ None
semicolon_last s i h b = rw (drop-last s i h, b) refl

pub semicolon_start : (s : List ℕ) → plus 0 (semicolon s) ≡ semicolon s
semicolon_start s = plus-zero (semicolon s)

pub ruleset semicolon_steps = (semicolon_two, semicolon_one, semicolon_found, semicolon_last, semicolon_start)

-- ---- white space

pub spaces_one : (s : List ℕ) (i : ℕ) → i < length s → is_space (get_or s i 0) ≡ true →
    prefix_len is_space (drop i s) ≡ 1 + prefix_len is_space (drop (i + 1) s)
spaces_one s i h b = prefix_len-drop_yes is_space s i 0 h b

pub spaces_none : (s : List ℕ) (i : ℕ) → i < length s → is_space (get_or s i 0) ≡ false → prefix_len is_space (drop i s) ≡ 0
spaces_none s i h b = prefix_len-drop_no is_space s i 0 h b

pub spaces_end : (s : List ℕ) (i : ℕ) → length s ≤ i → prefix_len is_space (drop i s) ≡ 0
spaces_end s i h = prefix_len-drop_all is_space s i h

pub ruleset space_steps = (spaces_one, spaces_none, spaces_end)
