-- Runs of bytes that are copied at once.
use Rattle.std.proofs.Common.{◌≡◌, ◌≢◌, ℕ, zero, suc, ◌+◌, ◌-◌, ◌<◌, ◌≤◌, Bool, false, true, not, ltb, List, [], ◌∷◌, ◌++◌, length, get_or, take, drop, Some, None, Result, Ok, Err, refl, sym, ap, ◌∙◌, arith, length-drop, length-append, append_assoc, cond}
use Rattle.std.specs.Prelude.{slice_range}
use Rattle.std.proofs.lemmas.Bool.Decides.{nat_tests}
use Rattle.std.proofs.lemmas.List.Sums.{prefix_len_passes}
use Rattle.std.proofs.lemmas.List.{append-nil, drop-drop, take_all, drop_all, get_or-drop, take-append-drop, take-append-le}
use Rattle.std.proofs.Math.Seq.{take-add}
use Rattle.std.specs.List.{position, prefix_len}
use Rattle.std.specs.Result.{is_ok, is_err, OnOk}
use Rattle.std.proofs.lemmas.List.Quantifiers.{position-Some}
use Rattle.memchr.specs.Find.{IsFirstByte, is_byte}
use Rattle.pd_lex.specs.Text.{unescaped, escaped, is_special, IsEscape, IsSpecial}
use Rattle.pd_lex.proofs.Laws.{by_test, eqb-is}
use Rattle.pd_lex.proofs.Steps.{drop-one, drop-two, drop-last, eqb-no}

-- ---- parts of a slice, one behind the other

-- from `from` up to k by way of `at`
range-join : (s : List ℕ) (from at k : ℕ) → from ≤ at → at ≤ k → slice_range s from at ++ slice_range s at k ≡ slice_range s from k
range-join s from at k h g =
    let m : at - from + (k - at) ≡ k - from = omega arith in
    let d : drop (at - from) (drop from s) ≡ drop at s =
    drop-drop (at - from) from s ∙ ap (λ x. drop x s) (let q : from + (at - from) ≡ at = omega arith in q) in
    ap (λ x. take (at - from) (drop from s) ++ take (k - at) x) (sym d) ∙ sym (take-add (at - from) (k - at) (drop from s))
    ∙ ap (λ x. take x (drop from s)) m

range-tail : (s : List ℕ) (from at : ℕ) → from ≤ at → slice_range s from at ++ drop at s ≡ drop from s
range-tail s from at h =
    let d : drop (at - from) (drop from s) ≡ drop at s =
    drop-drop (at - from) from s ∙ ap (λ x. drop x s) (let q : from + (at - from) ≡ at = omega arith in q) in
    ap (λ x. take (at - from) (drop from s) ++ x) (sym d) ∙ take-append-drop (at - from) (drop from s)

range-one : (s : List ℕ) (k j : ℕ) → k < length s → j ≡ k + 1 → slice_range s k j ≡ get_or s k 0 ∷ []
range-one s k j h e =
    let m : j - k ≡ suc zero = omega arith in
    ap (λ n. take n (drop k s)) m ∙ ap (take (suc zero)) (drop-one s k h)

-- a call that didn't fail did what it does where it doesn't
pub after_ok : {T E P : Type 0} (r : Result T E) → is_err r ≡ false → OnOk r P → P
after_ok (Ok x) e p = p
after_ok (Err x) e p = absurd (cc)

pub when_ok : {T E P : Type 0} (r : Result T E) → is_ok r ≡ true → OnOk r P → P
when_ok (Ok x) e p = p
when_ok (Err x) e p = absurd (cc)

-- what stood in front stays there when more is put behind it
pub kept : (n : ℕ) (out put now xs ys old : List ℕ) → n ≤ length out → put ≡ out ++ xs → now ≡ put ++ ys → take n out ≡ old → take n now ≡ old
kept n out put now xs ys old h p q t =
    let len : n ≤ length (out ++ xs) = omega (arith, length-append out xs) in
    ap (take n) (q ∙ ap (λ x. x ++ ys) p) ∙ take-append-le n (out ++ xs) ys len ∙ take-append-le n out xs h ∙ t

pub extended_ok : {T E : Type 0} (r : Result T E) (now was ys want : List ℕ) → now ≡ cond (is_ok r) (was ++ ys) was →
    (now ≡ was ++ ys → now ≡ want) → OnOk r (now ≡ want)
extended_ok (Ok x) now was ys want h f = f h
extended_ok (Err x) now was ys want h f = tt

-- ---- without escapes

unescaped-plain : (b : ℕ) (bs : List ℕ) → b ≢ 92 → unescaped (b ∷ bs) ≡ b ∷ unescaped bs
unescaped-plain b [] n = refl
unescaped-plain b (c ∷ cs) n = let e = eqb-no b 92 n in rw e refl

unescaped-run : (s : List ℕ) (k : ℕ) → k ≤ length s → ((j : ℕ) → j < k → is_byte 92 (get_or s j 0) ≡ true → ⊥) →
    unescaped s ≡ take k s ++ unescaped (drop k s)
unescaped-run s zero h n = refl
unescaped-run [] (suc k) h n = absurd (omega arith)
unescaped-run (b ∷ bs) (suc k) h n =
    let here : is_byte 92 b ≡ true → ⊥ = n 0 (omega arith) in
    let no92 : b ≢ 92 = (λ e. here (ap (is_byte 92) e)) in
    unescaped-plain b bs no92 ∙ ap (λ r. b ∷ r) (unescaped-run bs k (omega arith) (λ j l. n (suc j) (omega arith)))

pub no_escape : (token : List ℕ) (at : ℕ) → IsFirstByte (is_byte 92) (drop at token) None → unescaped (drop at token) ≡ drop at token
no_escape token at h =
    let s : List ℕ = drop at token in
    let z : drop (length s) s ≡ [] = drop_all (length s) s (omega arith) in
    unescaped-run s (length s) (omega arith) (λ j l. h j (omega arith) l)
    ∙ ap (λ r. take (length s) s ++ unescaped r) z ∙ append-nil (take (length s) s) ∙ take_all (length s) s (omega arith)

-- the bytes up to a backslash
to_backslash : (token : List ℕ) (at k : ℕ) → IsFirstByte (is_byte 92) (drop at token) (Some k) →
    unescaped (drop at token) ≡ slice_range token at (at + k) ++ unescaped (drop (at + k) token)
to_backslash token at k f =
    let n = f.0 in
    let m : at + k - at ≡ k = omega arith in
    unescaped-run (drop at token) k (omega (arith, n.high)) (λ j l. n.before j (omega arith) l)
    ∙ ap (λ r. take k (drop at token) ++ unescaped r) (drop-drop k at token)
    ∙ ap (λ x. take x (drop at token) ++ unescaped (drop (at + k) token)) (sym m)

-- the byte at the place that was found is a backslash, and within the token
backslash_at : (token : List ℕ) (at k : ℕ) → at ≤ length token → IsFirstByte (is_byte 92) (drop at token) (Some k) →
    (at + k < length token) × (get_or token (at + k) 0 ≡ 92)
backslash_at token at k h f =
    let n = f.0 in
    let same : get_or (drop at token) k 0 ≡ get_or token (at + k) 0 = get_or-drop at token k 0 in
    (omega (arith, n.high, length-drop at token), sym same ∙ eqb-is (get_or (drop at token) k 0) 92 f.1)

pub lone_backslash : (token : List ℕ) (at k : ℕ) → at ≤ length token → IsFirstByte (is_byte 92) (drop at token) (Some k) → at + k + 1 ≡ length token →
    unescaped (drop at token) ≡ drop at token
lone_backslash token at k h f e =
    let b = backslash_at token at k h f in
    let d : drop (at + k) token ≡ get_or token (at + k) 0 ∷ [] = drop-last token (at + k) e in
    to_backslash token at k f ∙ ap (λ r. slice_range token at (at + k) ++ r) (ap unescaped d ∙ sym d) ∙ range-tail token at (at + k) (omega arith)

pub escape_at : (token : List ℕ) (at k : ℕ) → at ≤ length token → IsFirstByte (is_byte 92) (drop at token) (Some k) → at + k + 1 ≢ length token →
    IsEscape token at (at + k)
escape_at token at k h f e =
    let b = backslash_at token at k h f in
    let more : at + k + 1 < length token = omega (arith, b.0) in
    let is : get_or token (at + k) 0 ≡ 92 = b.1 in
    let u : unescaped (drop (at + k) token) ≡ get_or token (at + k + 1) 0 ∷ unescaped (drop (at + k + 2) token) =
    rw (drop-two token (at + k) more, is) refl in
    record {
      from = omega arith;
      within = more;
      bytes = to_backslash token at k f ∙ ap (λ r. slice_range token at (at + k) ++ r) u;
    }

-- one more run and the byte behind the backslash
pub unescape_step : (token out now : List ℕ) (from at k : ℕ) → from ≤ at → IsEscape token at k → now ≡ out ++ slice_range token from k →
    out ++ (slice_range token from at ++ unescaped (drop at token)) ≡ unescaped token →
    now ++ (slice_range token (k + 1) (k + 2) ++ unescaped (drop (k + 2) token)) ≡ unescaped token
unescape_step token out now from at k h e n t =
    let g : ℕ = get_or token (k + 1) 0 in
    let u : List ℕ = unescaped (drop (k + 2) token) in
    let one : slice_range token (k + 1) (k + 2) ≡ g ∷ [] = range-one token (k + 1) (k + 2) e.within (omega arith) in
    ap (λ x. now ++ (x ++ u)) one ∙ ap (λ x. x ++ g ∷ u) n ∙ append_assoc out (slice_range token from k) (g ∷ u)
    ∙ ap (λ x. out ++ x)
    (ap (λ x. x ++ g ∷ u) (sym (range-join token from at k h e.from)) ∙ append_assoc (slice_range token from at) (slice_range token at k) (g ∷ u)
    ∙ ap (λ x. slice_range token from at ++ x) (sym e.bytes))
    ∙ t

-- the bytes that are left, without an escape among them
pub unescape_end : (token out now : List ℕ) (from at : ℕ) → from ≤ at → unescaped (drop at token) ≡ drop at token →
    now ≡ out ++ drop from token → out ++ (slice_range token from at ++ unescaped (drop at token)) ≡ unescaped token → now ≡ unescaped token
unescape_end token out now from at h u n t =
    n ∙ ap (λ x. out ++ x) (sym (range-tail token from at h) ∙ ap (λ x. slice_range token from at ++ x) (sym u)) ∙ t

-- ---- with escapes

escaped-run : (s : List ℕ) (k : ℕ) → k ≤ length s → ((j : ℕ) → j < k → is_special (get_or s j 0) ≡ false) → escaped s ≡ take k s ++ escaped (drop k s)
escaped-run s zero h n = refl
escaped-run [] (suc k) h n = absurd (omega arith)
escaped-run (b ∷ bs) (suc k) h n =
    let e : is_special b ≡ false = n 0 (omega arith) in
    rw e (ap (λ r. b ∷ r) (escaped-run bs k (omega arith) (λ j l. n (suc j) (omega arith))))

pub escape_step : (name out put now old : List ℕ) (from at k : ℕ) → from ≤ at → IsSpecial name at k → put ≡ out ++ slice_range name from k →
    now ≡ put ++ 92 ∷ [] → out ++ (slice_range name from at ++ escaped (drop at name)) ≡ old ++ escaped name →
    now ++ (slice_range name k (k + 1) ++ escaped (drop (k + 1) name)) ≡ old ++ escaped name
escape_step name out put now old from at k h e p n t =
    let g : ℕ = get_or name k 0 in
    let u : List ℕ = escaped (drop (k + 1) name) in
    let one : slice_range name k (k + 1) ≡ g ∷ [] = range-one name k (k + 1) e.within refl in
    ap (λ x. now ++ (x ++ u)) one ∙ ap (λ x. x ++ g ∷ u) n ∙ append_assoc put (92 ∷ []) (g ∷ u) ∙ ap (λ x. x ++ 92 ∷ g ∷ u) p
    ∙ append_assoc out (slice_range name from k) (92 ∷ g ∷ u)
    ∙ ap (λ x. out ++ x)
    (ap (λ x. x ++ 92 ∷ g ∷ u) (sym (range-join name from at k h e.from))
    ∙ append_assoc (slice_range name from at) (slice_range name at k) (92 ∷ g ∷ u)
    ∙ ap (λ x. slice_range name from at ++ x) (sym e.bytes))
    ∙ t

pub escape_end : (name out now old : List ℕ) (from at : ℕ) → from ≤ at → escaped (drop at name) ≡ drop at name → now ≡ out ++ drop from name →
    out ++ (slice_range name from at ++ escaped (drop at name)) ≡ old ++ escaped name → now ≡ old ++ escaped name
escape_end name out now old from at h u n t =
    n ∙ ap (λ x. out ++ x) (sym (range-tail name from at h) ∙ ap (λ x. slice_range name from at ++ x) (sym u)) ∙ t

not_true : (b : Bool) → not b ≡ true → b ≡ false
not_true true e = absurd (cc)
not_true false e = refl

position_none : (s : List ℕ) → position is_special s ≡ None → length s ≤ prefix_len (λ x. not (is_special x)) s
position_none s h =
    by_test (ltb (prefix_len (λ x. not (is_special x)) s) (length s)) (λ e. absurd (let q = rw e at h in cc)) (λ e. grind (arith, nat_tests))

pub no_special : (name : List ℕ) (at : ℕ) → position is_special (drop at name) ≡ None → escaped (drop at name) ≡ drop at name
no_special name at h =
    let s : List ℕ = drop at name in
    let z : drop (length s) s ≡ [] = drop_all (length s) s (omega arith) in
    let all : length s ≤ prefix_len (λ x. not (is_special x)) s = position_none s h in
    escaped-run s (length s) (omega arith) (λ j l. not_true (is_special (get_or s j 0)) (prefix_len_passes (λ x. not (is_special x)) s j 0 (omega arith)))
    ∙ ap (λ r. take (length s) s ++ escaped r) z ∙ append-nil (take (length s) s) ∙ take_all (length s) s (omega arith)

pub special_at : (name : List ℕ) (at k : ℕ) → at ≤ length name → position is_special (drop at name) ≡ Some k → IsSpecial name at (at + k)
special_at name at k h f =
    let p = position-Some is_special (drop at name) k 0 f in
    let within : at + k < length name = omega (arith, p.0, length-drop at name) in
    let m : at + k - at ≡ k = omega arith in
    let same : get_or (drop at name) k 0 ≡ get_or name (at + k) 0 = get_or-drop at name k 0 in
    let e : is_special (get_or name (at + k) 0) ≡ true = ap is_special (sym same) ∙ p.1 in
    let u : escaped (drop (at + k) name) ≡ 92 ∷ get_or name (at + k) 0 ∷ escaped (drop (at + k + 1) name) =
    rw (drop-one name (at + k) within, e) refl in
    record {
      from = omega arith;
      within = within;
      bytes =
          escaped-run (drop at name) k (omega (arith, p.0)) p.2
          ∙ ap (λ r. take k (drop at name) ++ escaped r) (drop-drop k at name)
          ∙ ap (λ x. take x (drop at name) ++ escaped (drop (at + k) name)) (sym m)
          ∙ ap (λ r. slice_range name at (at + k) ++ r) u;
    }
