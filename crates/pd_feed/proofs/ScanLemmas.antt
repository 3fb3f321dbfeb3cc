-- The semicolon that ends a record, found byte by byte.
use Rattle.std.proofs.Common.{◌≡◌, ℕ, zero, suc, ◌+◌, ◌<◌, Bool, true, false, not, ◌&&◌, List, [], ◌∷◌, ◌++◌, length, take, drop, Option, Some, None, refl, sym, ap, ◌∙◌, subst, arith, eqb}
use Rattle.std.proofs.lemmas.Bool.Decides.{nat_tests}
use Rattle.std.specs.List.{prefix_len}
use Rattle.pd_lex.specs.Text.{is_space}
use Rattle.pd_lex.specs.Reading.{semicolon, plus, is_body}
use Rattle.pd_feed.specs.Scan.{scan_of, later}
use Rattle.pd_feed.specs.Script.{is_white}
use Rattle.pd_feed.proofs.Steps.{later-later, later-zero}
use Rattle.pd_feed.specs.declared.scan.Scan.{Scan}
use Rattle.pd_feed.specs.declared.scan.Scan.TheVariants.{Found, Ended}

-- a test is true or false
pub by_test : {P : Type 0} (b : Bool) → (b ≡ true → P) → (b ≡ false → P) → P
by_test {P} b t f = elim b as (λ v. (v ≡ true → P) → (v ≡ false → P) → P) [ true ↦ (λ y n. y refl) | false ↦ (λ y n. n refl) ] t f

-- ---- the place that a scan found

abbrev pub place_of : Scan → Option ℕ
place_of (Found k) = Some k
place_of (Ended e) = None

pub place_of-later : (n : ℕ) (s : Scan) → place_of (later n s) ≡ plus n (place_of s)
place_of-later n (Found k) = refl
place_of-later n (Ended e) = refl

plus-plus : (m n : ℕ) (o : Option ℕ) → plus m (plus n o) ≡ plus (m + n) o
plus-plus m n None = refl
plus-plus m n (Some k) = ap Some (omega arith)

not_backslash : (b : ℕ) → eqb b 59 ≡ true → eqb b 92 ≡ false
not_backslash b h = grind (arith, nat_tests)

pub semicolon-scan : (bs : List ℕ) → semicolon bs ≡ place_of (scan_of false bs)
semicolon-scan [] = refl
semicolon-scan (b ∷ []) = by_test (eqb b 59) (λ e. rw e refl) (λ e. rw e refl)
semicolon-scan (b ∷ c ∷ cs) =
    by_test (eqb b 59) (λ e. rw e refl)
    (λ e.
    by_test (eqb b 92)
    (λ f.
    rw (e, f)
    (ap (plus 2) (semicolon-scan cs) ∙ sym (plus-plus 1 1 (place_of (scan_of false cs))) ∙ ap (plus 1) (sym (place_of-later 1 (scan_of false cs)))
    ∙ sym (place_of-later 1 (later 1 (scan_of false cs)))))
    (λ f. rw (e, f) (ap (plus 1) (semicolon-scan (c ∷ cs)) ∙ sym (place_of-later 1 (scan_of false (c ∷ cs))))))

-- ---- more bytes behind

later-ended : (n : ℕ) (s : Scan) (e : Bool) → later n s ≡ Ended e → s ≡ Ended e
later-ended n (Found k) e h = absurd (cc)
later-ended n (Ended x) e h = h

later-found : (n : ℕ) (s : Scan) (k : ℕ) → later n s ≡ Found k → (j : ℕ) × (s ≡ Found j) × (k ≡ n + j)
later-found n (Found j) k h = (j, refl, (let q : n + j ≡ k = cc in sym q))
later-found n (Ended x) k h = absurd (cc)

-- bytes without the semicolon, and then others
pub scan-append : (e : Bool) (xs ys : List ℕ) (o : Bool) → scan_of e xs ≡ Ended o → scan_of e (xs ++ ys) ≡ later (length xs) (scan_of o ys)
scan-append e [] ys o h = let q : e ≡ o = cc in ap (λ v. scan_of v ys) q ∙ sym (later-zero (scan_of o ys))
scan-append e (b ∷ xs) ys o h =
    by_test (not e && eqb b 59) (λ t. absurd (let q = rw t at h in cc))
    (λ t.
    let q = later-ended 1 (scan_of (not e && eqb b 92) xs) o (rw t at h) in
    let n : 1 + length xs ≡ suc (length xs) = omega arith in
    rw t
    (ap (later 1) (scan-append (not e && eqb b 92) xs ys o q) ∙ later-later 1 (length xs) (scan_of o ys)
    ∙ ap (λ k. later k (scan_of o ys)) n))

-- bytes with the semicolon, and then others
pub scan-found : (e : Bool) (xs ys : List ℕ) (k : ℕ) → scan_of e xs ≡ Found k → scan_of e (xs ++ ys) ≡ Found k
scan-found e [] ys k h = absurd (cc)
scan-found e (b ∷ xs) ys k h =
    by_test (not e && eqb b 59) (λ t. let q = rw t at h in rw t q)
    (λ t.
    let q = later-found 1 (scan_of (not e && eqb b 92) xs) k (rw t at h) in
    rw t (ap (later 1) (scan-found (not e && eqb b 92) xs ys q.0 q.1) ∙ ap Found (sym q.2)))

pub found-within : (e : Bool) (xs : List ℕ) (k : ℕ) → scan_of e xs ≡ Found k → k < length xs
found-within e [] k h = absurd (cc)
found-within e (b ∷ xs) k h =
    by_test (not e && eqb b 59) (λ t. let q : 0 ≡ k = (let r = rw t at h in cc) in omega arith)
    (λ t.
    let q = later-found 1 (scan_of (not e && eqb b 92) xs) k (rw t at h) in
    omega (arith, found-within (not e && eqb b 92) xs q.0 q.1, q.2))

-- ---- white space

pub record IsBlank (b : ℕ) : Type 0 where
  pub semicolon : eqb b 59 ≡ false
  pub backslash : eqb b 92 ≡ false

blank : (b : ℕ) → is_space b ≡ true → IsBlank b
blank b h = record { semicolon = grind (arith, nat_tests); backslash = grind (arith, nat_tests) }

pub white-head : (b : ℕ) (bs : List ℕ) → is_white (b ∷ bs) ≡ true → (is_space b ≡ true) × (is_white bs ≡ true)
white-head b bs h = by_test (is_space b) (λ e. (e, rw e at h)) (λ e. absurd (let q = rw e at h in cc))

pub scan-white : (ws bs : List ℕ) → is_white ws ≡ true → scan_of false (ws ++ bs) ≡ later (length ws) (scan_of false bs)
scan-white [] bs h = sym (later-zero (scan_of false bs))
scan-white (b ∷ ws) bs h =
    let p = white-head b ws h in
    let i = blank b p.0 in
    let e = i.semicolon in
    let f = i.backslash in
    let n : 1 + length ws ≡ suc (length ws) = omega arith in
    rw (e, f)
    (ap (later 1) (scan-white ws bs p.1) ∙ later-later 1 (length ws) (scan_of false bs) ∙ ap (λ k. later k (scan_of false bs)) n)

pub white-append : (ws bs : List ℕ) → is_white ws ≡ true → is_white (ws ++ bs) ≡ is_white bs
white-append [] bs h = refl
white-append (b ∷ ws) bs h = let p = white-head b ws h in let e = p.0 in rw e (white-append ws bs p.1)

pub prefix-white : (ws bs : List ℕ) → is_white ws ≡ true → prefix_len is_space (ws ++ bs) ≡ length ws + prefix_len is_space bs
prefix-white [] bs h = omega arith
prefix-white (b ∷ ws) bs h = let p = white-head b ws h in let e = p.0 in rw e (omega (arith, prefix-white ws bs p.1))

-- the white space at the front is white, and none is behind it
pub white-prefix : (bs : List ℕ) → is_white (take (prefix_len is_space bs) bs) ≡ true
white-prefix [] = refl
white-prefix (b ∷ bs) =
    by_test (is_space b)
    (λ e. let s : 1 + prefix_len is_space bs ≡ suc (prefix_len is_space bs) = omega arith in rw (e, s, e) (white-prefix bs))
    (λ e. rw e refl)

pub prefix-prefix : (bs : List ℕ) → prefix_len is_space (drop (prefix_len is_space bs) bs) ≡ 0
prefix-prefix [] = refl
prefix-prefix (b ∷ bs) =
    by_test (is_space b)
    (λ e. let s : 1 + prefix_len is_space bs ≡ suc (prefix_len is_space bs) = omega arith in rw (e, s) (prefix-prefix bs))
    (λ e. rw (e, e) refl)

-- bytes that begin with another byte aren't white space alone
pub begun_not_white : (b : ℕ) (bs : List ℕ) → prefix_len is_space (b ∷ bs) ≡ 0 → is_white (b ∷ bs) ≡ false
begun_not_white b bs h = by_test (is_space b) (λ e. absurd (let q = rw e at h in omega arith)) (λ e. rw e refl)

pub prefix_take : (k : ℕ) (bs : List ℕ) → prefix_len is_space bs ≡ 0 → prefix_len is_space (take k bs) ≡ 0
prefix_take zero bs h = refl
prefix_take (suc k) [] h = refl
prefix_take (suc k) (b ∷ bs) h = by_test (is_space b) (λ e. absurd (let q = rw e at h in omega arith)) (λ e. rw e refl)

-- ---- what stands before the semicolon

body-plain : (b : ℕ) (bs : List ℕ) → eqb b 59 ≡ false → eqb b 92 ≡ false → is_body (b ∷ bs) ≡ is_body bs
body-plain b [] e f = rw (f, e) refl
body-plain b (c ∷ cs) e f = rw (f, e) refl

body-escape : (b c : ℕ) (cs : List ℕ) → eqb b 92 ≡ true → is_body (b ∷ c ∷ cs) ≡ is_body cs
body-escape b c cs f = rw f refl

plus-some : (n k : ℕ) (o : Option ℕ) → plus n o ≡ Some k → (m : ℕ) × (o ≡ Some m) × (n + m ≡ k)
plus-some n k None h = absurd (cc)
plus-some n k (Some m) h = (m, refl, (let e : n + m ≡ k = cc in e))

semicolon-escape : (b c : ℕ) (cs : List ℕ) → eqb b 59 ≡ false → eqb b 92 ≡ true → semicolon (b ∷ c ∷ cs) ≡ plus 2 (semicolon cs)
semicolon-escape b c cs e f = rw (e, f) refl

semicolon-plain : (b c : ℕ) (cs : List ℕ) → eqb b 59 ≡ false → eqb b 92 ≡ false → semicolon (b ∷ c ∷ cs) ≡ plus 1 (semicolon (c ∷ cs))
semicolon-plain b c cs e f = rw (e, f) refl

pub body_found : (bs : List ℕ) (k : ℕ) → semicolon bs ≡ Some k → is_body (take k bs) ≡ true
body_found [] k h = absurd (cc)
body_found (b ∷ []) k h =
    by_test (eqb b 59) (λ e. let q : 0 ≡ k = (let r = rw e at h in cc) in subst (λ j. is_body (take j (b ∷ [])) ≡ true) q refl)
    (λ e. absurd (let q = rw e at h in cc))
body_found (b ∷ c ∷ cs) k h =
    by_test (eqb b 59) (λ e. let q : 0 ≡ k = (let r = rw e at h in cc) in subst (λ j. is_body (take j (b ∷ c ∷ cs)) ≡ true) q refl)
    (λ e.
    by_test (eqb b 92)
    (λ f.
    let p = plus-some 2 k (semicolon cs) (sym (semicolon-escape b c cs e f) ∙ h) in
    let z : suc (suc p.0) ≡ k = omega (arith, p.2) in
    subst (λ j. is_body (take j (b ∷ c ∷ cs)) ≡ true) z (body-escape b c (take p.0 cs) f ∙ body_found cs p.0 p.1))
    (λ f.
    let p = plus-some 1 k (semicolon (c ∷ cs)) (sym (semicolon-plain b c cs e f) ∙ h) in
    let z : suc p.0 ≡ k = omega (arith, p.2) in
    subst (λ j. is_body (take j (b ∷ c ∷ cs)) ≡ true) z (body-plain b (take p.0 (c ∷ cs)) e f ∙ body_found (c ∷ cs) p.0 p.1)))
