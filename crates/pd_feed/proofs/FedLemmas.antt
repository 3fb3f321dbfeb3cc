-- What comes next in a script: white space before it, and bytes behind it.
use Rattle.std.proofs.Common.{◌≡◌, ◌≢◌, ℕ, ◌+◌, ◌<◌, ◌≤◌, Bool, true, false, ◌||◌, List, [], ◌∷◌, ◌++◌, length, Option, Some, None, refl, sym, ap, subst, ◌∙◌, arith, ◌⊎◌, inl, inr, length-append}
use Rattle.std.proofs.lemmas.Bool.Decides.{nat_tests}
use Rattle.std.specs.List.{prefix_len}
use Rattle.pd_lex.specs.Text.{is_space}
use Rattle.pd_lex.specs.Reading.{semicolon, plus}
use Rattle.pd_feed.specs.Scan.{scan_of, later}
use Rattle.pd_feed.specs.Script.{is_white, is_long, is_beyond, record_fed, rest_fed, fed_at, fed_of, is_shown}
use Rattle.pd_feed.proofs.ScanLemmas.{by_test, place_of, place_of-later, semicolon-scan, scan-append, scan-found, scan-white, white-append, begun_not_white}
use Rattle.pd_feed.specs.declared.scan.Scan.{Scan}
use Rattle.pd_feed.specs.declared.scan.Scan.TheVariants.{Found, Ended}
use Rattle.pd_feed.specs.declared.feed.Fed.TheVariants.{TooLong, Unfinished}

-- ---- white space before

pub semicolon-white : (ws bs : List ℕ) → is_white ws ≡ true → semicolon (ws ++ bs) ≡ plus (length ws) (semicolon bs)
semicolon-white ws bs h =
    semicolon-scan (ws ++ bs) ∙ ap place_of (scan-white ws bs h) ∙ place_of-later (length ws) (scan_of false bs)
    ∙ ap (plus (length ws)) (sym (semicolon-scan bs))

fed_at-white : (p b : ℕ) (ws bs : List ℕ) (o : Option ℕ) → is_white ws ≡ true → fed_at p b (ws ++ bs) (plus (length ws) o) ≡ fed_at p (b + length ws) bs o
fed_at-white p b ws bs (Some k) h = let e : b + (length ws + k) + 1 ≡ b + length ws + k + 1 = omega arith in ap (record_fed p) e
fed_at-white p b ws bs None h =
    let e : b + length (ws ++ bs) ≡ b + length ws + length bs = omega (arith, length-append ws bs) in
    ap (λ n. rest_fed p n (is_white (ws ++ bs))) e ∙ ap (rest_fed p (b + length ws + length bs)) (white-append ws bs h)

pub fed-white : (p b : ℕ) (ws bs : List ℕ) → is_white ws ≡ true → fed_of p b (ws ++ bs) ≡ fed_of p (b + length ws) bs
fed-white p b ws bs h = ap (fed_at p b (ws ++ bs)) (semicolon-white ws bs h) ∙ fed_at-white p b ws bs (semicolon bs) h

-- ---- bytes behind

pub not_white-append : (xs ys : List ℕ) → is_white xs ≡ false → is_white (xs ++ ys) ≡ false
not_white-append [] ys h = absurd (cc)
not_white-append (b ∷ xs) ys h =
    by_test (is_space b) (λ e. let q = rw e at h in rw e (not_white-append xs ys q)) (λ e. rw e refl)

-- a rest is shown where it is too long
pub record IsTooLong (p count : ℕ) (white : Bool) : Type 0 where
  pub why : (1073741824 < p + count) ⊎ ((white ≡ false) × (65536 < count))

pub rest_shown : (p count : ℕ) (white : Bool) → is_shown (rest_fed p count white) ≡ true → IsTooLong p count white
rest_shown p count white h =
    by_test (is_beyond (p + count)) (λ e. record { why = inl (grind (arith, nat_tests)) })
    (λ e.
    by_test white (λ w. absurd (let q = rw (e, w) at h in cc))
    (λ w.
    by_test (is_long count) (λ l. record { why = inr (w, grind (arith, nat_tests)) }) (λ l. absurd (let q = rw (e, w, l) at h in cc))))

long_record : (p count : ℕ) → (1073741824 < p + count) ⊎ (65536 < count) → record_fed p count ≡ TooLong
long_record p count (inl h) = let e : is_beyond (p + count) ≡ true = grind (arith, nat_tests) in by_test (is_long count) (λ l. rw l refl) (λ l. rw (l, e) refl)
long_record p count (inr h) = let e : is_long count ≡ true = grind (arith, nat_tests) in rw e refl

long_rest : (p count : ℕ) (white : Bool) → IsTooLong p count white → rest_fed p count white ≡ TooLong
long_rest p count white h =
    elim h.why [
      | inl g ↦ (let e : is_beyond (p + count) ≡ true = grind (arith, nat_tests) in rw e refl)
      | inr g ↦
          (let w = g.0 in
          let l : is_long count ≡ true = (let k = g.1 in grind (arith, nat_tests)) in
          by_test (is_beyond (p + count)) (λ e. rw e refl) (λ e. rw (e, w, l) refl))
    ]

more_record : (p count more : ℕ) (white : Bool) → IsTooLong p count white → count < more → record_fed p more ≡ TooLong
more_record p count more white h m =
    long_record p more (elim h.why [ inl g ↦ inl (omega (arith, g)) | inr g ↦ inr (omega (arith, g.1)) ])

more_rest : (p count more : ℕ) (white both : Bool) → IsTooLong p count white → count ≤ more → (white ≡ false → both ≡ false) → rest_fed p more both ≡ TooLong
more_rest p count more white both h m w =
    long_rest p more both (record { why = elim h.why [ inl g ↦ inl (omega (arith, g)) | inr g ↦ inr (w g.0, omega (arith, g.1)) ] })

fed_at-more : (p b : ℕ) (xs ys : List ℕ) (s : Scan) → IsTooLong p (b + length xs) (is_white xs) →
    fed_at p b (xs ++ ys) (place_of (later (length xs) s)) ≡ TooLong
fed_at-more p b xs ys (Found k) h = more_record p (b + length xs) (b + (length xs + k) + 1) (is_white xs) h (omega arith)
fed_at-more p b xs ys (Ended o) h =
    more_rest p (b + length xs) (b + length (xs ++ ys)) (is_white xs) (is_white (xs ++ ys)) h (omega (arith, length-append xs ys))
    (not_white-append xs ys)

fed-append_by : (p b : ℕ) (xs ys : List ℕ) (s : Scan) → scan_of false xs ≡ s → is_shown (fed_at p b xs (place_of s)) ≡ true →
    fed_of p b (xs ++ ys) ≡ fed_at p b xs (place_of s)
fed-append_by p b xs ys (Found k) e h =
    ap (fed_at p b (xs ++ ys)) (semicolon-scan (xs ++ ys) ∙ ap place_of (scan-found false xs ys k e))
fed-append_by p b xs ys (Ended o) e h =
    let t = rest_shown p (b + length xs) (is_white xs) h in
    ap (fed_at p b (xs ++ ys)) (semicolon-scan (xs ++ ys) ∙ ap place_of (scan-append false xs ys o e))
    ∙ fed_at-more p b xs ys (scan_of o ys) t ∙ sym (long_rest p (b + length xs) (is_white xs) t)

-- what the bytes show stays
pub fed-append : (p b : ℕ) (xs ys : List ℕ) → is_shown (fed_of p b xs) ≡ true → fed_of p b (xs ++ ys) ≡ fed_of p b xs
fed-append p b xs ys h =
    let e : fed_of p b xs ≡ fed_at p b xs (place_of (scan_of false xs)) = ap (fed_at p b xs) (semicolon-scan xs) in
    fed-append_by p b xs ys (scan_of false xs) refl (ap is_shown (sym e) ∙ h) ∙ sym e

by_scan : (xs ys : List ℕ) (k : ℕ) (s : Scan) → scan_of false xs ≡ s → place_of s ≡ Some k → semicolon (xs ++ ys) ≡ Some k
by_scan xs ys k (Found j) e h = semicolon-scan (xs ++ ys) ∙ ap place_of (scan-found false xs ys j e) ∙ h
by_scan xs ys k (Ended o) e h = absurd (cc)

pub semicolon-append : (xs ys : List ℕ) (k : ℕ) → semicolon xs ≡ Some k → semicolon (xs ++ ys) ≡ Some k
semicolon-append xs ys k h = by_scan xs ys k (scan_of false xs) refl (sym (semicolon-scan xs) ∙ h)

-- ---- bytes that show nothing

pub record IsSmall (p b : ℕ) (bytes : List ℕ) : Type 0 where
  pub none : semicolon bytes ≡ None
  pub in_script : p + b + length bytes ≤ 1073741824
  pub in_record : (length bytes ≡ 0) ⊎ (b + length bytes ≤ 65536)

unshown_rest : (p b : ℕ) (bytes : List ℕ) → semicolon bytes ≡ None → prefix_len is_space bytes ≡ 0 →
    is_shown (rest_fed p (b + length bytes) (is_white bytes)) ≡ false → IsSmall p b bytes
unshown_rest p b [] s n h =
    by_test (is_beyond (p + (b + 0))) (λ e. absurd (let q = rw e at h in cc))
    (λ e. record { none = s; in_script = grind (arith, nat_tests); in_record = inl refl })
unshown_rest p b (x ∷ xs) s n h =
    let w = begun_not_white x xs n in
    by_test (is_beyond (p + (b + length (x ∷ xs)))) (λ e. absurd (let q = rw e at h in cc))
    (λ e.
    by_test (is_long (b + length (x ∷ xs))) (λ l. absurd (let q = rw (e, w, l) at h in cc))
    (λ l. record { none = s; in_script = grind (arith, nat_tests); in_record = inr (grind (arith, nat_tests)) }))

record_is_shown : (p count : ℕ) → is_shown (record_fed p count) ≡ true
record_is_shown p count =
    by_test (is_long count || is_beyond (p + count)) (λ e. rw e refl) (λ e. rw e refl)

unshown_at : (p b : ℕ) (bytes : List ℕ) (o : Option ℕ) → semicolon bytes ≡ o → prefix_len is_space bytes ≡ 0 →
    is_shown (fed_at p b bytes o) ≡ false → IsSmall p b bytes
unshown_at p b bytes (Some k) s n h = absurd (let q = record_is_shown p (b + k + 1) in cc)
unshown_at p b bytes None s n h = unshown_rest p b bytes s n h

pub unshown : (p b : ℕ) (bytes : List ℕ) → prefix_len is_space bytes ≡ 0 → is_shown (fed_of p b bytes) ≡ false → IsSmall p b bytes
unshown p b bytes n h = unshown_at p b bytes (semicolon bytes) refl n h

-- ---- a rest

pub rest_test : (p b : ℕ) (bytes : List ℕ) → semicolon bytes ≡ None → prefix_len is_space bytes ≡ 0 → 0 < length bytes →
    p + (b + length bytes) ≤ 1073741824 → is_long (b + length bytes) ≡ is_shown (fed_of p b bytes)
rest_test p b [] s n z h = absurd (omega arith)
rest_test p b (x ∷ xs) s n z h =
    let w = begun_not_white x xs n in
    let e : is_beyond (p + (b + length (x ∷ xs))) ≡ false = grind (arith, nat_tests) in
    let f : is_shown (rest_fed p (b + length (x ∷ xs)) (is_white (x ∷ xs))) ≡ is_long (b + length (x ∷ xs)) =
    by_test (is_long (b + length (x ∷ xs))) (λ l. rw (e, w, l) refl) (λ l. rw (e, w, l) refl) in
    sym (ap (λ o. is_shown (fed_at p b (x ∷ xs) o)) s ∙ f)

unfinished_rest : (p b : ℕ) (bytes : List ℕ) → prefix_len is_space bytes ≡ 0 → length bytes ≢ 0 → is_shown (rest_fed p (b + length bytes) (is_white bytes)) ≡ false →
    Unfinished ≡ rest_fed p (b + length bytes) (is_white bytes)
unfinished_rest p b [] n z h = absurd (z refl)
unfinished_rest p b (x ∷ xs) n z h =
    let w = begun_not_white x xs n in
    by_test (is_beyond (p + (b + length (x ∷ xs)))) (λ e. absurd (let q = rw e at h in cc))
    (λ e. by_test (is_long (b + length (x ∷ xs))) (λ l. absurd (let q = rw (e, w, l) at h in cc)) (λ l. rw (e, w, l) refl))

pub unfinished_is : (p b : ℕ) (bytes : List ℕ) → prefix_len is_space bytes ≡ 0 → length bytes ≢ 0 → is_shown (fed_of p b bytes) ≡ false → Unfinished ≡ fed_of p b bytes
unfinished_is p b bytes n z h =
    let s = (unshown p b bytes n h).none in
    unfinished_rest p b bytes n z (ap (λ o. is_shown (fed_at p b bytes o)) (sym s) ∙ h) ∙ ap (fed_at p b bytes) (sym s)

-- ---- a record found, or none

found_shown : (p b : ℕ) (bytes : List ℕ) (k : ℕ) (o : Option ℕ) → o ≡ Some k → is_shown (fed_at p b bytes o) ≡ true
found_shown p b bytes k o e = subst (λ v. is_shown (fed_at p b bytes v) ≡ true) (sym e) (record_is_shown p (b + k + 1))

pub found_is_shown : (p b : ℕ) (bytes : List ℕ) (k : ℕ) → semicolon bytes ≡ Some k → is_shown (fed_of p b bytes) ≡ true
found_is_shown p b bytes k e = found_shown p b bytes k (semicolon bytes) e

pub too_long_is : (p b : ℕ) (bytes : List ℕ) → semicolon bytes ≡ None → is_shown (fed_of p b bytes) ≡ true → TooLong ≡ fed_of p b bytes
too_long_is p b bytes s h =
    let e : fed_of p b bytes ≡ rest_fed p (b + length bytes) (is_white bytes) = ap (fed_at p b bytes) s in
    let t = rest_shown p (b + length bytes) (is_white bytes) (ap is_shown (sym e) ∙ h) in
    sym (e ∙ long_rest p (b + length bytes) (is_white bytes) t)
