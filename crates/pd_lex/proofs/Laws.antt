-- What a step says of the whole list.
use Rattle.std.proofs.Common.{◌≡◌, ◌≢◌, ℕ, suc, ◌+◌, ◌-◌, ◌<◌, ◌≤◌, Bool, true, false, ◌||◌, List, [], ◌∷◌, ◌++◌, length, get_or, take, drop, Option, Some, None, refl, sym, ap, ◌∙◌, subst, arith, add-one, eqb, length-take, length-drop, append_assoc}
use Rattle.std.specs.Prelude.{slice_range}
use Rattle.std.proofs.lemmas.Bool.Decides.{nat_tests}
use Rattle.std.proofs.lemmas.List.{append-nil, drop_all, drop-drop, drop-take, take-take, take_all}
use Rattle.std.proofs.lemmas.Bool.{or_parts, or_from}
use Rattle.std.specs.List.{prefix_len}
use Rattle.std.proofs.lemmas.List.Sums.{prefix_len_stops}
use Rattle.pd_lex.proofs.Steps.{drop-one, eqb-no, eqb-yes}
use Rattle.pd_lex.specs.Text.{is_space, is_stop, AreSpaces, Piece}
use Rattle.pd_lex.specs.Text.Piece.{Word, Comma}
use Rattle.pd_lex.specs.Reading.{units_len, semicolon, plus, is_body, flush, comma_at, pieces_after, pieces, records_after, records, IsFirst, IsNext, Reads, step_at}
use Rattle.pd_lex.specs.declared.Step.TheVariants.{Rec, End}

-- a test is true or false
pub by_test : {P : Type 0} (b : Bool) → (b ≡ true → P) → (b ≡ false → P) → P
by_test {P} b t f = elim b as (λ v. (v ≡ true → P) → (v ≡ false → P) → P) [ true ↦ (λ y n. y refl) | false ↦ (λ y n. n refl) ] t f

pub eqb-is : (m n : ℕ) → eqb m n ≡ true → m ≡ n
eqb-is m n h = grind (arith, nat_tests)

pub record IsBlank (b : ℕ) : Type 0 where
  pub stop : is_stop b ≡ true
  pub comma : eqb b 44 ≡ false
  pub semicolon : eqb b 59 ≡ false
  pub backslash : eqb b 92 ≡ false

pub blank : (b : ℕ) → is_space b ≡ true → IsBlank b
blank b h =
    record {
      stop = ap (λ v. v || eqb b 44 || eqb b 59) h;
      comma = grind (arith, nat_tests);
      semicolon = grind (arith, nat_tests);
      backslash = grind (arith, nat_tests);
    }

-- ---- records

pub plus_is : (n k : ℕ) (o : Option ℕ) → plus n o ≡ Some k → (m : ℕ) × (o ≡ Some m) × (k ≡ n + m)
plus_is n k None h = absurd (cc)
plus_is n k (Some m) h = (m, refl, (let e : n + m ≡ k = cc in sym e))

pub plus_none : (n : ℕ) (o : Option ℕ) → plus n o ≡ None → o ≡ None
plus_none n None h = refl
plus_none n (Some m) h = absurd (cc)

abbrev pub Ends : List ℕ → List ℕ → ℕ → Type 0
Ends w bs k =
    (is_body (take k bs) ≡ true) × (records_after w bs ≡ pieces (w ++ take k bs) ∷ records_after [] (drop (suc k) bs))

pub body-plain : (b : ℕ) (bs : List ℕ) → eqb b 59 ≡ false → eqb b 92 ≡ false → is_body (b ∷ bs) ≡ is_body bs
body-plain b [] e f = rw (f, e) refl
body-plain b (c ∷ cs) e f = rw (f, e) refl

ends_escape : (w : List ℕ) (b c : ℕ) (cs : List ℕ) (k m : ℕ) → eqb b 59 ≡ false → eqb b 92 ≡ true → k ≡ 2 + m →
    Ends (w ++ b ∷ c ∷ []) cs m → Ends w (b ∷ c ∷ cs) k
ends_escape w b c cs k m e f is r =
    let z : suc (suc m) ≡ k = omega arith in
    subst (Ends w (b ∷ c ∷ cs)) z (
      rw f r.0,
      rw (e, f) (r.1 ∙ ap (λ v. pieces v ∷ records_after [] (drop (suc m) cs)) (append_assoc w (b ∷ c ∷ []) (take m cs))),
    )

ends_plain : (w : List ℕ) (b c : ℕ) (cs : List ℕ) (k m : ℕ) → eqb b 59 ≡ false → eqb b 92 ≡ false → k ≡ 1 + m →
    Ends (w ++ b ∷ []) (c ∷ cs) m → Ends w (b ∷ c ∷ cs) k
ends_plain w b c cs k m e f is r =
    let z : suc m ≡ k = omega arith in
    subst (Ends w (b ∷ c ∷ cs)) z (
      body-plain b (take m (c ∷ cs)) e f ∙ r.0,
      rw (e, f) (r.1 ∙ ap (λ v. pieces v ∷ records_after [] (drop (suc m) (c ∷ cs))) (append_assoc w (b ∷ []) (take m (c ∷ cs)))),
    )

ends_here : (w : List ℕ) (b : ℕ) (bs : List ℕ) (k : ℕ) → eqb b 59 ≡ true → 0 ≡ k → Ends w (b ∷ bs) k
ends_here w b [] k e z = subst (Ends w (b ∷ [])) z (refl, rw e (ap (λ v. pieces v ∷ []) (sym (append-nil w))))
ends_here w b (c ∷ cs) k e z =
    subst (Ends w (b ∷ c ∷ cs)) z (refl, rw e (ap (λ v. pieces v ∷ records_after [] (c ∷ cs)) (sym (append-nil w))))

ends : (w bs : List ℕ) (k : ℕ) → semicolon bs ≡ Some k → Ends w bs k
ends w [] k h = absurd (cc)
ends w (b ∷ []) k h =
    by_test (eqb b 59) (λ e. ends_here w b [] k e (let q = rw e at h in cc)) (λ e. absurd (let q = rw e at h in cc))
ends w (b ∷ c ∷ cs) k h =
    by_test (eqb b 59) (λ e. ends_here w b (c ∷ cs) k e (let q = rw e at h in cc))
    (λ e.
    by_test (eqb b 92)
    (λ f.
    let p = plus_is 2 k (semicolon cs) (rw (e, f) at h) in
    ends_escape w b c cs k p.0 e f p.2 (ends (w ++ b ∷ c ∷ []) cs p.0 p.1))
    (λ f.
    let p = plus_is 1 k (semicolon (c ∷ cs)) (rw (e, f) at h) in
    ends_plain w b c cs k p.0 e f p.2 (ends (w ++ b ∷ []) (c ∷ cs) p.0 p.1)))

unfinished : (w bs : List ℕ) → semicolon bs ≡ None → records_after w bs ≡ []
unfinished w [] h = refl
unfinished w (b ∷ []) h = by_test (eqb b 59) (λ e. absurd (let k = rw e at h in cc)) (λ e. rw e refl)
unfinished w (b ∷ c ∷ cs) h =
    by_test (eqb b 59) (λ e. absurd (let k = rw e at h in cc))
    (λ e. by_test (eqb b 92)
    (λ f. let k = rw (e, f) at h in rw (e, f) (unfinished (w ++ b ∷ c ∷ []) cs (plus_none 2 (semicolon cs) k)))
    (λ f. let k = rw (e, f) at h in rw (e, f) (unfinished (w ++ b ∷ []) (c ∷ cs) (plus_none 1 (semicolon (c ∷ cs)) k))))

-- ---- white space

all_blank : (bs : List ℕ) → prefix_len is_space bs ≡ length bs → AreSpaces bs
all_blank [] h = tt
all_blank (b ∷ bs) h =
    by_test (is_space b)
    (λ e. let k = rw e at h in (e, all_blank bs (omega arith)))
    (λ e. absurd (let k = rw e at h in omega arith))

pub blank_unfinished : (bs : List ℕ) → AreSpaces bs → semicolon bs ≡ None
blank_unfinished [] s = refl
blank_unfinished (b ∷ []) s = let e = (blank b s.0).semicolon in rw e refl
blank_unfinished (b ∷ c ∷ cs) s =
    let e = (blank b s.0).semicolon in
    let f = (blank b s.0).backslash in
    rw (e, f, blank_unfinished (c ∷ cs) s.1) refl

pub blank-pieces : (b : ℕ) (bs : List ℕ) → is_space b ≡ true → pieces_after [] (b ∷ bs) ≡ pieces_after [] bs
blank-pieces b [] h = let i = blank b h in let e = i.stop in let f = i.comma in let g = i.backslash in rw (g, e, f) refl
blank-pieces b (c ∷ cs) h = let i = blank b h in let e = i.stop in let f = i.comma in let g = i.backslash in rw (g, e, f) refl

pub blank-body : (b : ℕ) (bs : List ℕ) → is_space b ≡ true → is_body (b ∷ bs) ≡ is_body bs
blank-body b [] h = let i = blank b h in let e = i.semicolon in let g = i.backslash in rw (g, e) refl
blank-body b (c ∷ cs) h = let i = blank b h in let e = i.semicolon in let g = i.backslash in rw (g, e) refl

-- the white space at the front tells nothing
pub skipped : (bs : List ℕ) → (pieces_after [] bs ≡ pieces_after [] (drop (prefix_len is_space bs) bs)) × (is_body bs ≡ is_body (drop (prefix_len is_space bs) bs))
skipped [] = (refl, refl)
skipped (b ∷ bs) =
    by_test (is_space b)
    (λ e.
    let i = skipped bs in
    let s : 1 + prefix_len is_space bs ≡ suc (prefix_len is_space bs) = omega arith in
    rw (e, s) (blank-pieces b bs e ∙ i.0, blank-body b bs e ∙ i.1))
    (λ e. rw e (refl, refl))

-- ---- a comma

pub comma_first : (bs : List ℕ) → (pieces_after [] (44 ∷ bs) ≡ Comma ∷ pieces_after [] bs) × (is_body (44 ∷ bs) ≡ is_body bs)
comma_first [] = (refl, refl)
comma_first (c ∷ cs) = (refl, refl)

-- ---- a run of units

-- a run of n units, and what is behind it
pub record IsRun (n : ℕ) (w bs : List ℕ) : Type 0 where
  pub within : n ≤ length bs
  pub taken : pieces_after w bs ≡ pieces_after (w ++ take n bs) (drop n bs)
  pub body : is_body (drop n bs) ≡ true
  pub stops : (v : List ℕ) → 0 < length v → pieces_after v (drop n bs) ≡ Word v ∷ pieces_after [] (drop n bs)

pub flush-word : (v : List ℕ) (ps : List Piece) → 0 < length v → flush v ps ≡ Word v ∷ ps
flush-word [] ps h = absurd (omega arith)
flush-word (b ∷ v) ps h = refl

pub plain_no_semicolon : (b : ℕ) → is_stop b ≡ false → eqb b 59 ≡ false
plain_no_semicolon b s = (or_parts (is_space b || eqb b 44) (eqb b 59) s).1

run : (w bs : List ℕ) → is_body bs ≡ true → IsRun (units_len bs) w bs
run w [] h = record { within = omega arith; taken = ap (λ v. flush v []) (sym (append-nil w)); body = refl; stops = (λ v p. flush-word v [] p) }
run w (b ∷ []) h =
    by_test (eqb b 92) (λ e. absurd (let q = rw e at h in cc))
    (λ e.
    by_test (is_stop b)
    (λ s.
    let len : units_len (b ∷ []) ≡ 0 = rw (e, s) refl in
    subst (λ n. IsRun n w (b ∷ [])) (sym len)
    (record {
      within = omega arith;
      taken = ap (λ v. pieces_after v (b ∷ [])) (sym (append-nil w));
      body = h;
      stops = (λ v p. rw (e, s) (flush-word v (comma_at b []) p));
    }))
    (λ s.
    let len : units_len (b ∷ []) ≡ 1 = rw (e, s) refl in
    subst (λ n. IsRun n w (b ∷ [])) (sym len)
    (record { within = omega arith; taken = rw (e, s) refl; body = refl; stops = (λ v p. flush-word v [] p) })))
run w (b ∷ c ∷ cs) h =
    by_test (eqb b 92)
    (λ e.
    let q = rw e at h in
    let r = run (w ++ b ∷ c ∷ []) cs q in
    let len : units_len (b ∷ c ∷ cs) ≡ suc (suc (units_len cs)) = rw e (omega arith) in
    subst (λ n. IsRun n w (b ∷ c ∷ cs)) (sym len)
    (record {
      within = omega (arith, r.within);
      taken = rw e (r.taken ∙ ap (λ v. pieces_after v (drop (units_len cs) cs)) (append_assoc w (b ∷ c ∷ []) (take (units_len cs) cs)));
      body = r.body;
      stops = r.stops;
    }))
    (λ e.
    by_test (is_stop b)
    (λ s.
    let len : units_len (b ∷ c ∷ cs) ≡ 0 = rw (e, s) refl in
    subst (λ n. IsRun n w (b ∷ c ∷ cs)) (sym len)
    (record {
      within = omega arith;
      taken = ap (λ v. pieces_after v (b ∷ c ∷ cs)) (sym (append-nil w));
      body = h;
      stops = (λ v p. rw (e, s) (flush-word v (comma_at b (pieces_after [] (c ∷ cs))) p));
    }))
    (λ s.
    let f : eqb b 59 ≡ false = plain_no_semicolon b s in
    let q : is_body (c ∷ cs) ≡ true = rw (e, f) at h in
    let r = run (w ++ b ∷ []) (c ∷ cs) q in
    let len : units_len (b ∷ c ∷ cs) ≡ suc (units_len (c ∷ cs)) = rw (e, s) (omega arith) in
    subst (λ n. IsRun n w (b ∷ c ∷ cs)) (sym len)
    (record {
      within = omega (arith, r.within);
      taken =
          rw (e, s)
          (r.taken ∙ ap (λ v. pieces_after v (drop (units_len (c ∷ cs)) (c ∷ cs))) (append_assoc w (b ∷ []) (take (units_len (c ∷ cs)) (c ∷ cs))));
      body = r.body;
      stops = r.stops;
    })))

-- ---- what the code needs

pub step_record : (bs : List ℕ) (k : ℕ) → semicolon bs ≡ Some k →
    (is_body (take k bs) ≡ true) × (records bs ≡ pieces (take k bs) ∷ records (drop (k + 1) bs))
unfolding records
step_record bs k h = let e = ends [] bs k h in (e.0, rw add-one e.1)

pub step_bad : (bs : List ℕ) → semicolon bs ≡ None → records bs ≡ []
unfolding records
step_bad bs h = unfinished [] bs h

pub step_end : (bs : List ℕ) → prefix_len is_space bs ≡ length bs → AreSpaces bs × (records bs ≡ []) × (semicolon bs ≡ None)
step_end bs h = let s = all_blank bs h in let n = blank_unfinished bs s in (s, step_bad bs n, n)

pub token_none : (bs : List ℕ) → prefix_len is_space bs ≡ length bs → pieces bs ≡ []
unfolding pieces
token_none bs h = (skipped bs).0 ∙ ap (λ n. pieces_after [] (drop n bs)) h ∙ ap (pieces_after []) (drop_all (length bs) bs (omega arith))

-- a comma behind the white space
pub token_comma : (bs : List ℕ) → prefix_len is_space bs < length bs → get_or bs (prefix_len is_space bs) 0 ≡ 44 → is_body bs ≡ true →
    (pieces bs ≡ Comma ∷ pieces (drop (prefix_len is_space bs + 1) bs)) × (is_body (drop (prefix_len is_space bs + 1) bs) ≡ true)
unfolding pieces
token_comma bs h c b =
    let n = prefix_len is_space bs in
    let d : drop (prefix_len is_space bs) bs ≡ 44 ∷ drop (prefix_len is_space bs + 1) bs =
    rw (← c) (drop-one bs (prefix_len is_space bs) h) in
    let k = comma_first (drop (prefix_len is_space bs + 1) bs) in
    let s = skipped bs in
    (s.0 ∙ ap (pieces_after []) d ∙ k.0, sym k.1 ∙ ap is_body (sym d) ∙ sym s.1 ∙ b)

-- a word behind the white space
pub record IsWordAt (n u : ℕ) (bs : List ℕ) : Type 0 where
  pub some : 0 < u
  pub within : n + u ≤ length bs
  pub goes_on : is_body (drop (n + u) bs) ≡ true
  pub tokens : pieces bs ≡ Word (take u (drop n bs)) ∷ pieces (drop (n + u) bs)

no_stop : (b : ℕ) → is_space b ≡ false → b ≢ 44 → eqb b 59 ≡ false → is_stop b ≡ false
no_stop b s c f = or_from (is_space b || eqb b 44) (eqb b 59) (or_from (is_space b) (eqb b 44) s (eqb-no b 44 c)) f

some_units : (b : ℕ) (bs : List ℕ) → is_space b ≡ false → b ≢ 44 → is_body (b ∷ bs) ≡ true → 0 < units_len (b ∷ bs)
some_units b [] s c h =
    by_test (eqb b 92) (λ e. absurd (let q = rw e at h in cc))
    (λ e. by_test (eqb b 59) (λ f. absurd (let q = rw (e, f) at h in cc)) (λ f. let t = no_stop b s c f in rw (e, t) (omega arith)))
some_units b (x ∷ xs) s c h =
    by_test (eqb b 92) (λ e. rw e (omega arith))
    (λ e. by_test (eqb b 59) (λ f. absurd (let q = rw (e, f) at h in cc)) (λ f. let t = no_stop b s c f in rw (e, t) (omega arith)))

word_at : (bs : List ℕ) (n u : ℕ) → n < length bs → get_or bs n 0 ≢ 44 → is_space (get_or bs n 0) ≡ false →
    pieces_after [] bs ≡ pieces_after [] (drop n bs) → is_body (drop n bs) ≡ true → u ≡ units_len (drop n bs) → IsWordAt n u bs
unfolding pieces
word_at bs n u h c s skip body is =
    let d : drop n bs ≡ get_or bs n 0 ∷ drop (n + 1) bs = drop-one bs n h in
    let r : IsRun u [] (drop n bs) = subst (λ k. IsRun k [] (drop n bs)) (sym is) (run [] (drop n bs) body) in
    let some : 0 < u =
    subst (λ k. 0 < k) (sym (is ∙ ap units_len d)) (some_units (get_or bs n 0) (drop (n + 1) bs) s c (ap is_body (sym d) ∙ body)) in
    let len : length (take u (drop n bs)) ≡ u = omega (arith, r.within, length-take u (drop n bs)) in
    let dd : drop u (drop n bs) ≡ drop (n + u) bs = drop-drop u n bs in
    record {
      some = some;
      within = omega (arith, r.within, length-drop n bs);
      goes_on = ap is_body (sym dd) ∙ r.body;
      tokens =
          skip ∙ r.taken ∙ r.stops (take u (drop n bs)) (omega arith)
          ∙ ap (λ t. Word (take u (drop n bs)) ∷ pieces_after [] t) dd;
    }

pub token_word : (bs : List ℕ) → prefix_len is_space bs < length bs → get_or bs (prefix_len is_space bs) 0 ≢ 44 → is_body bs ≡ true →
    IsWordAt (prefix_len is_space bs) (units_len (drop (prefix_len is_space bs) bs)) bs
unfolding pieces
token_word bs h c b =
    word_at bs (prefix_len is_space bs) (units_len (drop (prefix_len is_space bs) bs)) h c
    (prefix_len_stops is_space bs 0 h) (skipped bs).0 (sym (skipped bs).1 ∙ b) refl

-- ---- parts of a slice

pub range_drop : (bytes : List ℕ) (at after n : ℕ) → at + n ≤ after → drop n (slice_range bytes at after) ≡ slice_range bytes (at + n) after
range_drop bytes at after n h =
    let m : after - at ≡ n + (after - (at + n)) = omega arith in
    ap (λ k. drop n (take k (drop at bytes))) m ∙ drop-take n (after - (at + n)) (drop at bytes)
    ∙ ap (take (after - (at + n))) (drop-drop n at bytes)

pub range_take : (bytes : List ℕ) (at after u : ℕ) → at + u ≤ after → take u (slice_range bytes at after) ≡ slice_range bytes at (at + u)
range_take bytes at after u h =
    let k : at + u - at ≡ u = omega arith in
    take-take u (after - at) (drop at bytes) (omega arith) ∙ ap (λ k. take k (drop at bytes)) (sym k)

pub length-range : (bytes : List ℕ) (at after : ℕ) → at ≤ after → after ≤ length bytes → length (slice_range bytes at after) ≡ after - at
length-range bytes at after h k = omega (arith, length-take (after - at) (drop at bytes), length-drop at bytes)

-- ---- the clauses of the calls

pub first_comma : (bs : List ℕ) (n : ℕ) → n ≡ prefix_len is_space bs → n < length bs → get_or bs n 0 ≡ 44 → is_body bs ≡ true →
    IsFirst bs (n, 1, true)
first_comma bs n is h c b =
    let l : prefix_len is_space bs < length bs = omega arith in
    let t = token_comma bs l (rw (← is) c) b in
    let u = rw (← is) at t in
    record { from = is; some = omega arith; within = omega arith; goes_on = u.1; tokens = u.0 }

pub first_word : (bs : List ℕ) (n u : ℕ) → n ≡ prefix_len is_space bs → n < length bs → get_or bs n 0 ≢ 44 → is_body bs ≡ true →
    u ≡ units_len (drop n bs) → IsFirst bs (n, u, false)
first_word bs n u is h c b k =
    let l : prefix_len is_space bs < length bs = omega arith in
    let t = token_word bs l (rw (← is) c) b in
    let v = rw (← is) at t in
    let w : IsWordAt n u bs = subst (λ x. IsWordAt n x bs) (sym k) v in
    record { from = is; some = w.some; within = w.within; goes_on = w.goes_on; tokens = w.tokens }

pub next_from_first : (bytes : List ℕ) (at after : ℕ) (t : ℕ × ℕ × Bool) → at ≤ after → after ≤ length bytes →
    IsFirst (slice_range bytes at after) t → IsNext bytes at after (record { first = at + t.0; after = at + t.0 + t.1; bare_comma = t.2 })
next_from_first bytes at after t h k f =
    let len = length-range bytes at after h k in
    let w : at + (t.0 + t.1) ≤ after = omega (arith, f.within) in
    let a : at + (t.0 + t.1) ≡ at + t.0 + t.1 = omega arith in
    let rest : drop (t.0 + t.1) (slice_range bytes at after) ≡ slice_range bytes (at + t.0 + t.1) after =
    range_drop bytes at after (t.0 + t.1) w ∙ ap (λ x. slice_range bytes x after) a in
    let word : take t.1 (drop t.0 (slice_range bytes at after)) ≡ slice_range bytes (at + t.0) (at + t.0 + t.1) =
    ap (take t.1) (range_drop bytes at after t.0 (omega arith)) ∙ range_take bytes (at + t.0) after t.1 (omega arith) in
    record {
      from = ap (λ x. at + x) f.from;
      some = omega (arith, f.some);
      within = omega arith;
      goes_on = ap is_body (sym rest) ∙ f.goes_on;
      tokens = f.tokens ∙ rw (rest, word) refl;
    }

pub reads_record : (bytes : List ℕ) (at k first : ℕ) → semicolon (drop at bytes) ≡ Some k → at ≤ length bytes → k < length (drop at bytes) →
    Reads bytes at (Rec first (at + k + 1))
reads_record bytes at k first h a l =
    let s = step_record (drop at bytes) k h in
    let z : at + k + 1 - 1 - at ≡ k = omega arith in
    let front : slice_range bytes at (at + k + 1 - 1) ≡ take k (drop at bytes) = ap (λ x. take x (drop at bytes)) z in
    let back : drop (k + 1) (drop at bytes) ≡ drop (at + k + 1) bytes =
    drop-drop (k + 1) at bytes ∙ ap (λ x. drop x bytes) (let q : at + (k + 1) ≡ at + k + 1 = omega arith in q) in (
      omega arith,
      omega (arith, length-drop at bytes),
      ap is_body front ∙ s.0,
      s.1 ∙ ap (λ x. pieces (take k (drop at bytes)) ∷ records x) back ∙ ap (λ x. pieces x ∷ records (drop (at + k + 1) bytes)) (sym front),
    )

pub ended : (bytes : List ℕ) (at : ℕ) → prefix_len is_space (drop at bytes) ≡ length (drop at bytes) → End ≡ step_at bytes at
ended bytes at h =
    let n = (step_end (drop at bytes) h).2 in
    let t : eqb (prefix_len is_space (drop at bytes)) (length (drop at bytes)) ≡ true = eqb-yes _ _ h in
    rw (n, t) refl

-- `&s[n..]`
pub tail_is : (s : List ℕ) (n : ℕ) → take (length s - n) (drop n s) ≡ drop n s
tail_is s n = take_all (length s - n) (drop n s) (omega (arith, length-drop n s))
