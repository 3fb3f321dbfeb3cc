-- The records that are read are the ones that the text stands for.
use Rattle.std.proofs.Common.{◌≡◌, ℕ, ◌<◌, true, false, ◌||◌, List, [], ◌∷◌, ◌++◌, length, refl, sym, ap, ◌∙◌, subst, arith, eqb, append_assoc, inl, inr}
use Rattle.std.proofs.lemmas.List.{append-nil}
use Rattle.std.proofs.lemmas.Bool.{or_cases}
use Rattle.pd_lex.specs.Text.{is_space, is_stop, AreSpaces, AreUnits, Piece, IsStopped, StandsForPieces, StandsFor}
use Rattle.pd_lex.specs.Text.Piece.{Word, Comma}
use Rattle.pd_lex.specs.Reading.{is_body, flush, comma_at, pieces_after, pieces, records_after, records, rest_after, rest_of}
use Rattle.pd_lex.proofs.Laws.{by_test, eqb-is, blank-pieces, blank-body, comma_first, flush-word, body-plain, plain_no_semicolon, step_bad, blank_unfinished}

-- ---- what a text stands for is read

spaces-skip : (ws bs : List ℕ) → AreSpaces ws → (pieces_after [] (ws ++ bs) ≡ pieces_after [] bs) × (is_body (ws ++ bs) ≡ is_body bs)
spaces-skip [] bs h = (refl, refl)
spaces-skip (b ∷ ws) bs h =
    let r = spaces-skip ws bs h.1 in
    (blank-pieces b (ws ++ bs) h.0 ∙ r.0, blank-body b (ws ++ bs) h.0 ∙ r.1)

plain-pieces : (w : List ℕ) (b : ℕ) (bs : List ℕ) → eqb b 92 ≡ false → is_stop b ≡ false → pieces_after w (b ∷ bs) ≡ pieces_after (w ++ b ∷ []) bs
plain-pieces w b [] e s = rw (e, s) refl
plain-pieces w b (c ∷ cs) e s = rw (e, s) refl

units-take : (w v bs : List ℕ) → AreUnits v → (pieces_after w (v ++ bs) ≡ pieces_after (w ++ v) bs) × (is_body (v ++ bs) ≡ is_body bs)
units-take w [] bs h = (ap (λ x. pieces_after x bs) (sym (append-nil w)), refl)
units-take w (b ∷ []) bs h = (plain-pieces w b bs h.0 h.1, body-plain b bs (plain_no_semicolon b h.1) h.0)
units-take w (b ∷ c ∷ cs) bs (inl h) =
    let e = h.0 in
    let r = units-take (w ++ b ∷ c ∷ []) cs bs h.1 in
    (rw e (r.0 ∙ ap (λ x. pieces_after x bs) (append_assoc w (b ∷ c ∷ []) cs)), rw e r.1)
units-take w (b ∷ c ∷ cs) bs (inr h) =
    let r = units-take (w ++ b ∷ []) (c ∷ cs) bs h.2 in (
      plain-pieces w b (c ∷ (cs ++ bs)) h.0 h.1 ∙ r.0 ∙ ap (λ x. pieces_after x bs) (append_assoc w (b ∷ []) (c ∷ cs)),
      body-plain b (c ∷ (cs ++ bs)) (plain_no_semicolon b h.1) h.0 ∙ r.1,
    )

stop_no_backslash : (b : ℕ) → is_stop b ≡ true → eqb b 92 ≡ false
stop_no_backslash b s = by_test (eqb b 92) (λ e. absurd (let q : is_stop 92 ≡ true = subst (λ x. is_stop x ≡ true) (eqb-is b 92 e) s in cc)) (λ e. e)

stopped-word : (w bs : List ℕ) → 0 < length w → IsStopped bs → pieces_after w bs ≡ Word w ∷ pieces_after [] bs
stopped-word w [] p s = flush-word w [] p
stopped-word w (b ∷ []) p s = let e = stop_no_backslash b s in rw (e, s) (flush-word w (comma_at b []) p)
stopped-word w (b ∷ c ∷ cs) p s = let e = stop_no_backslash b s in rw (e, s) (flush-word w (comma_at b (pieces_after [] (c ∷ cs))) p)

pub pieces_read : (text : List ℕ) (ps : List Piece) → StandsForPieces text ps → (pieces_after [] text ≡ ps) × (is_body text ≡ true)
pieces_read text [] h =
    let r = spaces-skip text [] h in
    (ap (pieces_after []) (sym (append-nil text)) ∙ r.0, ap is_body (sym (append-nil text)) ∙ r.1)
pieces_read text (Comma ∷ ps) h =
    let before = h.0 in
    let rest = h.1 in
    let s = spaces-skip h.0 (44 ∷ h.1) h.2 in
    let c = comma_first h.1 in
    let r = pieces_read h.1 ps h.6 in (
      ap (pieces_after []) h.4 ∙ s.0 ∙ c.0 ∙ ap (λ x. Comma ∷ x) r.0,
      ap is_body h.4 ∙ s.1 ∙ c.1 ∙ r.1,
    )
pieces_read text (Word w ∷ ps) h =
    let s = spaces-skip h.0 (w ++ h.1) h.2 in
    let u = units-take [] w h.1 h.3.1 in
    let t = stopped-word w h.1 h.3.0 h.5 in
    let r = pieces_read h.1 ps h.6 in (
      ap (pieces_after []) h.4 ∙ s.0 ∙ u.0 ∙ t ∙ ap (λ x. Word w ∷ x) r.0,
      ap is_body h.4 ∙ s.1 ∙ u.1 ∙ r.1,
    )

pub stand_pieces : (body : List ℕ) (ps : List Piece) → StandsForPieces body ps → pieces body ≡ ps
unfolding pieces
stand_pieces body ps h = (pieces_read body ps h).0

pub backslash_no_semicolon : (b : ℕ) → eqb b 92 ≡ true → eqb b 59 ≡ false
backslash_no_semicolon b e = ap (λ x. eqb x 59) (eqb-is b 92 e)

record_ends : (w front rest : List ℕ) → is_body front ≡ true → records_after w (front ++ 59 ∷ rest) ≡ pieces (w ++ front) ∷ records_after [] rest
record_ends w [] [] h = ap (λ x. pieces x ∷ []) (sym (append-nil w))
record_ends w [] (c ∷ cs) h = ap (λ x. pieces x ∷ records_after [] (c ∷ cs)) (sym (append-nil w))
record_ends w (b ∷ []) rest h =
    by_test (eqb b 92) (λ e. absurd (let q = rw e at h in cc))
    (λ e. by_test (eqb b 59) (λ f. absurd (let q = rw (e, f) at h in cc)) (λ f. rw (f, e) (record_ends (w ++ b ∷ []) [] rest refl ∙ ap (λ x. pieces x ∷ records_after [] rest) (append-nil (w ++ b ∷ [])))))
record_ends w (b ∷ c ∷ cs) rest h =
    by_test (eqb b 92)
    (λ e.
    let f = backslash_no_semicolon b e in
    rw (f, e) (record_ends (w ++ b ∷ c ∷ []) cs rest (rw e at h) ∙ ap (λ x. pieces x ∷ records_after [] rest) (append_assoc w (b ∷ c ∷ []) cs)))
    (λ e.
    by_test (eqb b 59) (λ f. absurd (let q = rw (e, f) at h in cc))
    (λ f.
    rw (f, e)
    (record_ends (w ++ b ∷ []) (c ∷ cs) rest (rw (e, f) at h)
    ∙ ap (λ x. pieces x ∷ records_after [] rest) (append_assoc w (b ∷ []) (c ∷ cs)))))

pub stands_read : (text : List ℕ) (rs : List (List Piece)) → StandsFor text rs → records text ≡ rs
unfolding records pieces
stands_read text [] h = step_bad text (blank_unfinished text h)
stands_read text (r ∷ rs) h =
    let p = pieces_read h.0 r h.2 in
    ap (records_after []) h.3 ∙ record_ends [] h.0 h.1 p.1 ∙ ap (λ x. x ∷ records_after [] h.1) p.0 ∙ ap (λ x. r ∷ x) (stands_read h.1 rs h.4)

-- ---- what is read is what the text stands for

spaced : (b : ℕ) (bs : List ℕ) (ps : List Piece) → is_space b ≡ true → StandsForPieces bs ps → StandsForPieces (b ∷ bs) ps
spaced b bs [] s h = (s, h)
spaced b bs (p ∷ ps) s h = (b ∷ h.0, h.1, (s, h.2), h.3, ap (λ x. b ∷ x) h.4, h.5, h.6)

worded : (w bs : List ℕ) (ps : List Piece) → AreUnits w → IsStopped bs → StandsForPieces bs ps → StandsForPieces (w ++ bs) (flush w ps)
worded [] bs ps u s h = h
worded (b ∷ w) bs ps u s h = ([], bs, tt, (omega arith, u), refl, s, h)

commad : (bs : List ℕ) (ps : List Piece) → StandsForPieces bs ps → StandsForPieces (44 ∷ bs) (Comma ∷ ps)
commad bs ps h = ([], bs, tt, tt, refl, tt, h)

units-append : (v w : List ℕ) → AreUnits v → AreUnits w → AreUnits (v ++ w)
units-append [] w h k = k
units-append (b ∷ []) [] h k = h
units-append (b ∷ []) (c ∷ cs) h k = inr (h.0, h.1, k)
units-append (b ∷ c ∷ cs) w (inl h) k = inl (h.0, units-append cs w h.1 k)
units-append (b ∷ c ∷ cs) w (inr h) k = inr (h.0, h.1, units-append (c ∷ cs) w h.2 k)

-- a byte that stops a run is a comma or white space
only_space : (b : ℕ) → is_stop b ≡ true → eqb b 44 ≡ false → eqb b 59 ≡ false → is_space b ≡ true
only_space b s c e =
    elim (or_cases (is_space b || eqb b 44) (eqb b 59) s) as (λ _. is_space b ≡ true) [
      | inl l ↦
          elim (or_cases (is_space b) (eqb b 44) l) as (λ _. is_space b ≡ true)
          [ inl y ↦ y | inr n ↦ absurd (let q : true ≡ false = sym n ∙ c in cc) ]
      | inr r ↦ absurd (let q : true ≡ false = sym r ∙ e in cc)
    ]

stopping : (b : ℕ) (bs : List ℕ) (ps : List Piece) → is_stop b ≡ true → eqb b 59 ≡ false → StandsForPieces bs ps →
    StandsForPieces (b ∷ bs) (comma_at b ps)
stopping b bs ps s e h =
    by_test (eqb b 44)
    (λ c. rw c (subst (λ x. StandsForPieces (x ∷ bs) (Comma ∷ ps)) (sym (eqb-is b 44 c)) (commad bs ps h)))
    (λ c. rw c (spaced b bs ps (only_space b s c e) h))

read_pieces : (w bs : List ℕ) → AreUnits w → is_body bs ≡ true → StandsForPieces (w ++ bs) (pieces_after w bs)
read_pieces w [] u h = worded w [] [] u tt tt
read_pieces w (b ∷ []) u h =
    by_test (eqb b 92) (λ e. absurd (let q = rw e at h in cc))
    (λ e.
    by_test (eqb b 59) (λ f. absurd (let q = rw (e, f) at h in cc))
    (λ f.
    by_test (is_stop b)
    (λ s. rw (e, s) (worded w (b ∷ []) (comma_at b []) u s (stopping b [] [] s f tt)))
    (λ s.
    rw (e, s) (subst (λ x. StandsForPieces x (flush (w ++ b ∷ []) [])) (append-nil (w ++ b ∷ []))
    (worded (w ++ b ∷ []) [] [] (units-append w (b ∷ []) u (e, s)) tt tt)))))
read_pieces w (b ∷ c ∷ cs) u h =
    by_test (eqb b 92)
    (λ e.
    rw e (subst (λ x. StandsForPieces x (pieces_after (w ++ b ∷ c ∷ []) cs)) (append_assoc w (b ∷ c ∷ []) cs)
    (read_pieces (w ++ b ∷ c ∷ []) cs (units-append w (b ∷ c ∷ []) u (inl (e, tt))) (rw e at h))))
    (λ e.
    by_test (eqb b 59) (λ f. absurd (let q = rw (e, f) at h in cc))
    (λ f.
    by_test (is_stop b)
    (λ s.
    rw (e, s)
    (worded w (b ∷ c ∷ cs) (comma_at b (pieces_after [] (c ∷ cs))) u s
    (stopping b (c ∷ cs) (pieces_after [] (c ∷ cs)) s f (read_pieces [] (c ∷ cs) tt (rw (e, f) at h)))))
    (λ s.
    rw (e, s)
    (subst (λ x. StandsForPieces x (pieces_after (w ++ b ∷ []) (c ∷ cs))) (append_assoc w (b ∷ []) (c ∷ cs))
    (read_pieces (w ++ b ∷ []) (c ∷ cs) (units-append w (b ∷ []) u (e, s)) (rw (e, f) at h))))))

pub body_stands : (bs : List ℕ) → is_body bs ≡ true → StandsForPieces bs (pieces bs)
unfolding pieces
body_stands bs h = read_pieces [] bs tt h

pub body-append : (w v : List ℕ) → is_body w ≡ true → is_body (w ++ v) ≡ is_body v
body-append [] v h = refl
body-append (b ∷ []) v h =
    by_test (eqb b 92) (λ e. absurd (let q = rw e at h in cc))
    (λ e. by_test (eqb b 59) (λ f. absurd (let q = rw (e, f) at h in cc)) (λ f. body-plain b v f e))
body-append (b ∷ c ∷ cs) v h =
    by_test (eqb b 92) (λ e. rw e (body-append cs v (rw e at h)))
    (λ e.
    by_test (eqb b 59) (λ f. absurd (let q = rw (e, f) at h in cc))
    (λ f. rw (e, f) (body-append (c ∷ cs) v (rw (e, f) at h))))

ended_record : (w : List ℕ) (b : ℕ) (bs : List ℕ) (rs : List (List Piece)) → eqb b 59 ≡ true → is_body w ≡ true → StandsFor bs rs →
    StandsFor (w ++ b ∷ bs) (pieces w ∷ rs)
ended_record w b bs rs e h k = (w, bs, body_stands w h, ap (λ x. w ++ x ∷ bs) (eqb-is b 59 e), k)

read_records : (w bs : List ℕ) → is_body w ≡ true → AreSpaces (rest_after w bs) → StandsFor (w ++ bs) (records_after w bs)
read_records w [] h k = subst AreSpaces (sym (append-nil w)) k
read_records w (b ∷ []) h k =
    by_test (eqb b 59) (λ e. rw e (ended_record w b [] [] e h tt)) (λ e. rw e (rw e at k))
read_records w (b ∷ c ∷ cs) h k =
    by_test (eqb b 59)
    (λ e. rw e (ended_record w b (c ∷ cs) (records_after [] (c ∷ cs)) e h (read_records [] (c ∷ cs) refl (rw e at k))))
    (λ e.
    by_test (eqb b 92)
    (λ f.
    rw (e, f)
    (subst (λ x. StandsFor x (records_after (w ++ b ∷ c ∷ []) cs)) (append_assoc w (b ∷ c ∷ []) cs)
    (read_records (w ++ b ∷ c ∷ []) cs (body-append w (b ∷ c ∷ []) h ∙ rw f refl) (rw (e, f) at k))))
    (λ f.
    rw (e, f)
    (subst (λ x. StandsFor x (records_after (w ++ b ∷ []) (c ∷ cs))) (append_assoc w (b ∷ []) (c ∷ cs))
    (read_records (w ++ b ∷ []) (c ∷ cs) (body-append w (b ∷ []) h ∙ rw (f, e) refl) (rw (e, f) at k)))))

pub records_stand : (text : List ℕ) → AreSpaces (rest_of text) → StandsFor text (records text)
unfolding records
records_stand text k = read_records [] text refl k
