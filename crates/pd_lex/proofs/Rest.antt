-- What stands behind the last record.
use Rattle.std.proofs.Common.{◌≡◌, ℕ, suc, ◌+◌, true, false, List, [], ◌∷◌, ◌++◌, length, drop, Some, None, refl, sym, ap, ◌∙◌, subst, arith, eqb, append_assoc}
use Rattle.std.proofs.lemmas.List.{append-nil, drop-drop}
use Rattle.std.specs.List.{prefix_len}
use Rattle.pd_lex.specs.Text.{is_space, AreSpaces, Piece, StandsFor}
use Rattle.pd_lex.specs.Reading.{semicolon, plus, is_body, pieces, records_after, records, rest_after, rest_of, IsFront}
use Rattle.pd_lex.proofs.Laws.{by_test, eqb-is, plus_is, plus_none, blank_unfinished}
use Rattle.pd_lex.proofs.Relation.{pieces_read, body_stands, body-append, backslash_no_semicolon}
use Rattle.pd_lex.proofs.Steps.{plus-plus, plus-zero}

-- ---- the rest behind a record

-- behind the k + 1 bytes of a record the rest is the same
abbrev pub Stays : List ℕ → List ℕ → ℕ → Type 0
Stays w bs k = rest_after w bs ≡ rest_after [] (drop (suc k) bs)

stays_here : (w : List ℕ) (b : ℕ) (bs : List ℕ) (k : ℕ) → eqb b 59 ≡ true → 0 ≡ k → Stays w (b ∷ bs) k
stays_here w b [] k e z = subst (Stays w (b ∷ [])) z (rw e refl)
stays_here w b (c ∷ cs) k e z = subst (Stays w (b ∷ c ∷ cs)) z (rw e refl)

stays_escape : (w : List ℕ) (b c : ℕ) (cs : List ℕ) (k m : ℕ) → eqb b 59 ≡ false → eqb b 92 ≡ true → k ≡ 2 + m →
    Stays (w ++ b ∷ c ∷ []) cs m → Stays w (b ∷ c ∷ cs) k
stays_escape w b c cs k m e f is r = let z : suc (suc m) ≡ k = omega arith in subst (Stays w (b ∷ c ∷ cs)) z (rw (e, f) r)

stays_plain : (w : List ℕ) (b c : ℕ) (cs : List ℕ) (k m : ℕ) → eqb b 59 ≡ false → eqb b 92 ≡ false → k ≡ 1 + m →
    Stays (w ++ b ∷ []) (c ∷ cs) m → Stays w (b ∷ c ∷ cs) k
stays_plain w b c cs k m e f is r = let z : suc m ≡ k = omega arith in subst (Stays w (b ∷ c ∷ cs)) z (rw (e, f) r)

rest_behind : (w bs : List ℕ) (k : ℕ) → semicolon bs ≡ Some k → Stays w bs k
rest_behind w [] k h = absurd (cc)
rest_behind w (b ∷ []) k h =
    by_test (eqb b 59) (λ e. stays_here w b [] k e (let q = rw e at h in cc)) (λ e. absurd (let q = rw e at h in cc))
rest_behind w (b ∷ c ∷ cs) k h =
    by_test (eqb b 59) (λ e. stays_here w b (c ∷ cs) k e (let q = rw e at h in cc))
    (λ e.
    by_test (eqb b 92)
    (λ f.
    let p = plus_is 2 k (semicolon cs) (rw (e, f) at h) in
    stays_escape w b c cs k p.0 e f p.2 (rest_behind (w ++ b ∷ c ∷ []) cs p.0 p.1))
    (λ f.
    let p = plus_is 1 k (semicolon (c ∷ cs)) (rw (e, f) at h) in
    stays_plain w b c cs k p.0 e f p.2 (rest_behind (w ++ b ∷ []) (c ∷ cs) p.0 p.1)))

rest_all : (w bs : List ℕ) → semicolon bs ≡ None → rest_after w bs ≡ w ++ bs
rest_all w [] h = sym (append-nil w)
rest_all w (b ∷ []) h = by_test (eqb b 59) (λ e. absurd (let k = rw e at h in cc)) (λ e. rw e refl)
rest_all w (b ∷ c ∷ cs) h =
    by_test (eqb b 59) (λ e. absurd (let k = rw e at h in cc))
    (λ e. by_test (eqb b 92)
    (λ f. let k = rw (e, f) at h in rw (e, f) (rest_all (w ++ b ∷ c ∷ []) cs (plus_none 2 (semicolon cs) k) ∙ append_assoc w (b ∷ c ∷ []) cs))
    (λ f. let k = rw (e, f) at h in rw (e, f) (rest_all (w ++ b ∷ []) (c ∷ cs) (plus_none 1 (semicolon (c ∷ cs)) k) ∙ append_assoc w (b ∷ []) (c ∷ cs))))

pub rest_is_all : (bs : List ℕ) → semicolon bs ≡ None → rest_of bs ≡ bs
rest_is_all bs h = rest_all [] bs h

pub rest_of_record : (bytes : List ℕ) (at k : ℕ) → semicolon (drop at bytes) ≡ Some k → rest_of (drop at bytes) ≡ rest_of (drop (at + k + 1) bytes)
rest_of_record bytes at k h =
    rest_behind [] (drop at bytes) k h
    ∙ ap (rest_after []) (drop-drop (suc k) at bytes ∙ ap (λ x. drop x bytes) (let q : at + suc k ≡ at + k + 1 = omega arith in q))

blank_len : (bs : List ℕ) → AreSpaces bs → prefix_len is_space bs ≡ length bs
blank_len [] h = refl
blank_len (b ∷ bs) h = let e = h.0 in rw e (let i = blank_len bs h.1 in omega arith)

pub no_blank : (bs : List ℕ) → (prefix_len is_space bs ≡ length bs → ⊥) → AreSpaces bs → ⊥
no_blank bs n h = n (blank_len bs h)

-- ---- the text before the rest

rest_ends : (w front rest : List ℕ) → is_body front ≡ true → rest_after w (front ++ 59 ∷ rest) ≡ rest_after [] rest
rest_ends w [] [] h = refl
rest_ends w [] (c ∷ cs) h = refl
rest_ends w (b ∷ []) rest h =
    by_test (eqb b 92) (λ e. absurd (let q = rw e at h in cc))
    (λ e. by_test (eqb b 59) (λ f. absurd (let q = rw (e, f) at h in cc)) (λ f. rw (f, e) (rest_ends (w ++ b ∷ []) [] rest refl)))
rest_ends w (b ∷ c ∷ cs) rest h =
    by_test (eqb b 92)
    (λ e. let f = backslash_no_semicolon b e in rw (f, e) (rest_ends (w ++ b ∷ c ∷ []) cs rest (rw e at h)))
    (λ e.
    by_test (eqb b 59) (λ f. absurd (let q = rw (e, f) at h in cc))
    (λ f. rw (f, e) (rest_ends (w ++ b ∷ []) (c ∷ cs) rest (rw (e, f) at h))))

-- behind units and white space without a semicolon, the first semicolon is that of what follows
body-semicolon : (w v : List ℕ) → is_body w ≡ true → semicolon (w ++ v) ≡ plus (length w) (semicolon v)
body-semicolon [] v h = sym (plus-zero (semicolon v))
body-semicolon (b ∷ []) [] h =
    by_test (eqb b 92) (λ e. absurd (let q = rw e at h in cc))
    (λ e. by_test (eqb b 59) (λ f. absurd (let q = rw (e, f) at h in cc)) (λ f. rw f refl))
body-semicolon (b ∷ []) (c ∷ cs) h =
    by_test (eqb b 92) (λ e. absurd (let q = rw e at h in cc))
    (λ e. by_test (eqb b 59) (λ f. absurd (let q = rw (e, f) at h in cc)) (λ f. rw (f, e) refl))
body-semicolon (b ∷ c ∷ cs) v h =
    by_test (eqb b 92)
    (λ e.
    let f = backslash_no_semicolon b e in
    rw (f, e)
    (ap (plus 2) (body-semicolon cs v (rw e at h)) ∙ plus-plus 2 (length cs) (semicolon v)
    ∙ ap (λ n. plus n (semicolon v)) (let q : 2 + length cs ≡ suc (suc (length cs)) = omega arith in q)))
    (λ e.
    by_test (eqb b 59) (λ f. absurd (let q = rw (e, f) at h in cc))
    (λ f.
    rw (f, e)
    (ap (plus 1) (body-semicolon (c ∷ cs) v (rw (e, f) at h)) ∙ plus-plus 1 (suc (length cs)) (semicolon v)
    ∙ ap (λ n. plus n (semicolon v)) (let q : 1 + suc (length cs) ≡ suc (suc (length cs)) = omega arith in q))))

-- the text w and bs has such a front, where w is what was read since the last semicolon
pub record HasFront (w bs : List ℕ) : Type 0 where
  pub front : List ℕ
  pub parts : w ++ bs ≡ front ++ rest_after w bs
  pub stands : StandsFor front (records_after w bs)
  pub ends : rest_after [] front ≡ []
  pub unfinished : semicolon (rest_after w bs) ≡ None

no_record : (w bs : List ℕ) → rest_after w bs ≡ w ++ bs → records_after w bs ≡ [] → semicolon (w ++ bs) ≡ None → HasFront w bs
no_record w bs r e s =
    record {
      front = [];
      parts = sym r;
      stands = subst (StandsFor []) (sym e) tt;
      ends = refl;
      unfinished = ap semicolon r ∙ s;
    }

one_record : (w : List ℕ) (b : ℕ) (bs : List ℕ) → eqb b 59 ≡ true → is_body w ≡ true → rest_after w (b ∷ bs) ≡ rest_after [] bs →
    records_after w (b ∷ bs) ≡ pieces w ∷ records_after [] bs → HasFront [] bs → HasFront w (b ∷ bs)
one_record w b bs e h r q f =
    let is : b ≡ 59 = eqb-is b 59 e in
    record {
      front = w ++ 59 ∷ f.front;
      parts =
          ap (λ x. w ++ x ∷ bs) is ∙ ap (λ x. w ++ 59 ∷ x) f.parts ∙ sym (append_assoc w (59 ∷ f.front) (rest_after [] bs))
          ∙ ap (λ x. (w ++ 59 ∷ f.front) ++ x) (sym r);
      stands = subst (StandsFor (w ++ 59 ∷ f.front)) (sym q) (w, f.front, body_stands w h, refl, f.stands);
      ends = rest_ends [] w f.front h ∙ f.ends;
      unfinished = ap semicolon r ∙ f.unfinished;
    }

moved : (w v bs whole : List ℕ) → w ++ whole ≡ (w ++ v) ++ bs → rest_after w whole ≡ rest_after (w ++ v) bs →
    records_after w whole ≡ records_after (w ++ v) bs → HasFront (w ++ v) bs → HasFront w whole
moved w v bs whole t r q f =
    record {
      front = f.front;
      parts = t ∙ f.parts ∙ ap (λ x. f.front ++ x) (sym r);
      stands = subst (StandsFor f.front) (sym q) f.stands;
      ends = f.ends;
      unfinished = ap semicolon r ∙ f.unfinished;
    }

no_semicolon : (b : ℕ) → eqb b 59 ≡ false → semicolon (b ∷ []) ≡ None
no_semicolon b e = rw e refl

has_front : (w bs : List ℕ) → is_body w ≡ true → HasFront w bs
has_front w [] h = no_record w [] (sym (append-nil w)) refl (body-semicolon w [] h)
has_front w (b ∷ []) h =
    by_test (eqb b 59) (λ e. one_record w b [] e h (rw e refl) (rw e refl) (has_front [] [] refl))
    (λ e. no_record w (b ∷ []) (rw e refl) (rw e refl) (body-semicolon w (b ∷ []) h ∙ ap (plus (length w)) (no_semicolon b e)))
has_front w (b ∷ c ∷ cs) h =
    by_test (eqb b 59) (λ e. one_record w b (c ∷ cs) e h (rw e refl) (rw e refl) (has_front [] (c ∷ cs) refl))
    (λ e.
    by_test (eqb b 92)
    (λ f.
    moved w (b ∷ c ∷ []) cs (b ∷ c ∷ cs) (sym (append_assoc w (b ∷ c ∷ []) cs)) (rw (e, f) refl) (rw (e, f) refl)
    (has_front (w ++ b ∷ c ∷ []) cs (body-append w (b ∷ c ∷ []) h ∙ rw f refl)))
    (λ f.
    moved w (b ∷ []) (c ∷ cs) (b ∷ c ∷ cs) (sym (append_assoc w (b ∷ []) (c ∷ cs))) (rw (e, f) refl) (rw (e, f) refl)
    (has_front (w ++ b ∷ []) (c ∷ cs) (body-append w (b ∷ []) h ∙ rw (f, e) refl))))

pub fronts : (text : List ℕ) → (front : List ℕ) × IsFront text front
unfolding records
fronts text =
    let f = has_front [] text refl in
    (f.front, record { parts = f.parts; stands = f.stands; ends = f.ends; unfinished = f.unfinished })

-- a text that stands for records has only white space behind them
pub stands_spaces : (text : List ℕ) (rs : List (List Piece)) → StandsFor text rs → AreSpaces (rest_of text)
stands_spaces text [] h = subst AreSpaces (sym (rest_is_all text (blank_unfinished text h))) h
stands_spaces text (r ∷ rs) h =
    let p = pieces_read h.0 r h.2 in
    subst AreSpaces (sym (ap (rest_after []) h.3 ∙ rest_ends [] h.0 h.1 p.1)) (stands_spaces h.1 rs h.4)
