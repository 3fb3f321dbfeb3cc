-- A script, a record at a time.
use Rattle.std.proofs.Common.{◌≡◌, ℕ, zero, suc, ◌+◌, ◌≤◌, List, [], ◌++◌, length, drop, Option, Some, None, refl, sym, ap, ◌∙◌, subst, arith, length-drop}
use Rattle.std.proofs.lemmas.List.{nil_from_length}
use Rattle.pd_lex.specs.Reading.{semicolon}
use Rattle.pd_feed.specs.Script.{fed_of, record_text, Script, with_first, ends_as, script_at, script_within, script_of}
use Rattle.pd_feed.specs.Feed.{Feed, Takes, Stays, Leaves, FeedsAll, Reads, ReadsScript}
use Rattle.pd_feed.proofs.FeedLemmas.{semicolon-within}
use Rattle.pd_feed.proofs.NextLemmas.{stays-fed}
use Rattle.pd_feed.specs.declared.feed.Fed.{Fed}
use Rattle.pd_feed.specs.declared.feed.Fed.TheVariants.{Record, End, TooLong, Unfinished}

at_none : (fed : Fed) (f : ℕ → Script) → script_at fed None f ≡ ends_as fed
at_none Record f = refl
at_none End f = refl
at_none TooLong f = refl
at_none Unfinished f = refl

at_same : (fed : Fed) (o : Option ℕ) (f g : ℕ → Script) → ((k : ℕ) → o ≡ Some k → f k ≡ g k) → script_at fed o f ≡ script_at fed o g
at_same Record (Some k) f g h = h k refl
at_same Record None f g h = refl
at_same End o f g h = refl
at_same TooLong o f g h = refl
at_same Unfinished o f g h = refl

none_within : (n p b : ℕ) → script_within n p b [] ≡ ends_as (fed_of p b [])
none_within zero p b = refl
none_within (suc n) p b = at_none (fed_of p b []) (λ k. with_first (record_text k []) (script_within n (p + (b + k + 1)) 0 (drop (k + 1) [])))

-- as many records as bytes are enough
enough : (m n p b : ℕ) (bytes : List ℕ) → length bytes ≤ m → length bytes ≤ n → script_within m p b bytes ≡ script_within n p b bytes
enough zero n p b bytes h i =
    let e : bytes ≡ [] = nil_from_length bytes (omega arith) in
    subst (λ l. script_within zero p b l ≡ script_within n p b l) (sym e) (sym (none_within n p b))
enough (suc m) zero p b bytes h i =
    let e : bytes ≡ [] = nil_from_length bytes (omega arith) in
    subst (λ l. script_within (suc m) p b l ≡ script_within zero p b l) (sym e) (none_within (suc m) p b)
enough (suc m) (suc n) p b bytes h i =
    at_same (fed_of p b bytes) (semicolon bytes)
    (λ k. with_first (record_text k bytes) (script_within m (p + (b + k + 1)) 0 (drop (k + 1) bytes)))
    (λ k. with_first (record_text k bytes) (script_within n (p + (b + k + 1)) 0 (drop (k + 1) bytes)))
    (λ k e.
    let w = semicolon-within bytes k e in
    ap (with_first (record_text k bytes))
    (enough m n (p + (b + k + 1)) 0 (drop (k + 1) bytes) (omega (arith, length-drop (k + 1) bytes, w)) (omega (arith, length-drop (k + 1) bytes, w))))

pub script_step : (p b : ℕ) (bytes : List ℕ) → script_of p b bytes ≡ script_at (fed_of p b bytes) (semicolon bytes)
    (λ place. with_first (record_text place bytes) (script_of (p + (b + place + 1)) 0 (drop (place + 1) bytes)))
unfolding script_of
script_step p b bytes =
    enough (length bytes) (suc (length bytes)) p b bytes (omega arith) (omega arith)
    ∙ at_same (fed_of p b bytes) (semicolon bytes)
    (λ k. with_first (record_text k bytes) (script_within (length bytes) (p + (b + k + 1)) 0 (drop (k + 1) bytes)))
    (λ k. with_first (record_text k bytes) (script_within (length (drop (k + 1) bytes)) (p + (b + k + 1)) 0 (drop (k + 1) bytes)))
    (λ k e.
    ap (with_first (record_text k bytes))
    (enough (length bytes) (length (drop (k + 1) bytes)) (p + (b + k + 1)) 0 (drop (k + 1) bytes) (omega (arith, length-drop (k + 1) bytes)) (omega arith)))

-- the first record and what follows
record_step : (p b place : ℕ) (bytes : List ℕ) → Record ≡ fed_of p b bytes → semicolon bytes ≡ Some place →
    script_of p b bytes ≡ with_first (record_text place bytes) (script_of (p + (b + place + 1)) 0 (drop (place + 1) bytes))
record_step p b place bytes a e =
    let after : ℕ → Script = λ k. with_first (record_text k bytes) (script_of (p + (b + k + 1)) 0 (drop (k + 1) bytes)) in
    script_step p b bytes ∙ ap (λ fed. script_at fed (semicolon bytes) after) (sym a) ∙ ap (λ o. script_at Record o after) e

end_step : (fed : Fed) (p b : ℕ) (bytes : List ℕ) → fed ≡ fed_of p b bytes → ((o : Option ℕ) (f : ℕ → Script) → script_at fed o f ≡ ends_as fed) →
    script_of p b bytes ≡ ends_as fed
end_step fed p b bytes a h =
    let after : ℕ → Script = λ k. with_first (record_text k bytes) (script_of (p + (b + k + 1)) 0 (drop (k + 1) bytes)) in
    script_step p b bytes ∙ ap (λ v. script_at v (semicolon bytes) after) (sym a) ∙ h (semicolon bytes) after

end_reads : (fed : Fed) (old new : Feed) (x y : List ℕ) → ((o : Option ℕ) (f : ℕ → Script) → script_at fed o f ≡ ends_as fed) →
    fed ≡ fed_of old.passed old.blank x → Stays old x new y →
    (script_of old.passed old.blank x ≡ ends_as fed) × (script_of new.passed new.blank y ≡ script_of old.passed old.blank x)
end_reads fed old new x y h a s =
    let one = end_step fed old.passed old.blank x a h in
    (one, end_step fed new.passed new.blank y (a ∙ stays-fed old new x y s) h ∙ sym one)

record_reads : (old new : Feed) (x y : List ℕ) → Record ≡ fed_of old.passed old.blank x → Takes old x new y →
    script_of old.passed old.blank x ≡ with_first new.last (script_of new.passed new.blank y)
record_reads old new x y a t =
    record_step old.passed old.blank t.place x a t.ends
    ∙ ap (λ text. with_first text (script_of (old.passed + (old.blank + t.place + 1)) 0 (drop (t.place + 1) x))) (sym t.text)
    ∙ ap (λ p. with_first new.last (script_of p 0 (drop (t.place + 1) x))) (sym t.passed)
    ∙ ap (λ b. with_first new.last (script_of new.passed b (drop (t.place + 1) x))) (sym t.blank)
    ∙ ap (λ r. with_first new.last (script_of new.passed new.blank r)) (sym t.follows)

reads : (fed : Fed) (old new : Feed) (x y : List ℕ) → fed ≡ fed_of old.passed old.blank x → Leaves fed old x new y →
    Reads fed new.last (script_of old.passed old.blank x) (script_of new.passed new.blank y)
reads Record old new x y a l = record_reads old new x y a l
reads End old new x y a l = end_reads End old new x y (λ o f. refl) a l
reads TooLong old new x y a l = end_reads TooLong old new x y (λ o f. refl) a l
reads Unfinished old new x y a l = end_reads Unfinished old new x y (λ o f. refl) a l

pub reads_script : (fed : Fed) (old new : Feed) (lo ln : Option (List ℕ)) → FeedsAll fed old lo new ln → ReadsScript fed old lo new ln
reads_script fed old new lo ln f before after b a =
    let p = f before after b a in reads fed old new (old.bytes ++ before) (new.bytes ++ after) p.0 p.1
