-- The script is its records.
use Rattle.std.proofs.Common.{◌≡◌, ℕ, zero, suc, ◌+◌, ◌*◌, ◌<◌, ◌≤◌, ◌^◌, Bool, true, false, not, List, [], ◌∷◌, ◌++◌, codes, decimal, length, drop, Option, Some, None, refl, ap, ◌∙◌, append_assoc, arith}
use Rattle.std.specs.Prelude.{◌==◌, ◌&&◌, ◌||◌, cond, if◌then◌else◌}
use Rattle.std.specs.Char.{digit_value}
use Rattle.std.specs.List.{AllByRecursion, list_all, flat_map, prefix_len}
use Rattle.std.specs.Str.Parse.{AllDigits}
use Rattle.std.proofs.lemmas.Bool.{le-ltb}
use Rattle.std.proofs.lemmas.Bool.Decides.{nat_tests}
use Rattle.std.proofs.lemmas.Fmt.{length-decimal-le}
use Rattle.std.proofs.lemmas.List.{length-append}
use Rattle.std.proofs.lemmas.List.Folds.{list_all-append}
use Rattle.std.proofs.Math.Seq.{take-append_seam, drop-append-add}
use Rattle.pd_lex.specs.Text.{is_space}
use Rattle.pd_lex.specs.Reading.{semicolon, plus}
use Rattle.pd_feed.specs.Script.{fed_at, record_fed, is_beyond, record_text, Script, with_first, ends_as, script_at, script_of}
use Rattle.pd_feed.specs.declared.feed.Fed.{Fed}
use Rattle.pd_feed.specs.declared.feed.Fed.TheVariants.{Record, End, TooLong}
use Rattle.pd_feed.proofs.ScriptLemmas.{script_step}
use Rattle.pd_made.specs.Voices.{voices}
use Rattle.pd_made.specs.Scripts.{voice_records, made_script}
use Rattle.pd_made_law.specs.Records.{cut_record, join_record, end_record, records_of, made_records}
use Rattle.pd_made_law.proofs.TokenLemmas.{all_digits}

-- ---- one record

-- neither a semicolon nor a backslash
abbrev is_mid : ℕ → Bool
is_mid b = not (b == 59) && not (b == 92)

mid_first : (b : ℕ) (s : Bool) → (is_mid b && s) ≡ true → ((b == 59) ≡ false) × ((b == 92) ≡ false) × (s ≡ true)
mid_first b s h = parts (b == 59) (b == 92) s h
  where
    parts : (x y z : Bool) → ((not x && not y) && z) ≡ true → (x ≡ false) × (y ≡ false) × (z ≡ true)
    parts true y z h = absurd (cc)
    parts false true z h = absurd (cc)
    parts false false z h = (refl, refl, h)

semicolon_at : (t rest : List ℕ) → list_all is_mid t ≡ true → semicolon (t ++ 59 ∷ rest) ≡ Some (length t)
semicolon_at [] [] h = refl
semicolon_at [] (c ∷ cs) h = refl
semicolon_at (b ∷ []) rest h =
    let p = mid_first b true h in
    ap (λ (x : Bool). cond x (Some 0) (cond (b == 92) (plus 2 (semicolon rest)) (plus 1 (semicolon (59 ∷ rest))))) p.0
    ∙ ap (λ (x : Bool). cond x (plus 2 (semicolon rest)) (plus 1 (semicolon (59 ∷ rest)))) p.1 ∙ ap (plus 1) (semicolon_at [] rest refl)
semicolon_at (b ∷ c ∷ t) rest h =
    let p = mid_first b (list_all is_mid (c ∷ t)) h in
    ap (λ (x : Bool). cond x (Some 0) (cond (b == 92) (plus 2 (semicolon (t ++ 59 ∷ rest))) (plus 1 (semicolon (c ∷ (t ++ 59 ∷ rest)))))) p.0
    ∙ ap (λ (x : Bool). cond x (plus 2 (semicolon (t ++ 59 ∷ rest))) (plus 1 (semicolon (c ∷ (t ++ 59 ∷ rest))))) p.1 ∙ ap (plus 1) (semicolon_at (c ∷ t) rest p.2)
    ∙ ap (λ (k : ℕ). Some k) (omega arith)

-- it is short enough, and so is what comes before it
record_due : (p count : ℕ) → p ≤ 1000000 → count ≤ 1000 → record_fed p count ≡ Record
record_due p count h l =
    ap (λ (x : Bool). if x || is_beyond (p + count) then TooLong else Record) (le-ltb 65536 count (omega (arith, l)))
    ∙ ap (λ (x : Bool). if x then TooLong else Record) (le-ltb 1073741824 (p + count) (omega (arith, h, l)))

text_at : (t rest : List ℕ) → record_text (length t) (t ++ 59 ∷ rest) ≡ drop (prefix_len is_space t) t
text_at t rest = ap (λ (b : List ℕ). drop (prefix_len is_space b) b) (take-append_seam t (59 ∷ rest))

record_next : (p : ℕ) (t rest : List ℕ) → list_all is_mid t ≡ true → p ≤ 1000000 → length t ≤ 900
    → script_of p 0 (t ++ 59 ∷ rest) ≡ with_first (drop (prefix_len is_space t) t) (script_of (p + (0 + length t + 1)) 0 rest)
record_next p t rest mid h l =
    let bytes : List ℕ = t ++ 59 ∷ rest in
    let after : ℕ → Script = λ place. with_first (record_text place bytes) (script_of (p + (0 + place + 1)) 0 (drop (place + 1) bytes)) in
    script_step p 0 bytes
    ∙ ap (λ (o : Option ℕ). script_at (fed_at p 0 bytes o) o after) (semicolon_at t rest mid)
    ∙ ap (λ (f : Fed). script_at f (Some (length t)) after) (record_due p (0 + length t + 1) h (omega (arith, l)))
    ∙ ap (λ (x : List ℕ). with_first x (script_of (p + (0 + length t + 1)) 0 (drop (length t + 1) bytes))) (text_at t rest)
    ∙ ap (λ (r : List ℕ). with_first (drop (prefix_len is_space t) t) (script_of (p + (0 + length t + 1)) 0 r)) (drop-append-add t (59 ∷ rest) 1)

-- behind the last record stands a line feed
over : (p : ℕ) → p ≤ 1000000 → script_of p 0 (10 ∷ []) ≡ ends_as End
over p h =
    script_step p 0 (10 ∷ [])
    ∙ ap (λ (x : Bool). script_at (if x then TooLong else End) None (λ place. with_first (record_text place (10 ∷ [])) (script_of (p + (0 + place + 1)) 0 (drop (place + 1) (10 ∷ [])))))
    (le-ltb 1073741824 (p + (0 + 1)) (omega (arith, h)))

-- ---- the records of voices

digit_mid : (b : ℕ) → digit_value b < 10 → is_mid b ≡ true
digit_mid b h = grind (arith, nat_tests)

digits_mid : (ds : List ℕ) → AllDigits 10 ds → list_all is_mid ds ≡ true
digits_mid [] h = refl
digits_mid (d ∷ ds) h = ap (λ (x : Bool). x && list_all is_mid ds) (digit_mid d h.0) ∙ digits_mid ds h.1

-- a text around the number of a voice
module _ (voice : ℕ) (few : voice ≤ 1000) where
  abbrev number : List ℕ
  number = decimal (2 * voice)

  small : 2 * voice < 2 ^ 64
  small = omega (arith, few)

  around_mid : (a z : List ℕ) → list_all is_mid a ≡ true → list_all is_mid z ≡ true → list_all is_mid (a ++ (number ++ z)) ≡ true
  around_mid a z f g =
      list_all-append is_mid a (number ++ z) ∙ ap (λ (x : Bool). x && list_all is_mid (number ++ z)) f
      ∙ list_all-append is_mid number z ∙ ap (λ (x : Bool). x && list_all is_mid z) (digits_mid number (all_digits (2 * voice) small)) ∙ g

  around_short : (a z : List ℕ) → length a ≤ 100 → length z ≤ 100 → length (a ++ (number ++ z)) ≤ 204
  around_short a z f g =
      let n : length number ≤ 4 = length-decimal-le 4 (2 * voice) (omega arith) (omega (arith, few)) small in
      let x : length (a ++ (number ++ z)) ≡ length a + length (number ++ z) = length-append a (number ++ z) in
      let y : length (number ++ z) ≡ length number + length z = length-append number z in
      omega (arith, n, x, y, f, g)

-- what a voice's records are, with a beginning
shape : (a d z b y r : List ℕ) → (a ++ (d ++ ((z ++ 59 ∷ 10 ∷ []) ++ (b ++ (d ++ (y ++ 59 ∷ 10 ∷ [])))))) ++ r ≡ (a ++ (d ++ z)) ++ 59 ∷ ((10 ∷ (b ++ (d ++ y))) ++ 59 ∷ 10 ∷ r)
shape a d z b y r = simp (append_assoc)

abbrev cut_words : List ℕ
cut_words = codes "1 edit . / disconnect "

abbrev join_words : List ℕ
join_words = codes "0 edit . / connect "

-- two records, behind a beginning a
voice_next : (voice : ℕ) → voice ≤ 1000 → (p : ℕ) (a r : List ℕ) → p ≤ 900000 → list_all is_mid a ≡ true → length a ≤ 100
    → ((x : List ℕ) → drop (prefix_len is_space (a ++ x)) (a ++ x) ≡ cut_words ++ x)
    → (q : ℕ) × (q ≤ p + 500) × (script_of p 0 ((a ++ (decimal (2 * voice) ++ (codes " 0 0 0;\n" ++ (join_words ++ (decimal (2 * voice) ++ codes " 0 0 1;\n"))))) ++ r)
    ≡ with_first (cut_record voice) (with_first (join_record voice) (script_of q 0 (10 ∷ r))))
voice_next voice few p a r h mid len strip =
    let d : List ℕ = decimal (2 * voice) in
    let t : List ℕ = a ++ (d ++ codes " 0 0 0") in
    let u : List ℕ = (10 ∷ join_words) ++ (d ++ codes " 0 0 1") in
    let lt : length t ≤ 204 = around_short voice few a (codes " 0 0 0") len (omega arith) in
    let lu : length u ≤ 204 = around_short voice few (10 ∷ join_words) (codes " 0 0 1") (omega arith) (omega arith) in
    let k : ℕ = p + (0 + length t + 1) in (
      k + (0 + length u + 1),
      omega (arith, lt, lu),
      ap (script_of p 0) (shape a d (codes " 0 0 0") join_words (codes " 0 0 1") r)
          ∙ record_next p t (u ++ 59 ∷ 10 ∷ r) (around_mid voice few a (codes " 0 0 0") mid refl) (omega (arith, h)) (omega (arith, lt))
          ∙ ap (λ (x : List ℕ). with_first x (script_of k 0 (u ++ 59 ∷ 10 ∷ r))) (strip (d ++ codes " 0 0 0"))
          ∙ ap (with_first (cut_record voice)) (record_next k u (10 ∷ r) (around_mid voice few (10 ∷ join_words) (codes " 0 0 1") refl refl) (omega (arith, h, lt)) (omega (arith, lu))),
    )

-- all voices, and the end
abbrev all_from : List ℕ → List ℕ
all_from vs = flat_map voice_records vs ++ codes "0 end;\n"

abbrev told_from : List ℕ → Script
told_from vs = record { records = flat_map records_of vs ++ end_record ∷ []; end = End }

-- behind a line feed
rest_told : (vs : List ℕ) (p : ℕ) → AllByRecursion (λ v. v ≤ 1000) vs → p + 500 * length vs ≤ 800000 → script_of p 0 (10 ∷ all_from vs) ≡ told_from vs
rest_told [] p h l =
    record_next p (codes "\n0 end") (10 ∷ []) refl (omega (arith, l)) (omega arith) ∙ ap (with_first end_record) (over (p + (0 + 6 + 1)) (omega (arith, l)))
rest_told (v ∷ vs) p h l =
    let s = voice_next v h.0 p (10 ∷ cut_words) (all_from vs) (omega (arith, l)) refl (omega arith) (λ x. refl) in
    ap (λ (x : List ℕ). script_of p 0 (10 ∷ x)) (append_assoc (voice_records v) (flat_map voice_records vs) (codes "0 end;\n"))
    ∙ s.2 ∙ ap (λ (x : Script). with_first (cut_record v) (with_first (join_record v) x)) (rest_told vs s.0 h.1 (omega (arith, l, s.1)))

all_told : (vs : List ℕ) → AllByRecursion (λ v. v ≤ 1000) vs → 500 * length vs ≤ 700000 → script_of 0 0 (all_from vs) ≡ told_from vs
all_told [] h l = record_next 0 (codes "0 end") (10 ∷ []) refl (omega arith) (omega arith) ∙ ap (with_first end_record) (over (0 + (0 + 5 + 1)) (omega arith))
all_told (v ∷ vs) h l =
    let s = voice_next v h.0 0 cut_words (all_from vs) (omega arith) refl (omega arith) (λ x. refl) in
    ap (script_of 0 0) (append_assoc (voice_records v) (flat_map voice_records vs) (codes "0 end;\n"))
    ∙ s.2 ∙ ap (λ (x : Script). with_first (cut_record v) (with_first (join_record v) x)) (rest_told vs s.0 h.1 (omega (arith, l, s.1)))

-- the numbers of n voices
last_few : (m : ℕ) (xs : List ℕ) (x : ℕ) → AllByRecursion (λ v. v ≤ m) xs → x ≤ m → AllByRecursion (λ v. v ≤ m) (xs ++ x ∷ [])
last_few m [] x h l = (l, tt)
last_few m (y ∷ xs) x h l = (h.0, last_few m xs x h.1 l)

pub voices_few : (n m : ℕ) → n ≤ m → AllByRecursion (λ v. v ≤ m) (voices n)
voices_few zero m h = tt
voices_few (suc n) m h = last_few m (voices n) (suc n) (voices_few n m (omega (arith, h))) h

pub voices_count : (n : ℕ) → length (voices n) ≡ n
voices_count zero = refl
voices_count (suc n) = length-append (voices n) (suc n ∷ []) ∙ ap (λ (k : ℕ). k + 1) (voices_count n) ∙ omega arith

pub script_told : (n : ℕ) → n ≤ 1000 → script_of 0 0 (made_script n) ≡ record { records = made_records n; end = End }
script_told n h = let c : length (voices n) ≡ n = voices_count n in all_told (voices n) (voices_few n 1000 h) (omega (arith, h, c))
