-- What a word is, and what words ask for among which one begins with a minus and names no option.
use Rattle.std.proofs.Common.{◌≡◌, ℕ, ◌≤◌, Bool, true, false, cond, not, ◌&&◌, ◌||◌, ◌==◌, List, [], ◌∷◌, ◌++◌, ◌⊎◌, inl, inr, length, refl, sym, ap, ◌∙◌, arith, codes, Option, Some, None, append-nil}
use Rattle.std.specs.List.{list_any, list_all}
use Rattle.std.specs.Str.Parse.{digits_value}
use Rattle.std.proofs.lemmas.Bool.{eqb-true}
use Rattle.pd_words.specs.Grammar.{Asked, Form, Kind, Lead, Part, Text, a_make, a_patch, a_rate, absent, alone, all_three, asked_by, asks, behind, first_parts, form, form_by, is_number, is_patch_name, is_same, joined, last_part, lead, lead_by, make_of, number_where, of_kind, part, parts_of, patch_of, rate_of, stands, words_of}
use Rattle.pd_words.specs.Shown.{begins_with_minus, is_form, is_present, is_stray}

pub by_test : {P : Type 0} (b : Bool) → (b ≡ true → P) → (b ≡ false → P) → P
by_test {P} b t f = elim b as (λ v. (v ≡ true → P) → (v ≡ false → P) → P) [ true ↦ (λ y n. y refl) | false ↦ (λ y n. n refl) ] t f

or-true : (a b : Bool) → b ≡ true → (a || b) ≡ true
or-true true b e = refl
or-true false b e = e

pub or-left : (a b : Bool) → (a || b) ≡ false → a ≡ false
or-left true b e = e
or-left false b e = refl

pub or-right : (a b : Bool) → (a || b) ≡ false → b ≡ false
or-right true b e = cc
or-right false b e = e

-- ---- how a word is written

behind-is : (name word rest : Text) → behind name word ≡ Some rest → word ≡ name ++ rest
behind-is [] word rest e = cc
behind-is (b ∷ name) [] rest e = cc
behind-is (b ∷ name) (c ∷ word) rest e =
    by_test (c == b)
    (λ same.
    let there : behind name word ≡ Some rest = rw same at e in
    let tail : word ≡ name ++ rest = behind-is name word rest there in
    let head : c ≡ b = eqb-true c b same in
    cc)
    (λ differs.
    let never : None ≡ Some rest = rw differs at e in
    cc)

-- the word is the option's name, alone or with a value
abbrev pub IsNamed : Text → Text → Type 0
IsNamed name word = (word ≡ name) ⊎ ((value : Text) × (word ≡ name ++ 61 ∷ value))

form-named : (name word : Text) → is_form name word ≡ true → IsNamed name word
form-named name word h = go (behind name word) refl h
  where
    go : (o : Option Text) → behind name word ≡ o → is_present (form_by o) ≡ true → IsNamed name word
    go None e h = cc
    go (Some []) e h = inl (behind-is name word [] e ∙ append-nil name)
    go (Some (c ∷ value)) e h =
        by_test (c == 61)
        (λ same.
        let at : c ≡ 61 = eqb-true c 61 same in
        inr (value, behind-is name word (c ∷ value) e ∙ ap (λ x. name ++ x ∷ value) at))
        (λ differs.
        let never : false ≡ true = rw differs at h in
        cc)

-- the word is an option's name, alone or with a value, or begins without a minus
abbrev pub Seen : Text → Type 0
Seen word = IsNamed (codes "--rate") word ⊎ (IsNamed (codes "--make") word ⊎ (begins_with_minus word ≡ false))

pub seen : (word : Text) → is_stray word ≡ false → Seen word
seen word h =
    by_test (begins_with_minus word)
    (λ minus. by_test (is_form (codes "--rate") word)
    (λ rate. inl (form-named (codes "--rate") word rate))
    (λ no_rate. by_test (is_form (codes "--make") word)
    (λ make. inr (inl (form-named (codes "--make") word make)))
    (λ no_make.
    let never : true ≡ false = rw (minus, no_rate, no_make) at h in
    cc)))
    (λ plain. inr (inr plain))

-- a word without a minus is a part by itself
pub lead-plain : (word : Text) → begins_with_minus word ≡ false → lead word ≡ stands (part a_patch word)
lead-plain [] h = refl
lead-plain (b ∷ bs) h = rw h refl

lead-absent : (word : Text) (rate make : Form) → is_present rate ≡ false → is_present make ≡ false
    → lead_by a_rate rate (lead_by a_make make (stands (part a_patch word))) ≡ stands (part a_patch word)
lead-absent word absent absent r m = refl
lead-absent word absent alone r m = cc
lead-absent word absent (joined v) r m = cc
lead-absent word alone make r m = cc
lead-absent word (joined v) make r m = cc

lead-stray : (word : Text) → is_stray word ≡ true → lead word ≡ stands (part a_patch word)
lead-stray word h =
    by_test (begins_with_minus word)
    (λ minus. by_test (is_form (codes "--rate") word)
    (λ rate. let never : false ≡ true = rw (minus, rate) at h in cc)
    (λ no_rate. by_test (is_form (codes "--make") word)
    (λ make. let never : false ≡ true = rw (minus, no_rate, make) at h in cc)
    (λ no_make. lead-absent word (form (codes "--rate") word) (form (codes "--make") word) no_rate no_make)))
    (λ plain. let never : false ≡ true = rw plain at h in cc)

stray-minus : (word : Text) → is_stray word ≡ true → begins_with_minus word ≡ true
stray-minus word h =
    by_test (begins_with_minus word) (λ minus. minus) (λ plain. let never : false ≡ true = rw plain at h in cc)

-- ---- a part that begins with a minus

abbrev pub has_minus : List Part → Bool
has_minus = list_any (λ p. begins_with_minus p.text)

stray-first : (word value : Text) (after between : List Part) → is_stray word ≡ true
    → has_minus (first_parts (lead word) value after between) ≡ true
stray-first word value after between h =
    rw (lead-stray word h) (rw (stray-minus word h) refl)

minus-second : (l : Lead) (value : Text) (after between : List Part) → begins_with_minus value ≡ true → has_minus between ≡ true
    → has_minus (first_parts l value after between) ≡ true
minus-second (asks kind) value after between minus h = rw minus refl
minus-second (stands whole) value after between minus h = or-true (begins_with_minus whole.text) (has_minus between) h

minus-rest : (l : Lead) (value : Text) (after between : List Part) → has_minus after ≡ true → has_minus between ≡ true
    → has_minus (first_parts l value after between) ≡ true
minus-rest (asks kind) value after between a b = or-true (begins_with_minus value) (has_minus after) a
minus-rest (stands whole) value after between a b = or-true (begins_with_minus whole.text) (has_minus between) b

pub stray-parts : (words : List Text) → list_any is_stray words ≡ true → has_minus (parts_of words) ≡ true
stray-parts [] h = h
stray-parts (word ∷ []) h =
    by_test (is_stray word)
    (λ stray. rw (lead-stray word stray) (rw (stray-minus word stray) refl))
    (λ clean. let never : false ≡ true = rw clean at h in cc)
stray-parts (word ∷ value ∷ rest) h =
    by_test (is_stray word)
    (λ stray. stray-first word value (parts_of rest) (parts_of (value ∷ rest)) stray)
    (λ clean.
    let later : list_any is_stray (value ∷ rest) ≡ true = rw clean at h in
    by_test (is_stray value)
    (λ stray. minus-second (lead word) value (parts_of rest) (parts_of (value ∷ rest)) (stray-minus value stray) (stray-parts (value ∷ rest) later))
    (λ tidy.
    let last : list_any is_stray rest ≡ true = rw tidy at later in
    minus-rest (lead word) value (parts_of rest) (parts_of (value ∷ rest)) (stray-parts rest last) (stray-parts (value ∷ rest) later)))

-- ---- what such parts ask for

abbrev minus_in : List Text → Bool
minus_in = list_any begins_with_minus

no_number : (b : ℕ) (bs : Text) → (b == 45) ≡ true → is_number (b ∷ bs) ≡ false
no_number b bs h = let at : b ≡ 45 = eqb-true b 45 h in rw at refl

no_rate : (texts : List Text) → minus_in texts ≡ true → rate_of texts ≡ None
no_rate [] h = cc
no_rate ([] ∷ []) h = cc
no_rate ((b ∷ bs) ∷ []) h =
    by_test (b == 45) (λ minus. rw (no_number b bs minus) refl) (λ plain. let never : false ≡ true = rw plain at h in cc)
no_rate (x ∷ y ∷ texts) h = refl

no_make : (texts : List Text) → minus_in texts ≡ true → make_of texts ≡ None
no_make [] h = cc
no_make ([] ∷ []) h = cc
no_make ((b ∷ bs) ∷ []) h =
    by_test (b == 45) (λ minus. rw (no_number b bs minus) refl) (λ plain. let never : false ≡ true = rw plain at h in cc)
no_make (x ∷ y ∷ texts) h = refl

no_patch : (texts : List Text) → minus_in texts ≡ true → patch_of texts ≡ None
no_patch [] h = cc
no_patch ([] ∷ []) h = cc
no_patch ((b ∷ bs) ∷ []) h =
    by_test (b == 45) (λ minus. rw minus refl) (λ plain. let never : false ≡ true = rw plain at h in cc)
no_patch (x ∷ y ∷ texts) h = refl

three-patch : (p : Option Text) (r : Option ℕ) (m : Option (Option ℕ)) → p ≡ None → all_three p r m ≡ None
three-patch p r m e = rw e refl

three-rate : (p : Option Text) (r : Option ℕ) (m : Option (Option ℕ)) → r ≡ None → all_three p r m ≡ None
three-rate None r m e = refl
three-rate (Some x) r m e = rw e refl

three-make : (p : Option Text) (r : Option ℕ) (m : Option (Option ℕ)) → m ≡ None → all_three p r m ≡ None
three-make None r m e = refl
three-make (Some x) None m e = refl
three-make (Some x) (Some y) m e = rw e refl

-- one kind of part is refused, so all are
abbrev Refuses : Kind → List Text → Type 0
Refuses a_rate texts = rate_of texts ≡ None
Refuses a_make texts = make_of texts ≡ None
Refuses a_patch texts = patch_of texts ≡ None

refused : (k : Kind) (parts : List Part) → Refuses k (of_kind k parts) → asked_by parts ≡ None
refused a_rate parts h = three-rate (patch_of (of_kind a_patch parts)) (rate_of (of_kind a_rate parts)) (make_of (of_kind a_make parts)) h
refused a_make parts h = three-make (patch_of (of_kind a_patch parts)) (rate_of (of_kind a_rate parts)) (make_of (of_kind a_make parts)) h
refused a_patch parts h = three-patch (patch_of (of_kind a_patch parts)) (rate_of (of_kind a_rate parts)) (make_of (of_kind a_make parts)) h

pub is_same-refl : (k : Kind) → is_same k k ≡ true
is_same-refl a_rate = refl
is_same-refl a_make = refl
is_same-refl a_patch = refl

some_minus : (parts : List Part) → has_minus parts ≡ true → (k : Kind) × (minus_in (of_kind k parts) ≡ true)
some_minus [] h = cc
some_minus (p ∷ parts) h =
    by_test (begins_with_minus p.text)
    (λ minus. (p.kind, rw (is_same-refl p.kind) (rw minus refl)))
    (λ plain.
    let later : has_minus parts ≡ true = rw plain at h in
    let found = some_minus parts later in (
      found.0,
      by_test (is_same p.kind found.0)
          (λ same. rw same (or-true (begins_with_minus p.text) (minus_in (of_kind found.0 parts)) found.1))
          (λ other. rw other found.1),
    ))

minus-refuses : (k : Kind) (texts : List Text) → minus_in texts ≡ true → Refuses k texts
minus-refuses a_rate texts h = no_rate texts h
minus-refuses a_make texts h = no_make texts h
minus-refuses a_patch texts h = no_patch texts h

pub minus_refused : (parts : List Part) → has_minus parts ≡ true → asked_by parts ≡ None
minus_refused parts h =
    let found = some_minus parts h in
    refused found.0 parts (minus-refuses found.0 (of_kind found.0 parts) found.1)

pub stray_refused : (words : List Text) → list_any is_stray words ≡ true → words_of words ≡ None
stray_refused words h = minus_refused (parts_of words) (stray-parts words h)

-- ---- two parts of a kind

two-refuse : (k : Kind) (texts : List Text) → 2 ≤ length texts → Refuses k texts
two-refuse a_rate [] h = absurd (omega arith)
two-refuse a_rate (x ∷ []) h = absurd (omega arith)
two-refuse a_rate (x ∷ y ∷ texts) h = refl
two-refuse a_make [] h = absurd (omega arith)
two-refuse a_make (x ∷ []) h = absurd (omega arith)
two-refuse a_make (x ∷ y ∷ texts) h = refl
two-refuse a_patch [] h = absurd (omega arith)
two-refuse a_patch (x ∷ []) h = absurd (omega arith)
two-refuse a_patch (x ∷ y ∷ texts) h = refl

pub two_refused : (k : Kind) (parts : List Part) → 2 ≤ length (of_kind k parts) → asked_by parts ≡ None
two_refused k parts h = refused k parts (two-refuse k (of_kind k parts) h)

pub of_kind-append : (k : Kind) (a b : List Part) → of_kind k (a ++ b) ≡ of_kind k a ++ of_kind k b
of_kind-append k [] b = refl
of_kind-append k (p ∷ a) b =
    by_test (is_same p.kind k)
    (λ same. rw same (ap (λ ts. p.text ∷ ts) (of_kind-append k a b)))
    (λ other. rw other (of_kind-append k a b))
