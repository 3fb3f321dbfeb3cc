-- What words ask for is what their pieces ask for.
use Rattle.std.proofs.Common.{◌≡◌, ◌↔◌, Bool, true, false, ◌||◌, List, [], ◌∷◌, ◌++◌, ◌⊎◌, inl, inr, map, flat_map, refl, sym, ap, ◌∙◌, subst, codes, Option, Some, None, option_map}
use Rattle.std.specs.List.{list_any}
use Rattle.pd_words.specs.Grammar.{Asked, Part, Text, a_make, a_patch, a_rate, asked_by, part, parts_of, words_of}
use Rattle.pd_words.specs.Command.{IsCommand, Piece, make, make_joined, part_of, patch, rate, rate_joined, written}
use Rattle.pd_words.specs.Shown.{asked, begins_with_minus, is_stray}
use Rattle.pd_words.specs.declared.reading.Words.{Words}
use Rattle.pd_words.proofs.FormLemmas.{Seen, by_test, has_minus, lead-plain, minus_refused, or-left, or-right, seen, stray-parts}
use Rattle.pd_words.proofs.StepLemmas.{Setting, kind_of, name_of, of_make, of_rate}
use Rattle.pd_words.proofs.ReadLemmas.{last-parts, lead-joined, minus-name, parts_stand, two-parts}

-- ---- the parts of written pieces

parts-written : (pieces : List Piece) → has_minus (map part_of pieces) ≡ false → parts_of (flat_map written pieces) ≡ map part_of pieces
parts-written [] h = refl
parts-written (patch name ∷ pieces) h =
    parts_stand name (flat_map written pieces) (part a_patch name) (lead-plain name (or-left (begins_with_minus name) (has_minus (map part_of pieces)) h))
    ∙ ap (λ ps. part a_patch name ∷ ps) (parts-written pieces (or-right (begins_with_minus name) (has_minus (map part_of pieces)) h))
parts-written (rate value ∷ pieces) h =
    two-parts of_rate value (flat_map written pieces)
    ∙ ap (λ ps. part a_rate value ∷ ps) (parts-written pieces (or-right (begins_with_minus value) (has_minus (map part_of pieces)) h))
parts-written (rate_joined value ∷ pieces) h =
    parts_stand (codes "--rate=" ++ value) (flat_map written pieces) (part a_rate value) (lead-joined of_rate value)
    ∙ ap (λ ps. part a_rate value ∷ ps) (parts-written pieces (or-right (begins_with_minus value) (has_minus (map part_of pieces)) h))
parts-written (make value ∷ pieces) h =
    two-parts of_make value (flat_map written pieces)
    ∙ ap (λ ps. part a_make value ∷ ps) (parts-written pieces (or-right (begins_with_minus value) (has_minus (map part_of pieces)) h))
parts-written (make_joined value ∷ pieces) h =
    parts_stand (codes "--make=" ++ value) (flat_map written pieces) (part a_make value) (lead-joined of_make value)
    ∙ ap (λ ps. part a_make value ∷ ps) (parts-written pieces (or-right (begins_with_minus value) (has_minus (map part_of pieces)) h))

no-minus-asked : (parts : List Part) (a : Asked) → asked_by parts ≡ Some a → has_minus parts ≡ false
no-minus-asked parts a e =
    by_test (has_minus parts)
    (λ minus. let never : None ≡ Some a = sym (minus_refused parts minus) ∙ e in cc)
    (λ none. none)

command-asks : (words : List Text) (a : Asked) → IsCommand words a → words_of words ≡ Some a
command-asks words a h =
    ap words_of h.1 ∙ ap asked_by (parts-written h.0 (no-minus-asked (map part_of h.0) a h.2)) ∙ h.2

-- ---- words as pieces

abbrev Spelled : List Text → Type 0
Spelled words = (pieces : List Piece) × (words ≡ flat_map written pieces) × (map part_of pieces ≡ parts_of words)

joined-piece : Setting → Text → Piece
joined-piece of_rate value = rate_joined value
joined-piece of_make value = make_joined value

stood : (word : Text) (words : List Text) (p : Piece) → word ∷ [] ≡ written p → parts_of (word ∷ words) ≡ part_of p ∷ parts_of words → Spelled words → Spelled (word ∷ words)
stood word words p is parts h = (
  p ∷ h.0,
  ap (λ ws. ws ++ words) is ∙ ap (λ ws. written p ++ ws) h.1,
  ap (λ ps. part_of p ∷ ps) h.2 ∙ sym parts,
)

joined-spelled : (s : Setting) (value : Text) (words : List Text) → Spelled words → Spelled ((name_of s ++ 61 ∷ value) ∷ words)
joined-spelled of_rate value words h = stood (name_of of_rate ++ 61 ∷ value) words (rate_joined value) refl (parts_stand (name_of of_rate ++ 61 ∷ value) words (part a_rate value) (lead-joined of_rate value)) h
joined-spelled of_make value words h = stood (name_of of_make ++ 61 ∷ value) words (make_joined value) refl (parts_stand (name_of of_make ++ 61 ∷ value) words (part a_make value) (lead-joined of_make value)) h

plain-spelled : (word : Text) (words : List Text) → begins_with_minus word ≡ false → Spelled words → Spelled (word ∷ words)
plain-spelled word words plain h = stood word words (patch word) refl (parts_stand word words (part a_patch word) (lead-plain word plain)) h

alone-spelled : (s : Setting) (value : Text) (words : List Text) → Spelled words → Spelled (name_of s ∷ value ∷ words)
alone-spelled of_rate value words h = (rate value ∷ h.0, ap (λ ws. name_of of_rate ∷ value ∷ ws) h.1, ap (λ ps. part a_rate value ∷ ps) h.2)
alone-spelled of_make value words h = (make value ∷ h.0, ap (λ ws. name_of of_make ∷ value ∷ ws) h.1, ap (λ ps. part a_make value ∷ ps) h.2)

one-spelled : (word : Text) → is_stray word ≡ false → has_minus (parts_of (word ∷ [])) ≡ false → Spelled (word ∷ [])
one-spelled word tidy none = go (seen word tidy)
  where
    named : (s : Setting) → (word ≡ name_of s) ⊎ ((text : Text) × (word ≡ name_of s ++ 61 ∷ text)) → Spelled (word ∷ [])
    named s (inl at) =
        let bad : has_minus (parts_of (name_of s ∷ [])) ≡ true = ap has_minus (last-parts s) ∙ ap (λ b. b || false) (minus-name s) in
        let good : has_minus (parts_of (name_of s ∷ [])) ≡ false = ap (λ w. has_minus (parts_of (w ∷ []))) (sym at) ∙ none in
        let never : true ≡ false = sym bad ∙ good in
        cc
    named s (inr at) = subst (λ w. Spelled (w ∷ [])) (sym at.1) (joined-spelled s at.0 [] ([], refl, refl))

    go : Seen word → Spelled (word ∷ [])
    go (inl at) = named of_rate at
    go (inr (inl at)) = named of_make at
    go (inr (inr plain)) = plain-spelled word [] plain ([], refl, refl)

-- a list of words may be taken apart where no part begins with a minus
abbrev Spells : List Text → Type 0
Spells words = list_any is_stray words ≡ false → has_minus (parts_of words) ≡ false → Spelled words

two-spelled : (word value : Text) (rest : List Text) → Spells (value ∷ rest) → Spells rest → Spells (word ∷ value ∷ rest)
two-spelled word value rest later last tidy none = go (seen word (or-left (is_stray word) (list_any is_stray (value ∷ rest)) tidy))
  where
    more : list_any is_stray (value ∷ rest) ≡ false
    more = or-right (is_stray word) (list_any is_stray (value ∷ rest)) tidy

    behind-part : (p : Part) (words : List Text) → parts_of (word ∷ value ∷ rest) ≡ p ∷ parts_of words → has_minus (parts_of words) ≡ false
    behind-part p words parts = or-right (begins_with_minus p.text) (has_minus (parts_of words)) (sym (ap has_minus parts) ∙ none)

    named : (s : Setting) → (word ≡ name_of s) ⊎ ((text : Text) × (word ≡ name_of s ++ 61 ∷ text)) → Spelled (word ∷ value ∷ rest)
    named s (inl at) =
        subst (λ w. Spelled (w ∷ value ∷ rest)) (sym at) (alone-spelled s value rest (last (or-right (is_stray value) (list_any is_stray rest) more)
        (behind-part (part (kind_of s) value) rest (ap (λ w. parts_of (w ∷ value ∷ rest)) at ∙ two-parts s value rest))))
    named s (inr at) =
        subst (λ w. Spelled (w ∷ value ∷ rest)) (sym at.1) (joined-spelled s at.0 (value ∷ rest) (later more
        (behind-part (part (kind_of s) at.0) (value ∷ rest)
        (ap (λ w. parts_of (w ∷ value ∷ rest)) at.1 ∙ parts_stand (name_of s ++ 61 ∷ at.0) (value ∷ rest) (part (kind_of s) at.0) (lead-joined s at.0)))))

    go : Seen word → Spelled (word ∷ value ∷ rest)
    go (inl at) = named of_rate at
    go (inr (inl at)) = named of_make at
    go (inr (inr plain)) = plain-spelled word (value ∷ rest) plain (later more
        (behind-part (part a_patch word) (value ∷ rest) (parts_stand word (value ∷ rest) (part a_patch word) (lead-plain word plain))))

spelled : (words : List Text) → Spells words
spelled [] tidy none = ([], refl, refl)
spelled (word ∷ []) tidy none = one-spelled word (or-left (is_stray word) false tidy) none
spelled (word ∷ value ∷ rest) tidy none = two-spelled word value rest (spelled (value ∷ rest)) (spelled rest) tidy none

asked-command : (words : List Text) (a : Asked) → words_of words ≡ Some a → IsCommand words a
asked-command words a e =
    let none : has_minus (parts_of words) ≡ false = no-minus-asked (parts_of words) a e in
    let tidy : list_any is_stray words ≡ false =
    by_test (list_any is_stray words) (λ stray. let never : true ≡ false = sym (stray-parts words stray) ∙ none in cc) (λ fine. fine) in
    let h : Spelled words = spelled words tidy none in
    (h.0, h.1, ap asked_by h.2 ∙ e)

-- the answer tells all that the words are a command for
pub asks-exactly : (words : List Text) (r : Option Words) → option_map asked r ≡ words_of words → (a : Asked) → (option_map asked r ≡ Some a) ↔ IsCommand words a
asks-exactly words r value a = (
  (λ e. asked-command words a (sym value ∙ e)),
  (λ h. value ∙ command-asks words a h),
)
