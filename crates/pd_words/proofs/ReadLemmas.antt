-- What `clap` makes of all the words, and what they ask for.
use Rattle.std.proofs.Common.{◌≡◌, ℕ, ◌+◌, ◌≤◌, Bool, true, false, cond, not, ◌&&◌, ◌||◌, ◌==◌, List, [], ◌∷◌, ◌++◌, map, ◌⊎◌, inl, inr, length, length-append, refl, sym, ap, ◌∙◌, subst, arith, codes, Option, Some, None, append-nil, append_assoc, if◌then◌else◌}
use Rattle.std.specs.List.{list_any, list_all, find, fold}
use Rattle.std.specs.Str.{bytes_eq}
use Rattle.std.specs.Prelude.{option_and_then, slice_get, is_some}
use Rattle.clap.specs.Simple.{App, Shape, built, entered, matches_of}
use Rattle.clap.specs.Walk.{Held, Row, Rule, Walk, first_of, nothing_held, reacted, rows_of, used, walked, with_default}
use Rattle.clap.specs.Kinds.{HasKind, IsAmong, Kinds, or_else}
use Rattle.clap.specs.Values.{kind_of as error_kind}
use Rattle.clap.specs.declared.error.Error.{Error}
use Rattle.clap.specs.Faults.{default_fault, defaults_fault, entered_fault, fault_of, settle_fault, turn_fault, use_fault, walk_fault}
use Rattle.clap.specs.declared.error.kind.ErrorKind.TheVariants as kind
use Rattle.clap.specs.Matches.{first_value}
use Rattle.clap.specs.declared.parser.matches.Found.{Found}
use Rattle.clap.proofs.WalkLemmas.{first_value-rows}
use Rattle.pd_words.specs.Grammar.{Asked, Kind, Lead, Part, Text, a_make, a_patch, a_rate, all_three, asked_by, is_same, lead, make_of, of_kind, part, parts_of, patch_of, rate_of, stands, words_of}
use Rattle.pd_words.specs.Shown.{asked_first, begins_with_minus, is_stray, listed, pdplay}
use Rattle.pd_words.proofs.FormLemmas.{Seen, by_test, has_minus, is_same-refl, lead-plain, minus_refused, of_kind-append, or-left, or-right, seen, two_refused}
use Rattle.pd_words.proofs.StepLemmas.{Setting, alone-fault, alone-step, begun, begun-empty, begun-fault, begun-rows, fault-again, fault-fresh, fault_at, fault_held, id_of, idle_at, is_full, joined-fault, joined-step, kind_of, name-fault, name_of, named-fault, of_make, of_rate, place, plain-fault, plain-step, row_for, rows_held, rule_for, rules, same-ids, second-fault, step, top, used-fresh, value-fault, value-step, waits_at}

-- ---- faults in turn

or_else-nil : (a : Kinds) → or_else a [] ≡ a
or_else-nil [] = refl
or_else-nil (k ∷ ks) = refl

or_else-assoc : (a b c : Kinds) → or_else (or_else a b) c ≡ or_else a (or_else b c)
or_else-assoc [] b c = refl
or_else-assoc (k ∷ ks) b c = refl

or_else-first : (a b : Kinds) → or_else a b ≡ [] → a ≡ []
or_else-first [] b e = refl
or_else-first (k ∷ ks) b e = cc

-- the faults of the words from a place of the walk on, and the rows at their end
abbrev pub end_of : Walk → List Text → Walk
end_of w words = fold (walked rules []) w words

abbrev pub fault_from : Walk → List Text → Kinds
fault_from w words = or_else (walk_fault top [] w words) (fault_held (end_of w words).held)

abbrev pub rows_from : Walk → List Text → List Row
rows_from w words = rows_held (end_of w words).held

fault_from-more : (w : Walk) (word : Text) (words : List Text) → fault_from w (word ∷ words) ≡ or_else (fault_at w word) (fault_from (step w word) words)
unfolding walk_fault
fault_from-more w word words = or_else-assoc (fault_at w word) (walk_fault top [] (step w word) words) (fault_held (end_of (step w word) words).held)

fault_from-none : (w : Walk) → fault_from w [] ≡ fault_held w.held
unfolding walk_fault
fault_from-none w = refl

-- a step without a fault
passes : (w next : Walk) (word : Text) (words : List Text) → fault_at w word ≡ [] → step w word ≡ next → fault_from w (word ∷ words) ≡ fault_from next words
passes w next word words fault there =
    fault_from-more w word words ∙ ap (λ f. or_else f (fault_from (step w word) words)) fault ∙ ap (λ x. fault_from x words) there

stops : (w : Walk) (word : Text) (words : List Text) → (fault_at w word ≡ [] → ⊥) → fault_from w (word ∷ words) ≡ [] → ⊥
stops w word words bad e = bad (or_else-first (fault_at w word) (fault_from (step w word) words) (sym (fault_from-more w word words) ∙ e))

-- ---- a fault of what is held comes up

idle-fault : (word : Text) (h : Held) (placed : Bool) → is_stray word ≡ false → (fault_held h ≡ [] → ⊥) → fault_at (idle_at h placed) word ≡ [] → ⊥
idle-fault word h placed clean bad e = go (seen word clean)
  where
    named : (s : Setting) → (word ≡ name_of s) ⊎ ((value : Text) × (word ≡ name_of s ++ 61 ∷ value)) → ⊥
    named s (inl at) = bad (or_else-first (fault_held h) [] (sym (alone-fault s h placed) ∙ ap (fault_at (idle_at h placed)) (sym at) ∙ e))
    named s (inr at) = bad (or_else-first (fault_held h) _ (or_else-first _ [] (sym (joined-fault s at.0 h placed) ∙ ap (fault_at (idle_at h placed)) (sym at.1) ∙ e)))

    plain : (p : Bool) → fault_at (idle_at h p) word ≡ [] → begins_with_minus word ≡ false → ⊥
    plain false e no_minus = bad (sym (plain-fault word h no_minus) ∙ e)
    plain true e no_minus = let never : kind.UnknownArgument ∷ [] ≡ [] = sym (second-fault word h no_minus) ∙ e in cc

    go : Seen word → ⊥
    go (inl at) = named of_rate at
    go (inr (inl at)) = named of_make at
    go (inr (inr no_minus)) = plain placed e no_minus

late : (words : List Text) (h : Held) (placed : Bool) → list_any is_stray words ≡ false → (fault_held h ≡ [] → ⊥) → fault_from (idle_at h placed) words ≡ [] → ⊥
late [] h placed clean bad e = bad (sym (fault_from-none (idle_at h placed)) ∙ e)
late (word ∷ words) h placed clean bad e =
    stops (idle_at h placed) word words (idle-fault word h placed (or-left (is_stray word) (list_any is_stray words) clean) bad) e

-- ---- the words in turn

-- at most one part of each kind
abbrev pub AreFew : List Part → Type 0
AreFew parts = (k : Kind) → length (of_kind k parts) ≤ 1

-- `clap` takes the words and finds these parts; or it refuses them, and they ask for nothing
abbrev pub IsRead : List Part → Kinds → List Row → Type 0
IsRead parts fault rows = ((fault ≡ []) × (rows ≡ map row_for parts) × AreFew parts) ⊎ ((fault ≡ [] → ⊥) × (asked_by parts ≡ None))

-- the parts so far are held, without a fault
abbrev Holds : List Part → Held → Type 0
Holds parts h = (rows_held h ≡ map row_for parts) × (fault_held h ≡ []) × AreFew parts

abbrev placed_by : List Part → Bool
placed_by parts = is_full (of_kind a_patch parts)

abbrev from_parts : List Part → Held → Walk
from_parts parts h = idle_at h (placed_by parts)

abbrev ReadFrom : List Part → Walk → List Text → List Part → Type 0
ReadFrom before w words after = IsRead (before ++ after) (fault_from w words) (rows_from w words)

few-more : (k : Kind) (text : Text) (parts : List Part) → AreFew parts → is_full (of_kind k parts) ≡ false → AreFew (parts ++ part k text ∷ [])
few-more k text parts few none = λ j.
    let long : length (of_kind j (parts ++ part k text ∷ [])) ≡ length (of_kind j parts) + length (of_kind j (part k text ∷ [])) =
    ap length (of_kind-append j parts (part k text ∷ [])) ∙ length-append (of_kind j parts) (of_kind j (part k text ∷ [])) in
    by_test (is_same k j)
    (λ same.
    let one : length (of_kind j (part k text ∷ [])) ≡ 1 = rw same refl in
    let is : k ≡ j = same-kinds k j same in
    let nothing : length (of_kind j parts) ≡ 0 = empty (of_kind j parts) (ap (λ i. is_full (of_kind i parts)) (sym is) ∙ none) in
    omega arith)
    (λ other.
    let one : length (of_kind j (part k text ∷ [])) ≡ 0 = rw other refl in
    omega (arith, few j))
  where
    same-kinds : (a b : Kind) → is_same a b ≡ true → a ≡ b
    same-kinds a_rate a_rate e = refl
    same-kinds a_rate a_make e = cc
    same-kinds a_rate a_patch e = cc
    same-kinds a_make a_rate e = cc
    same-kinds a_make a_make e = refl
    same-kinds a_make a_patch e = cc
    same-kinds a_patch a_rate e = cc
    same-kinds a_patch a_make e = cc
    same-kinds a_patch a_patch e = refl

    empty : (ts : List Text) → is_full ts ≡ false → length ts ≡ 0
    empty [] e = refl
    empty (t ∷ ts) e = cc

-- a second part of a kind is refused
again : (k : Kind) (text : Text) (before after : List Part) → is_full (of_kind k before) ≡ true → asked_by (before ++ part k text ∷ after) ≡ None
again k text before after full =
    let long : length (of_kind k (before ++ part k text ∷ after)) ≡ length (of_kind k before) + length (of_kind k (part k text ∷ after)) =
    ap length (of_kind-append k before (part k text ∷ after)) ∙ length-append (of_kind k before) (of_kind k (part k text ∷ after)) in
    let one : length (of_kind k (part k text ∷ after)) ≡ 1 + length (of_kind k after) = rw (is_same-refl k) (omega arith) in
    let some : 1 ≤ length (of_kind k before) = filled (of_kind k before) full in
    two_refused k (before ++ part k text ∷ after) (omega arith)
  where
    filled : (ts : List Text) → is_full ts ≡ true → 1 ≤ length ts
    filled [] e = cc
    filled (t ∷ ts) e = omega arith

-- a part that begins with a minus is refused
minus-among : (k : Kind) (text : Text) (before after : List Part) → begins_with_minus text ≡ true → asked_by (before ++ part k text ∷ after) ≡ None
minus-among k text before after minus = minus_refused (before ++ part k text ∷ after) (go before)
  where
    or-last : (a b : Bool) → b ≡ true → (a || b) ≡ true
    or-last true b e = refl
    or-last false b e = e

    go : (before : List Part) → has_minus (before ++ part k text ∷ after) ≡ true
    go [] = rw minus refl
    go (p ∷ ps) = or-last (begins_with_minus p.text) (has_minus (ps ++ part k text ∷ after)) (go ps)

carry : (a b : List Part) (f g : Kinds) (r s : List Row) → b ≡ a → g ≡ f → s ≡ r → IsRead a f r → IsRead b g s
carry a b f g r s parts fault rows h = rw (parts, fault, rows) h

-- `clap` reads these words from wherever the parts before them were read
abbrev Rest : List Text → Type 0
Rest words = (before : List Part) (h : Held) → Holds before h → ReadFrom before (from_parts before h) words (parts_of words)

-- one more part is held
more-held : (k : Kind) (text : Text) (before : List Part) (h next : Held) → Holds before h → is_full (of_kind k before) ≡ false
    → rows_held next ≡ used (rule_for k) (text ∷ []) (rows_held h) → fault_held next ≡ []
    → Holds (before ++ part k text ∷ []) next
more-held k text before h next held none rows fault = (
  rows ∙ ap (used (rule_for k) (text ∷ [])) held.0 ∙ used-fresh k text before none,
  fault,
  few-more k text before held.2 none,
)

-- the rest is read behind one more part
goes_on : (k : Kind) (text : Text) (before : List Part) (next : Held) (placed : Bool) (rest : List Text) → Holds (before ++ part k text ∷ []) next
    → placed ≡ placed_by (before ++ part k text ∷ []) → Rest rest → ReadFrom before (idle_at next placed) rest (part k text ∷ parts_of rest)
goes_on k text before next placed rest held at later =
    let read = later (before ++ part k text ∷ []) next held in
    carry ((before ++ part k text ∷ []) ++ parts_of rest) (before ++ part k text ∷ parts_of rest)
    (fault_from (from_parts (before ++ part k text ∷ []) next) rest) (fault_from (idle_at next placed) rest)
    (rows_from (from_parts (before ++ part k text ∷ []) next) rest) (rows_from (idle_at next placed) rest)
    (sym (append_assoc before (part k text ∷ []) (parts_of rest)))
    (ap (λ p. fault_from (idle_at next p) rest) at)
    (ap (λ p. rows_from (idle_at next p) rest) at)
    read

-- no word but a patch's name takes the place of the patch
still-placed : (s : Setting) (text : Text) (before : List Part) → placed_by before ≡ placed_by (before ++ part (kind_of s) text ∷ [])
still-placed s text before = ap is_full (sym (of_kind-append a_patch before (part (kind_of s) text ∷ []) ∙ none s))
  where
    none : (s : Setting) → of_kind a_patch before ++ of_kind a_patch (part (kind_of s) text ∷ []) ≡ of_kind a_patch before
    none of_rate = append-nil (of_kind a_patch before)
    none of_make = append-nil (of_kind a_patch before)

use-of : (k : Kind) (text : Text) (before : List Part) (h : Held) → Holds before h → use_fault false (rule_for k) (text ∷ []) (rows_held h) ≡ use_fault false (rule_for k) (text ∷ []) (map row_for before)
use-of k text before h held = ap (use_fault false (rule_for k) (text ∷ [])) held.0

-- an option's name and its value were read
setting-read : (s : Setting) (value : Text) (before : List Part) (h : Held) (rest : List Text) → Holds before h → list_any is_stray rest ≡ false → Rest rest
    → ReadFrom before (idle_at (begun (kind_of s) (value ∷ []) h) (placed_by before)) rest (part (kind_of s) value ∷ parts_of rest)
setting-read s value before h rest held clean later =
    let fault : fault_held (begun (kind_of s) (value ∷ []) h) ≡ use_fault false (rule_for (kind_of s)) (value ∷ []) (map row_for before) =
    begun-fault (kind_of s) value h ∙ use-of (kind_of s) value before h held in
    by_test (is_full (of_kind (kind_of s) before))
    (λ full. inr (
      late rest (begun (kind_of s) (value ∷ []) h) (placed_by before) clean
          (λ e. let never : kind.ArgumentConflict ∷ [] ≡ [] = sym (fault ∙ fault-again (kind_of s) value before full) ∙ e in cc),
      again (kind_of s) value before (parts_of rest) full,
    ))
    (λ none. goes_on (kind_of s) value before (begun (kind_of s) (value ∷ []) h) (placed_by before) rest
    (more-held (kind_of s) value before h (begun (kind_of s) (value ∷ []) h) held none (begun-rows (kind_of s) value h) (fault ∙ fault-fresh (kind_of s) value before none))
    (still-placed s value before) later)

pub parts_stand : (word : Text) (words : List Text) (p : Part) → lead word ≡ stands p → parts_of (word ∷ words) ≡ p ∷ parts_of words
parts_stand word [] p e = rw e refl
parts_stand word (value ∷ rest) p e = rw e refl

-- a word that is a part by itself was read
stands-read : (word : Text) (k : Kind) (text : Text) (before : List Part) (next : Held) (w : Walk) (placed : Bool) (rest : List Text)
    → lead word ≡ stands (part k text) → fault_at w word ≡ [] → step w word ≡ idle_at next placed
    → ReadFrom before (idle_at next placed) rest (part k text ∷ parts_of rest) → ReadFrom before w (word ∷ rest) (parts_of (word ∷ rest))
stands-read word k text before next w placed rest is fault there read =
    carry (before ++ part k text ∷ parts_of rest) (before ++ parts_of (word ∷ rest))
    (fault_from (idle_at next placed) rest) (fault_from w (word ∷ rest))
    (rows_from (idle_at next placed) rest) (rows_from w (word ∷ rest))
    (ap (λ ps. before ++ ps) (parts_stand word rest (part k text) is))
    (passes w (idle_at next placed) word rest fault there)
    (ap (λ x. rows_from x rest) there)
    read

-- a word that is refused
stands-refused : (word : Text) (k : Kind) (text : Text) (before : List Part) (w : Walk) (rest : List Text)
    → lead word ≡ stands (part k text) → (fault_at w word ≡ [] → ⊥) → is_full (of_kind k before) ≡ true → ReadFrom before w (word ∷ rest) (parts_of (word ∷ rest))
stands-refused word k text before w rest is bad full = inr (
  stops w word rest bad,
  ap (λ ps. asked_by (before ++ ps)) (parts_stand word rest (part k text) is) ∙ again k text before (parts_of rest) full,
)

pub lead-joined : (s : Setting) (value : Text) → lead (name_of s ++ 61 ∷ value) ≡ stands (part (kind_of s) value)
lead-joined of_rate value = refl
lead-joined of_make value = refl

joined-read : (s : Setting) (value : Text) (before : List Part) (h : Held) (rest : List Text) → Holds before h → Rest rest
    → ReadFrom before (from_parts before h) ((name_of s ++ 61 ∷ value) ∷ rest) (parts_of ((name_of s ++ 61 ∷ value) ∷ rest))
joined-read s value before h rest held later =
    let fault : fault_at (from_parts before h) (name_of s ++ 61 ∷ value) ≡ or_else (use_fault false (rule_for (kind_of s)) (value ∷ []) (map row_for before)) [] =
    joined-fault s value h (placed_by before)
    ∙ ap (λ f. or_else (or_else f (use_fault false (rule_for (kind_of s)) (value ∷ []) (rows_held h))) []) held.1
    ∙ ap (λ f. or_else f []) (use-of (kind_of s) value before h held) in
    by_test (is_full (of_kind (kind_of s) before))
    (λ full. stands-refused (name_of s ++ 61 ∷ value) (kind_of s) value before (from_parts before h) rest (lead-joined s value)
    (λ e. let never : kind.ArgumentConflict ∷ [] ≡ [] = sym (fault ∙ ap (λ f. or_else f []) (fault-again (kind_of s) value before full)) ∙ e in cc)
    full)
    (λ none.
    let next = reacted rules (rule_for (kind_of s)) (value ∷ []) h in
    stands-read (name_of s ++ 61 ∷ value) (kind_of s) value before (reacted rules (rule_for (kind_of s)) (value ∷ []) h) (from_parts before h) (placed_by before) rest
    (lead-joined s value)
    (fault ∙ ap (λ f. or_else f []) (fault-fresh (kind_of s) value before none))
    (joined-step s value h (placed_by before))
    (goes_on (kind_of s) value before (reacted rules (rule_for (kind_of s)) (value ∷ []) h) (placed_by before) rest
    (more-held (kind_of s) value before h (reacted rules (rule_for (kind_of s)) (value ∷ []) h) held none refl refl)
    (still-placed s value before) later))

placed-now : (text : Text) (before : List Part) → is_full (of_kind a_patch before) ≡ false → true ≡ placed_by (before ++ part a_patch text ∷ [])
placed-now text before none = ap is_full (sym (of_kind-append a_patch before (part a_patch text ∷ []) ∙ ap (λ ts. ts ++ text ∷ []) (empty (of_kind a_patch before) none)))
  where
    empty : (ts : List Text) → is_full ts ≡ false → ts ≡ []
    empty [] e = refl
    empty (t ∷ ts) e = cc

plain-read : (word : Text) (before : List Part) (h : Held) (rest : List Text) → begins_with_minus word ≡ false → Holds before h → Rest rest
    → ReadFrom before (from_parts before h) (word ∷ rest) (parts_of (word ∷ rest))
plain-read word before h rest plain held later =
    by_test (is_full (of_kind a_patch before))
    (λ full. stands-refused word a_patch word before (from_parts before h) rest (lead-plain word plain)
    (λ e. let never : kind.UnknownArgument ∷ [] ≡ [] = sym (ap (λ p. fault_at (idle_at h p) word) full ∙ second-fault word h plain) ∙ e in cc)
    full)
    (λ none. stands-read word a_patch word before (begun a_patch (word ∷ []) h) (from_parts before h) true rest
    (lead-plain word plain)
    (ap (λ p. fault_at (idle_at h p) word) none ∙ plain-fault word h plain ∙ held.1)
    (ap (λ p. step (idle_at h p) word) none ∙ plain-step word h plain)
    (goes_on a_patch word before (begun a_patch (word ∷ []) h) true rest
    (more-held a_patch word before h (begun a_patch (word ∷ []) h) held none (begun-rows a_patch word h)
    (begun-fault a_patch word h ∙ use-of a_patch word before h held ∙ fault-fresh a_patch word before none))
    (placed-now word before none) later))

-- ---- an option's name alone

alone-none : (s : Setting) (before : List Part) (h : Held) → Holds before h → fault_at (from_parts before h) (name_of s) ≡ []
alone-none s before h held = alone-fault s h (placed_by before) ∙ ap (λ f. or_else f []) held.1

pub minus-name : (s : Setting) → begins_with_minus (name_of s) ≡ true
minus-name of_rate = refl
minus-name of_make = refl

minus-joined : (s : Setting) (value : Text) → begins_with_minus (name_of s ++ 61 ∷ value) ≡ true
minus-joined of_rate value = refl
minus-joined of_make value = refl

pub last-parts : (s : Setting) → parts_of (name_of s ∷ []) ≡ part a_patch (name_of s) ∷ []
last-parts of_rate = refl
last-parts of_make = refl

pub two-parts : (s : Setting) (value : Text) (rest : List Text) → parts_of (name_of s ∷ value ∷ rest) ≡ part (kind_of s) value ∷ parts_of rest
two-parts of_rate value rest = refl
two-parts of_make value rest = refl

last-read : (s : Setting) (before : List Part) (h : Held) → Holds before h → ReadFrom before (from_parts before h) (name_of s ∷ []) (parts_of (name_of s ∷ []))
last-read s before h held = inr (
  (λ e.
      let there : fault_from (from_parts before h) (name_of s ∷ []) ≡ fault_from (waits_at (kind_of s) h (placed_by before)) [] =
      passes (from_parts before h) (waits_at (kind_of s) h (placed_by before)) (name_of s) [] (alone-none s before h held) (alone-step s h (placed_by before)) in
      let never : kind.InvalidValue ∷ [] ≡ [] = sym (there ∙ fault_from-none (waits_at (kind_of s) h (placed_by before)) ∙ begun-empty (kind_of s) h) ∙ e in
      cc),
  ap (λ ps. asked_by (before ++ ps)) (last-parts s) ∙ minus-among a_patch (name_of s) before [] (minus-name s),
)

-- an option's name with a word behind it that is no value
no-value : (s : Setting) (value : Text) (before : List Part) (h : Held) (rest : List Text) → Holds before h
    → fault_at (waits_at (kind_of s) h (placed_by before)) value ≡ kind.InvalidValue ∷ [] → begins_with_minus value ≡ true
    → ReadFrom before (from_parts before h) (name_of s ∷ value ∷ rest) (parts_of (name_of s ∷ value ∷ rest))
no-value s value before h rest held fault minus = inr (
  (λ e.
      let there : fault_from (from_parts before h) (name_of s ∷ value ∷ rest) ≡ fault_from (waits_at (kind_of s) h (placed_by before)) (value ∷ rest) =
      passes (from_parts before h) (waits_at (kind_of s) h (placed_by before)) (name_of s) (value ∷ rest) (alone-none s before h held) (alone-step s h (placed_by before)) in
      stops (waits_at (kind_of s) h (placed_by before)) value rest (λ none. let never : kind.InvalidValue ∷ [] ≡ [] = sym fault ∙ none in cc) (sym there ∙ e)),
  ap (λ ps. asked_by (before ++ ps)) (two-parts s value rest) ∙ minus-among (kind_of s) value before (parts_of rest) minus,
)

-- and with its value
value-read : (s : Setting) (value : Text) (before : List Part) (h : Held) (rest : List Text) → Holds before h → list_any is_stray rest ≡ false
    → begins_with_minus value ≡ false → Rest rest → ReadFrom before (from_parts before h) (name_of s ∷ value ∷ rest) (parts_of (name_of s ∷ value ∷ rest))
value-read s value before h rest held clean plain later =
    let next = idle_at (begun (kind_of s) (value ∷ []) h) (placed_by before) in
    let first : fault_from (from_parts before h) (name_of s ∷ value ∷ rest) ≡ fault_from (waits_at (kind_of s) h (placed_by before)) (value ∷ rest) =
    passes (from_parts before h) (waits_at (kind_of s) h (placed_by before)) (name_of s) (value ∷ rest) (alone-none s before h held) (alone-step s h (placed_by before)) in
    let second : fault_from (waits_at (kind_of s) h (placed_by before)) (value ∷ rest) ≡ fault_from (idle_at (begun (kind_of s) (value ∷ []) h) (placed_by before)) rest =
    passes (waits_at (kind_of s) h (placed_by before)) (idle_at (begun (kind_of s) (value ∷ []) h) (placed_by before)) value rest (value-fault s value h (placed_by before) plain) (value-step s value h (placed_by before) plain) in
    let there : step (step (from_parts before h) (name_of s)) value ≡ idle_at (begun (kind_of s) (value ∷ []) h) (placed_by before) =
    ap (λ w. step w value) (alone-step s h (placed_by before)) ∙ value-step s value h (placed_by before) plain in
    carry (before ++ part (kind_of s) value ∷ parts_of rest) (before ++ parts_of (name_of s ∷ value ∷ rest))
    (fault_from (idle_at (begun (kind_of s) (value ∷ []) h) (placed_by before)) rest) (fault_from (from_parts before h) (name_of s ∷ value ∷ rest))
    (rows_from (idle_at (begun (kind_of s) (value ∷ []) h) (placed_by before)) rest) (rows_from (from_parts before h) (name_of s ∷ value ∷ rest))
    (ap (λ ps. before ++ ps) (two-parts s value rest))
    (first ∙ second)
    (ap (λ w. rows_from w rest) there)
    (setting-read s value before h rest held clean later)

-- ---- all the words

abbrev IsReadAt : List Part → Held → List Text → Type 0
IsReadAt before h words = ReadFrom before (from_parts before h) words (parts_of words)

alone-read : (s : Setting) (value : Text) (before : List Part) (h : Held) (rest : List Text) → Holds before h → is_stray value ≡ false → list_any is_stray rest ≡ false
    → Rest rest → IsReadAt before h (name_of s ∷ value ∷ rest)
alone-read s value before h rest held tidy clean later = go (seen value tidy)
  where
    named : (t : Setting) → (value ≡ name_of t) ⊎ ((text : Text) × (value ≡ name_of t ++ 61 ∷ text)) → IsReadAt before h (name_of s ∷ value ∷ rest)
    named t (inl at) = no-value s value before h rest held
        (ap (fault_at (waits_at (kind_of s) h (placed_by before))) at ∙ name-fault s t h (placed_by before)) (ap begins_with_minus at ∙ minus-name t)
    named t (inr at) = no-value s value before h rest held
        (ap (fault_at (waits_at (kind_of s) h (placed_by before))) at.1 ∙ named-fault s t at.0 h (placed_by before)) (ap begins_with_minus at.1 ∙ minus-joined t at.0)

    go : Seen value → IsReadAt before h (name_of s ∷ value ∷ rest)
    go (inl at) = named of_rate at
    go (inr (inl at)) = named of_make at
    go (inr (inr plain)) = value-read s value before h rest held clean plain later

reads-one : (word : Text) (before : List Part) (h : Held) → Holds before h → is_stray word ≡ false → Rest [] → IsReadAt before h (word ∷ [])
reads-one word before h held tidy later = go (seen word tidy)
  where
    named : (s : Setting) → (word ≡ name_of s) ⊎ ((text : Text) × (word ≡ name_of s ++ 61 ∷ text)) → IsReadAt before h (word ∷ [])
    named s (inl at) = subst (λ w. IsReadAt before h (w ∷ [])) (sym at) (last-read s before h held)
    named s (inr at) = subst (λ w. IsReadAt before h (w ∷ [])) (sym at.1) (joined-read s at.0 before h [] held later)

    go : Seen word → IsReadAt before h (word ∷ [])
    go (inl at) = named of_rate at
    go (inr (inl at)) = named of_make at
    go (inr (inr plain)) = plain-read word before h [] plain held later

reads-two : (word value : Text) (rest : List Text) (before : List Part) (h : Held) → Holds before h → is_stray word ≡ false → is_stray value ≡ false
    → list_any is_stray rest ≡ false → Rest (value ∷ rest) → Rest rest → IsReadAt before h (word ∷ value ∷ rest)
reads-two word value rest before h held tidy neat clean later last = go (seen word tidy)
  where
    named : (s : Setting) → (word ≡ name_of s) ⊎ ((text : Text) × (word ≡ name_of s ++ 61 ∷ text)) → IsReadAt before h (word ∷ value ∷ rest)
    named s (inl at) = subst (λ w. IsReadAt before h (w ∷ value ∷ rest)) (sym at) (alone-read s value before h rest held neat clean last)
    named s (inr at) = subst (λ w. IsReadAt before h (w ∷ value ∷ rest)) (sym at.1) (joined-read s at.0 before h (value ∷ rest) held later)

    go : Seen word → IsReadAt before h (word ∷ value ∷ rest)
    go (inl at) = named of_rate at
    go (inr (inl at)) = named of_make at
    go (inr (inr plain)) = plain-read word before h (value ∷ rest) plain held later

reads : (words : List Text) → list_any is_stray words ≡ false → Rest words
reads [] clean before h held =
    let parts : before ++ [] ≡ before = append-nil before in
    inl (
      fault_from-none (from_parts before h) ∙ held.1,
      held.0 ∙ ap (map row_for) (sym parts),
      subst AreFew (sym parts) held.2,
    )
reads (word ∷ []) clean before h held = reads-one word before h held (or-left (is_stray word) false clean) (reads [] refl)
reads (word ∷ value ∷ rest) clean before h held =
    let more : list_any is_stray (value ∷ rest) ≡ false = or-right (is_stray word) (list_any is_stray (value ∷ rest)) clean in
    let last : list_any is_stray rest ≡ false = or-right (is_stray value) (list_any is_stray rest) more in
    reads-two word value rest before h held (or-left (is_stray word) (list_any is_stray (value ∷ rest)) clean) (or-left (is_stray value) (list_any is_stray rest) more)
    last (reads (value ∷ rest) more) (reads rest last)

-- ---- the whole command

entered-none : (stop : Option (Text × List Text)) → entered_fault (built pdplay) stop ≡ []
entered-none None = refl
entered-none (Some p) = refl

no_subcommand : (stop : Option (Text × List Text)) → is_some (entered (built pdplay) stop) ≡ false
no_subcommand None = refl
no_subcommand (Some p) = refl

either-way : {X : Type 0} (b : Bool) (x : X) → (if b then x else x) ≡ x
either-way true x = refl
either-way false x = refl

or-top : (a : Bool) → (a || true) ≡ true
or-top true = refl
or-top false = refl

no_defaults : (rows : List Row) → defaults_fault rows rules ≡ []
unfolding defaults_fault
no_defaults rows = simp (or-top, either-way)

same-rows : (rows : List Row) → fold with_default rows rules ≡ rows
same-rows rows = simp either-way

pub fault-is : (words : List Text) → fault_of pdplay words ≡ fault_from (idle_at nothing_held false) words
fault-is words =
    let end = end_of (idle_at nothing_held false) words in
    rw (
      entered-none (end_of (idle_at nothing_held false) words).stopped,
      no_subcommand (end_of (idle_at nothing_held false) words).stopped,
      no_defaults (rows_held (end_of (idle_at nothing_held false) words).held),
    )
    (ap (or_else (walk_fault top [] (idle_at nothing_held false) words)) (or_else-nil (fault_held (end_of (idle_at nothing_held false) words).held)))

pub rows-are : (words : List Text) → matches_of pdplay words ≡ rows_from (idle_at nothing_held false) words
rows-are words = same-rows (rows_from (idle_at nothing_held false) words)

pub exact : (words : List Text) → list_any is_stray words ≡ false → IsRead (parts_of words) (fault_of pdplay words) (matches_of pdplay words)
exact words clean =
    carry (parts_of words) (parts_of words) (fault_from (idle_at nothing_held false) words) (fault_of pdplay words)
    (rows_from (idle_at nothing_held false) words) (matches_of pdplay words)
    refl (fault-is words) (rows-are words)
    (reads words clean [] nothing_held (refl, refl, λ k. omega arith))

-- ---- what is read of the rows

abbrev first : List Text → Option Text
first [] = None
first (t ∷ ts) = Some t

first-of : (k : Kind) (ps : List Part) → first_of (id_of k) (map row_for ps) ≡ first (of_kind k ps)
first-of k [] = refl
first-of k (p ∷ ps) =
    by_test (is_same p.kind k)
    (λ same. rw (same-ids p.kind k, same) refl)
    (λ other. rw (same-ids p.kind k, other) (first-of k ps))

listed-first : (ts : List Text) → length ts ≤ 1 → listed (first ts) ≡ ts
listed-first [] h = refl
listed-first (t ∷ []) h = refl
listed-first (t ∷ u ∷ ts) h = absurd (omega arith)

-- what is found of a kind, listed
found-listed : (k : Kind) (found : Found) (ps : List Part) → rows_of found ≡ map row_for ps → AreFew ps → listed (first_value found (id_of k)) ≡ of_kind k ps
found-listed k found ps rows few =
    ap listed (first_value-rows found (id_of k) ∙ ap (first_of (id_of k)) rows ∙ first-of k ps) ∙ listed-first (of_kind k ps) (few k)

pub answer-ok : (words : List Text) (found : Found) → list_any is_stray words ≡ false → fault_of pdplay words ≡ [] → rows_of found ≡ matches_of pdplay words
    → asked_first (first_value found (codes "patch")) (first_value found (codes "rate")) (first_value found (codes "make")) ≡ words_of words
answer-ok words found clean none rows = go (exact words clean)
  where
    go : IsRead (parts_of words) (fault_of pdplay words) (matches_of pdplay words)
        → asked_first (first_value found (codes "patch")) (first_value found (codes "rate")) (first_value found (codes "make")) ≡ words_of words
    go (inr h) = absurd (h.0 none)
    go (inl h) =
        ap (λ ts. all_three (patch_of ts) (rate_of (listed (first_value found (codes "rate")))) (make_of (listed (first_value found (codes "make")))))
        (found-listed a_patch found (parts_of words) (rows ∙ h.1) h.2)
        ∙ ap (λ ts. all_three (patch_of (of_kind a_patch (parts_of words))) (rate_of ts) (make_of (listed (first_value found (codes "make")))))
        (found-listed a_rate found (parts_of words) (rows ∙ h.1) h.2)
        ∙ ap (λ ts. all_three (patch_of (of_kind a_patch (parts_of words))) (rate_of (of_kind a_rate (parts_of words))) (make_of ts))
        (found-listed a_make found (parts_of words) (rows ∙ h.1) h.2)

pub answer-err : (words : List Text) → list_any is_stray words ≡ false → (fault_of pdplay words ≡ [] → ⊥) → words_of words ≡ None
answer-err words clean some = go (exact words clean)
  where
    go : IsRead (parts_of words) (fault_of pdplay words) (matches_of pdplay words) → words_of words ≡ None
    go (inl h) = absurd (some h.0)
    go (inr h) = h.1

-- an error that isn't want of memory comes with a fault
pub some_fault : (e : Error) (kinds : Kinds) → HasKind kinds e → (error_kind e ≡ kind.OutOfMemory → ⊥) → kinds ≡ [] → ⊥
some_fault e kinds (inl memory) other none = other memory
some_fault e kinds (inr among) other none = subst (IsAmong (error_kind e)) none among
