-- What `clap` makes of one word.
use Rattle.std.proofs.Common.{◌≡◌, ℕ, ◌+◌, ◌≤◌, Bool, true, false, cond, not, ◌&&◌, ◌||◌, ◌==◌, List, [], ◌∷◌, ◌++◌, map, ◌⊎◌, inl, inr, length, refl, sym, ap, ◌∙◌, arith, codes, Option, Some, None, append-nil, if◌then◌else◌}
use Rattle.std.specs.List.{list_any, list_all, find, fold}
use Rattle.std.specs.Str.{bytes_eq}
use Rattle.clap.specs.Simple.{Shape, built}
use Rattle.clap.specs.Walk.{Held, Row, Rule, Walk, at_row, has_row, idle, more_values, option, reacted, reading_by, settled, used, walked, with_values, without}
use Rattle.clap.specs.Lexer.{strip_byte}
use Rattle.clap.specs.Kinds.{Kinds, or_else}
use Rattle.clap.specs.Faults.{settle_fault, turn_fault, use_fault}
use Rattle.clap.specs.declared.parser.matches.ValueSource.TheVariants.{CommandLine}
use Rattle.clap.specs.declared.error.kind.ErrorKind.TheVariants as kind
use Rattle.clap.proofs.OnLiterals.{clap_on_literals}
use Rattle.pd_words.specs.Grammar.{Kind, Part, Text, a_make, a_patch, a_rate, is_same, of_kind, part}
use Rattle.pd_words.specs.Shown.{begins_with_minus, make_rule, pdplay, rate_rule}
use Rattle.pd_words.proofs.FormLemmas.{by_test}

abbrev pub top : Shape
top = (built pdplay).top

abbrev pub rules : List Rule
rules = top.rules

-- the argument of each kind, and its id
abbrev pub id_of : Kind → Text
id_of a_rate = codes "rate"
id_of a_make = codes "make"
id_of a_patch = codes "patch"

abbrev pub rule_for : Kind → Rule
rule_for a_rate = elim rules [ [] ↦ rate_rule | r ∷ _ ↦ r ]
rule_for a_make = elim rules [ [] ↦ rate_rule | r ∷ rs ↦ elim rs [ [] ↦ rate_rule | r ∷ _ ↦ r ] ]
rule_for a_patch = elim rules [ [] ↦ rate_rule | r ∷ rs ↦ elim rs [ [] ↦ rate_rule | r ∷ rs ↦ elim rs [ [] ↦ rate_rule | r ∷ _ ↦ r ] ] ]

abbrev pub row_for : Part → Row
row_for p = record { id = id_of p.kind; values = p.text ∷ []; count = None; source = Some CommandLine; reading = reading_by (rule_for p.kind) }

-- ---- the rows

pub same-ids : (a b : Kind) → bytes_eq (id_of a) (id_of b) ≡ is_same a b
same-ids a_rate a_rate = refl
same-ids a_rate a_make = refl
same-ids a_rate a_patch = refl
same-ids a_make a_rate = refl
same-ids a_make a_make = refl
same-ids a_make a_patch = refl
same-ids a_patch a_rate = refl
same-ids a_patch a_make = refl
same-ids a_patch a_patch = refl

abbrev pub is_full : List Text → Bool
is_full [] = false
is_full (t ∷ ts) = true

pub has_row-is : (k : Kind) (ps : List Part) → has_row (id_of k) (map row_for ps) ≡ is_full (of_kind k ps)
has_row-is k [] = refl
has_row-is k (p ∷ ps) =
    by_test (is_same p.kind k)
    (λ same. rw (same-ids p.kind k, same) refl)
    (λ other. rw (same-ids p.kind k, other) (has_row-is k ps))

at_row-none : (id : Text) (change : Row → List Row) (missing rows : List Row) → has_row id rows ≡ false → at_row id change missing rows ≡ rows ++ missing
at_row-none id change missing [] h = refl
at_row-none id change missing (r ∷ rows) h =
    by_test (bytes_eq r.id id)
    (λ same. let never : true ≡ false = rw same at h in cc)
    (λ other.
    let later : has_row id rows ≡ false = rw other at h in
    rw other (ap (λ rs. r ∷ rs) (at_row-none id change missing rows later)))

used-is : (k : Kind) (text : Text) (rows : List Row)
    → used (rule_for k) (text ∷ []) rows ≡ with_values (id_of k) (reading_by (rule_for k)) CommandLine (text ∷ []) (without (id_of k) rows)
used-is a_rate text rows = refl
used-is a_make text rows = refl
used-is a_patch text rows = refl

map-push : (ps : List Part) (p : Part) → map row_for ps ++ row_for p ∷ [] ≡ map row_for (ps ++ p ∷ [])
map-push [] p = refl
map-push (q ∷ ps) p = ap (λ rs. row_for q ∷ rs) (map-push ps p)

-- a first use of an argument adds a row
pub used-fresh : (k : Kind) (text : Text) (ps : List Part) → is_full (of_kind k ps) ≡ false
    → used (rule_for k) (text ∷ []) (map row_for ps) ≡ map row_for (ps ++ part k text ∷ [])
used-fresh k text ps h =
    let none : has_row (id_of k) (map row_for ps) ≡ false = has_row-is k ps ∙ h in
    let same : without (id_of k) (map row_for ps) ≡ map row_for ps = at_row-none (id_of k) (λ _. []) [] (map row_for ps) none ∙ append-nil (map row_for ps) in
    used-is k text (map row_for ps)
    ∙ ap (with_values (id_of k) (reading_by (rule_for k)) CommandLine (text ∷ [])) same
    ∙ at_row-none (id_of k) (more_values CommandLine (text ∷ [])) (row_for (part k text) ∷ []) (map row_for ps) none
    ∙ map-push ps (part k text)

repeats : (k : Kind) (text : Text) (rows : List Row) → use_fault false (rule_for k) (text ∷ []) rows
    ≡ or_else (if has_row (id_of k) rows && true then kind.ArgumentConflict ∷ [] else []) []
repeats a_rate text rows = refl
repeats a_make text rows = refl
repeats a_patch text rows = refl

pub fault-fresh : (k : Kind) (text : Text) (ps : List Part) → is_full (of_kind k ps) ≡ false → use_fault false (rule_for k) (text ∷ []) (map row_for ps) ≡ []
fault-fresh k text ps h =
    let none : has_row (id_of k) (map row_for ps) ≡ false = has_row-is k ps ∙ h in
    repeats k text (map row_for ps) ∙ rw none refl

pub fault-again : (k : Kind) (text : Text) (ps : List Part) → is_full (of_kind k ps) ≡ true → use_fault false (rule_for k) (text ∷ []) (map row_for ps) ≡ kind.ArgumentConflict ∷ []
fault-again k text ps h =
    let one : has_row (id_of k) (map row_for ps) ≡ true = has_row-is k ps ∙ h in
    repeats k text (map row_for ps) ∙ rw one refl

-- ---- the walk

abbrev pub place : Bool → ℕ
place false = 1
place true = 2

-- between two words, where nothing waits for a value
abbrev pub idle_at : Held → Bool → Walk
idle_at h placed = record { held = h; waiting = idle; position = place placed; is_trailing = false; stopped = None }

-- a use of an argument has begun, with these values
abbrev pub begun : Kind → List Text → Held → Held
begun k texts h = record (settled rules h) { pending = Some (id_of k, texts) }

-- the value of an option is to come
abbrev pub waits_at : Kind → Held → Bool → Walk
waits_at k h placed = record { held = begun k [] h; waiting = option (id_of k); position = place placed; is_trailing = false; stopped = None }

-- what the walk before a word knows of the words before it
abbrev pub rows_held : Held → List Row
rows_held h = (settled rules h).rows

abbrev pub fault_held : Held → Kinds
fault_held h = settle_fault rules false h

abbrev pub step : Walk → Text → Walk
step w word = walked rules [] w word

abbrev pub fault_at : Walk → Text → Kinds
fault_at w word = turn_fault top [] w word

-- a use that has begun counts at the next word
pub begun-rows : (k : Kind) (text : Text) (h : Held) → rows_held (begun k (text ∷ []) h) ≡ used (rule_for k) (text ∷ []) (rows_held h)
begun-rows a_rate text h = refl
begun-rows a_make text h = refl
begun-rows a_patch text h = refl

pub begun-fault : (k : Kind) (text : Text) (h : Held) → fault_held (begun k (text ∷ []) h) ≡ use_fault false (rule_for k) (text ∷ []) (rows_held h)
begun-fault a_rate text h = refl
begun-fault a_make text h = refl
begun-fault a_patch text h = refl

pub begun-empty : (k : Kind) (h : Held) → fault_held (begun k [] h) ≡ kind.InvalidValue ∷ []
begun-empty a_rate h = refl
begun-empty a_make h = refl
begun-empty a_patch h = refl

-- the two options
pub data Setting : Type 0 where
  of_rate : Setting
  of_make : Setting

abbrev pub kind_of : Setting → Kind
kind_of of_rate = a_rate
kind_of of_make = a_make

abbrev pub name_of : Setting → Text
name_of of_rate = codes "--rate"
name_of of_make = codes "--make"

pub alone-step : (s : Setting) (h : Held) (placed : Bool) → step (idle_at h placed) (name_of s) ≡ waits_at (kind_of s) h placed
unfolding clap_on_literals
alone-step of_rate h placed = refl
alone-step of_make h placed = refl

pub alone-fault : (s : Setting) (h : Held) (placed : Bool) → fault_at (idle_at h placed) (name_of s) ≡ or_else (fault_held h) []
unfolding clap_on_literals
alone-fault of_rate h placed = refl
alone-fault of_make h placed = refl

pub joined-step : (s : Setting) (value : Text) (h : Held) (placed : Bool)
    → step (idle_at h placed) (name_of s ++ 61 ∷ value) ≡ idle_at (reacted rules (rule_for (kind_of s)) (value ∷ []) h) placed
unfolding clap_on_literals
joined-step of_rate value h placed = refl
joined-step of_make value h placed = refl

pub joined-fault : (s : Setting) (value : Text) (h : Held) (placed : Bool) → fault_at (idle_at h placed) (name_of s ++ 61 ∷ value)
    ≡ or_else (or_else (fault_held h) (use_fault false (rule_for (kind_of s)) (value ∷ []) (rows_held h))) []
unfolding clap_on_literals
joined-fault of_rate value h placed = refl
joined-fault of_make value h placed = refl

-- a word without a minus is no flag
no-dashes : (word : Text) → begins_with_minus word ≡ false → bytes_eq word (45 ∷ 45 ∷ []) ≡ false
no-dashes [] e = refl
no-dashes (b ∷ bs) e = ap (λ x. x && bytes_eq bs (45 ∷ [])) e

no-minus : (word : Text) → begins_with_minus word ≡ false → strip_byte 45 word ≡ None
no-minus [] e = refl
no-minus (b ∷ bs) e = ap (λ x. if x then Some bs else None) e

-- the word behind an option's name
pub value-step : (s : Setting) (value : Text) (h : Held) (placed : Bool) → begins_with_minus value ≡ false
    → step (waits_at (kind_of s) h placed) value ≡ idle_at (begun (kind_of s) (value ∷ []) h) placed
unfolding clap_on_literals
value-step of_rate value h placed e = rw (no-dashes value e, no-minus value e, no-minus value e) refl
value-step of_make value h placed e = rw (no-dashes value e, no-minus value e, no-minus value e) refl

pub value-fault : (s : Setting) (value : Text) (h : Held) (placed : Bool) → begins_with_minus value ≡ false
    → fault_at (waits_at (kind_of s) h placed) value ≡ []
unfolding clap_on_literals
value-fault of_rate value h placed e = rw (no-dashes value e, no-minus value e, no-minus value e) refl
value-fault of_make value h placed e = rw (no-dashes value e, no-minus value e, no-minus value e) refl

pub name-fault : (s t : Setting) (h : Held) (placed : Bool) → fault_at (waits_at (kind_of s) h placed) (name_of t) ≡ kind.InvalidValue ∷ []
unfolding clap_on_literals
name-fault of_rate of_rate h placed = refl
name-fault of_rate of_make h placed = refl
name-fault of_make of_rate h placed = refl
name-fault of_make of_make h placed = refl

pub named-fault : (s t : Setting) (value : Text) (h : Held) (placed : Bool) → fault_at (waits_at (kind_of s) h placed) (name_of t ++ 61 ∷ value) ≡ kind.InvalidValue ∷ []
unfolding clap_on_literals
named-fault of_rate of_rate value h placed = refl
named-fault of_rate of_make value h placed = refl
named-fault of_make of_rate value h placed = refl
named-fault of_make of_make value h placed = refl

-- a word that names no option
and-false : (a : Bool) → (a && false) ≡ false
and-false true = refl
and-false false = refl

pub plain-step : (word : Text) (h : Held) → begins_with_minus word ≡ false
    → step (idle_at h false) word ≡ idle_at (begun a_patch (word ∷ []) h) true
unfolding clap_on_literals
plain-step word h e = rw (no-dashes word e, no-minus word e, no-minus word e) (simp and-false)

pub plain-fault : (word : Text) (h : Held) → begins_with_minus word ≡ false → fault_at (idle_at h false) word ≡ fault_held h
unfolding clap_on_literals
plain-fault word h e = rw (no-dashes word e, no-minus word e, no-minus word e) (simp and-false)

pub second-fault : (word : Text) (h : Held) → begins_with_minus word ≡ false → fault_at (idle_at h true) word ≡ kind.UnknownArgument ∷ []
unfolding clap_on_literals
second-fault word h e = rw (no-dashes word e, no-minus word e, no-minus word e) refl
