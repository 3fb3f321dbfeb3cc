-- A made patch is a proper document.
use Rattle.std.proofs.Common.{◌≡◌, ℕ, zero, suc, ◌+◌, ◌-◌, ◌*◌, ◌<◌, ◌≤◌, pos, None, false, cond, ◌&&◌, ◌||◌, ◌==◌, List, [], ◌∷◌, ◌++◌, length, codes, Some, position, bytes_eq, refl, ap, ◌∙◌, subst, arith, rules}
use Rattle.std.specs.Prelude.{nat_lt}
use Rattle.std.specs.List.{AllByRecursion, flat_map}
use Rattle.std.proofs.lemmas.Bool.Decides.{nat_tests}
use Rattle.pd_num.specs.Scale.{millionths, IsInRange}
use Rattle.pd_atom.specs.Names.{Names, IsTable, longest, given, outcome_map}
use Rattle.pd_atom.specs.Tokens.{nameless, named, has_argument, atom_read}
use Rattle.pd_atom.specs.declared.Atom.{Atom}
use Rattle.pd_atom.specs.declared.Atom.TheVariants.{Number, Symbol, DollarSymbol}
use Rattle.pd_atom.proofs.NameLemmas.{position_low, interned_found}
use Rattle.pd_atom.proofs.TokenLemmas.{number_settled, atom_read_none}
use Rattle.pd_num.specs.Reading.{number_at, numeral_at, exponent_at}
use Rattle.pd_canvas.specs.declared.wires.Wire.{Wire}
use Rattle.pd_canvas.specs.Pages.{Obj, Entry, boxed, frame_of, empty_page, weight}
use Rattle.pd_canvas.specs.Edits.{begins_with_pd}
use Rattle.pd_canvas.specs.Wiring.{precedes, AreSorted}
use Rattle.pd_canvas.specs.Proper.{IsReady, IsText, IsSmall, IsFrame, AreBoxes, IsProper, levels, levels_of, inner_wires}
use Rattle.pd_canvas.proofs.SoundLemmas.{IsEntry}
use Rattle.pd_made.specs.declared.words.Words.{Words}
use Rattle.pd_made.specs.Voices.{voices, AreWords}
use Rattle.pd_made.specs.Documents.{whole, made_header, object_box, frequency, voice_boxes, made_boxes, voice_wires, made_wires, document_by}
use Rattle.pd_made.proofs.TableLemmas.{not_pd}
use Rattle.pd_made.proofs.VoiceLemmas.{voice_more, pairs}

-- lists
all_append : {X : Type 0} (P : X → Type 0) (xs ys : List X) → AllByRecursion P xs → AllByRecursion P ys → AllByRecursion P (xs ++ ys)
all_append P [] ys h k = k
all_append P (x ∷ xs) ys h k = (h.0, all_append P xs ys h.1 k)

all_flat : {X Y : Type 0} (P : Y → Type 0) (f : X → List Y) → ((x : X) → AllByRecursion P (f x)) → (xs : List X) → AllByRecursion P (flat_map f xs)
all_flat P f h [] = tt
all_flat P f h (x ∷ xs) = all_append P (f x) (flat_map f xs) (h x) (all_flat P f h xs)

-- atoms
in_range : (n : ℕ) → n ≤ 1000000000000000 → IsInRange millionths (pos n)
in_range n h = (search rules, search rules)

ready_number : (names : Names) (n : ℕ) → n ≤ 1000000000000000 → IsReady names (Number (pos n))
ready_number names n h = (tt, number_settled names (pos n) (in_range n h))

ready_symbol : (names : Names) (name : List ℕ) (s : ℕ) → length name ≤ longest → nameless name ≡ None → has_argument name ≡ false →
    position (bytes_eq name) names ≡ Some s → IsReady names (Symbol s)
ready_symbol names name s short unnamed plain at =
    let low = position_low names name s at in (
      low.0,
      ap (atom_read names) low.1 ∙ atom_read_none names name unnamed ∙ ap (outcome_map (named name)) (interned_found names name s short at)
          ∙ ap (λ b. given (cond b (DollarSymbol s) (Symbol s)) names) plain,
    )

output_nameless : nameless (codes "dac~") ≡ None
unfolding nameless number_at numeral_at exponent_at
output_nameless = refl

oscillator_nameless : nameless (codes "osc~") ≡ None
unfolding nameless number_at numeral_at exponent_at
oscillator_nameless = refl

factor_nameless : nameless (codes "*~") ≡ None
unfolding nameless number_at numeral_at exponent_at
factor_nameless = refl

-- boxes
empty_frame : (names : Names) → IsFrame names (frame_of empty_page)
empty_frame names = record { header = (tt, omega arith); kept = tt; small = tt; sorted = tt; coords = tt }

-- an object that holds no page
record IsPlain (names : Names) (e : Entry) : Type 0 where
  pub entry : IsEntry names e
  pub bare : e.page ≡ empty_page
  pub object : e.head.form ≡ Obj

plain_box : (names : Names) (text : List Atom) → IsText names text → begins_with_pd text ≡ false → IsPlain names (object_box text)
plain_box names text t e = record {
  entry = record {
    head = record { x = in_range 0 (omega arith); y = in_range 0 (omega arith); text = t; width = tt; tail = tt; form = e };
    none = refl;
    frame = empty_frame names;
    boxes = tt;
  };
  bare = refl;
  object = refl;
}

tone_small : (voice : ℕ) → frequency voice * 1000000 ≤ 1000000000000000
tone_small voice = omega arith

plain_voice : (names : Names) (words : Words) → IsTable names → AreWords names words → (voice : ℕ) → AllByRecursion (IsPlain names) (voice_boxes words voice)
plain_voice names words table h voice = (
  plain_box names (Symbol words.oscillator ∷ whole (frequency voice) ∷ [])
      ((ready_symbol names (codes "osc~") words.oscillator (omega arith) oscillator_nameless refl h.oscillator, (ready_number names (frequency voice * 1000000) (tone_small voice), tt)), omega arith)
      (not_pd names (codes "osc~") words.oscillator table refl h.oscillator),
  (
    plain_box names (Symbol words.factor ∷ Number (pos 1000) ∷ [])
        ((ready_symbol names (codes "*~") words.factor (omega arith) factor_nameless refl h.factor, (ready_number names 1000 (omega arith), tt)), omega arith)
        (not_pd names (codes "*~") words.factor table refl h.factor),
    tt,
  ),
)

plain_boxes : (names : Names) (words : Words) (n : ℕ) → IsTable names → AreWords names words → AllByRecursion (IsPlain names) (made_boxes words n)
plain_boxes names words n table h = (
  plain_box names (Symbol words.output ∷ [])
      ((ready_symbol names (codes "dac~") words.output (omega arith) output_nameless refl h.output, tt), omega arith)
      (not_pd names (codes "dac~") words.output table refl h.output),
  all_flat (IsPlain names) (voice_boxes words) (plain_voice names words table h) (voices n),
)

sound_boxes : (names : Names) (es : List Entry) → AllByRecursion (IsPlain names) es → AreBoxes names (boxed es)
sound_boxes names [] h = tt
sound_boxes names (e ∷ es) h = (h.0.entry.head, h.0.entry.none, h.0.entry.frame, h.0.entry.boxes, sound_boxes names es h.1)

plain_weight : (names : Names) (es : List Entry) → AllByRecursion (IsPlain names) es → weight (boxed es) ≡ length es
plain_weight names [] h = refl
plain_weight names (e ∷ es) h =
    let k : weight e.page.boxes ≡ 0 = ap (λ p. weight p.boxes) h.0.bare in
    omega (arith, k, plain_weight names es h.1)

plain_inner : (names : Names) (es : List Entry) → AllByRecursion (IsPlain names) es → inner_wires (boxed es) ≡ 0
plain_inner names [] h = refl
plain_inner names (e ∷ es) h =
    let k : length e.page.wires + inner_wires e.page.boxes ≡ 0 = ap (λ p. length p.wires + inner_wires p.boxes) h.0.bare in
    omega (arith, k, plain_inner names es h.1)

plain_levels : (names : Names) (es : List Entry) → AllByRecursion (IsPlain names) es → levels (boxed es) ≡ 0
plain_levels names [] h = refl
plain_levels names (e ∷ es) h =
    let k : levels_of e.head.form (levels e.page.boxes) ≡ 0 = ap (λ s. levels_of s (levels e.page.boxes)) h.0.object in
    omega (arith, k, plain_levels names es h.1)

count_made : (words : Words) (n : ℕ) → length (made_boxes words n) ≡ 2 * n + 1
count_made words n = omega (arith, pairs (voice_boxes words) (λ i. refl) n)

-- wires
small_wires : (n : ℕ) → n ≤ 1000 → AllByRecursion IsSmall (made_wires n)
small_wires zero h = tt
small_wires (suc n) h =
    subst (AllByRecursion IsSmall) (voice_more voice_wires n)
    (all_append IsSmall (made_wires n) (voice_wires (suc n)) (small_wires n (omega arith)) (
      record { source = omega arith; outlet = omega arith; sink = omega arith; inlet = omega arith },
      (record { source = omega arith; outlet = omega arith; sink = omega arith; inlet = omega arith }, tt),
    ))

abbrev IsBelow : ℕ → Wire → Type 0
IsBelow m w = w.source ≤ m

below_on : (m k : ℕ) (ws : List Wire) → m ≤ k → AllByRecursion (IsBelow m) ws → AllByRecursion (IsBelow k) ws
below_on m k [] le h = tt
below_on m k (w ∷ ws) le h = (omega (arith, le, h.0), below_on m k ws le h.1)

below_wires : (n : ℕ) → AllByRecursion (IsBelow (2 * n)) (made_wires n)
below_wires zero = tt
below_wires (suc n) =
    subst (AllByRecursion (IsBelow (2 * suc n))) (voice_more voice_wires n)
    (all_append (IsBelow (2 * suc n)) (made_wires n) (voice_wires (suc n)) (below_on (2 * n) (2 * suc n) (made_wires n) (omega arith) (below_wires n))
    (omega arith, (omega arith, tt)))

before : (a b c d : ℕ) → c < a → nat_lt a c || (a == c && nat_lt b d) ≡ false
before a b c d h = grind (arith, nat_tests)

-- two wires of higher sources, in their order
sorted_two : (m : ℕ) (ws : List Wire) (v u : Wire) → AreSorted ws → AllByRecursion (IsBelow m) ws → m < v.source → v.source < u.source →
    AreSorted (ws ++ v ∷ u ∷ [])
sorted_two m [] v u s h low next = ((before u.source u.outlet v.source v.outlet next, tt), (tt, tt))
sorted_two m (w ∷ ws) v u s h low next = (
  all_append (λ x. precedes x w ≡ false) ws (v ∷ u ∷ []) s.0
      (before v.source v.outlet w.source w.outlet (omega (arith, h.0, low)), (before u.source u.outlet w.source w.outlet (omega (arith, h.0, low, next)), tt)),
  sorted_two m ws v u s.1 h.1 low next,
)

sorted_wires : (n : ℕ) → AreSorted (made_wires n)
sorted_wires zero = tt
sorted_wires (suc n) =
    subst AreSorted (voice_more voice_wires n)
    (sorted_two (2 * n) (made_wires n) (record { source = 2 * suc n - 1; outlet = 0; sink = 2 * suc n; inlet = 0 }) (record { source = 2 * suc n; outlet = 0; sink = 0; inlet = 0 })
    (sorted_wires n) (below_wires n) (omega arith) (omega arith))

-- the document
header_text : (names : Names) → IsText names made_header
header_text names = (
  (
    ready_number names 0 (omega arith),
    (
      ready_number names 50000000 (omega arith),
      (
        ready_number names 450000000 (omega arith),
        (ready_number names 300000000 (omega arith), (ready_number names 12000000 (omega arith), tt)),
      ),
    ),
  ),
  omega arith,
)

pub proper_by : (names : Names) (words : Words) (n : ℕ) → IsTable names → AreWords names words → n ≤ 1000 → IsProper names (document_by words n)
proper_by names words n table h few =
    let plain = plain_boxes names words n table h in
    let boxes : weight (boxed (made_boxes words n)) ≡ length (made_boxes words n) = plain_weight names (made_boxes words n) plain in
    let inner : inner_wires (boxed (made_boxes words n)) ≡ 0 = plain_inner names (made_boxes words n) plain in
    let flat : levels (boxed (made_boxes words n)) ≡ 0 = plain_levels names (made_boxes words n) plain in
    record {
      sound = (
        record { header = header_text names; kept = tt; small = small_wires n few; sorted = sorted_wires n; coords = tt },
        sound_boxes names (made_boxes words n) plain,
      );
      limits = record {
        boxes = omega (arith, few, boxes, count_made words n);
        wires = omega (arith, few, inner, pairs voice_wires (λ i. refl) n);
        levels = omega (arith, flat);
      };
    }
