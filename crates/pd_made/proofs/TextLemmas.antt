-- The text of a made patch is what one writes by hand.
use Rattle.std.proofs.Common.{◌≡◌, ℕ, zero, suc, ◌-◌, ◌*◌, ◌/◌, ◌%◌, ◌^◌, ◌<◌, ◌≤◌, pos, min, false, cond, List, [], ◌∷◌, ◌++◌, codes, decimal, Some, position, bytes_eq, refl, sym, ap, ◌∙◌, arith, append_assoc}
use Rattle.std.specs.Fmt.{digits}
use Rattle.std.specs.List.{AllByRecursion, flat_map}
use Rattle.std.specs.Char.{digit_value}
use Rattle.std.specs.Str.Parse.{digits_value, AllDigits}
use Rattle.std.proofs.lemmas.List.{append-nil}
use Rattle.std.proofs.lemmas.Bool.Decides.{nat_tests}
use Rattle.std.proofs.lemmas.Fmt.{digits_decimal}
use Rattle.std.proofs.lemmas.Str.Parse.{IsNumeralModel}
use Rattle.pd_num.specs.Printing.{printed, point_text}
use Rattle.pd_lex.specs.Text.{is_special, escaped}
use Rattle.pd_lex.specs.Text.Piece.{Word}
use Rattle.pd_atom.specs.Names.{Names}
use Rattle.pd_atom.specs.declared.Atom.{Atom}
use Rattle.pd_atom.specs.declared.Atom.TheVariants.{Number, Symbol}
use Rattle.pd_atom.proofs.NameLemmas.{position_low}
use Rattle.pd_canvas.specs.declared.wires.Wire.{Wire}
use Rattle.pd_canvas.specs.Pages.{Entry, boxed}
use Rattle.pd_doc.specs.Writing.{atom_piece, atom_pieces, wire_atoms, spaced, text_of}
use Rattle.pd_doc.specs.Writing.{whole as written_whole}
use Rattle.pd_doc.specs.Lines.{line_text, rows_text, wires_text, element_text, boxes_text, own_text, page_text}
use Rattle.pd_doc.proofs.LineLemmas.{page_lines}
use Rattle.pd_made.specs.declared.words.Words.{Words}
use Rattle.pd_made.specs.Voices.{voices, AreWords}
use Rattle.pd_made.specs.Documents.{whole, object_box, frequency, voice_boxes, made_boxes, voice_wires, made_wires, document_by}
use Rattle.pd_made.specs.Texts.{voice_text, connects_text, made_text}

-- numbers
own_numerals : IsNumeralModel (AllDigits 10) (digits_value 10)
own_numerals = record { to = λ ds d. d; from = λ ds d. d; same = λ ds d. refl }

plain_digit : (b : ℕ) → digit_value b < 10 → is_special b ≡ false
plain_digit b h = grind (arith, nat_tests)

plain_digits : (ds : List ℕ) → AllDigits 10 ds → escaped ds ≡ ds
plain_digits [] h = refl
plain_digits (d ∷ ds) h =
    ap (λ b. cond b (92 ∷ d ∷ escaped ds) (d ∷ escaped ds)) (plain_digit d h.0) ∙ ap (λ l. d ∷ l) (plain_digits ds h.1)

units_of : (n : ℕ) → n * 1000000 / 1000000 ≡ n
units_of n = omega arith

no_parts : (n : ℕ) → n * 1000000 % 1000000 ≡ 0
no_parts n = omega arith

printed_whole : (n : ℕ) → printed (pos (n * 1000000)) ≡ decimal n
printed_whole n = ap (λ k. decimal k ++ point_text (n * 1000000 % 1000000)) (units_of n) ∙ ap (λ r. decimal n ++ point_text r) (no_parts n) ∙ append-nil (decimal n)

number_written : (n : ℕ) → n < 2 ^ 64 → escaped (printed (pos (n * 1000000))) ≡ decimal n
number_written n h = ap escaped (printed_whole n) ∙ plain_digits (decimal n) (digits_decimal own_numerals n h)

wire_number : (n : ℕ) → n ≤ 1000000000 → written_whole n ≡ pos (n * 1000000)
wire_number n h = let e : min (n * 1000000) 1000000000000000 ≡ n * 1000000 = omega (arith, h) in ap (λ k. pos k) e

wire_written : (names : Names) (n : ℕ) → n ≤ 1000000000 → atom_piece names (Number (written_whole n)) ≡ Word (decimal n)
wire_written names n h = ap (λ z. atom_piece names (Number z)) (wire_number n h) ∙ ap (λ w. Word w) (number_written n (omega (arith, h)))

-- boxes
object_text : (names : Names) (text : List Atom) (t : List ℕ) → spaced (atom_pieces names text) ≡ t →
    element_text names (object_box text).head ≡ codes "#X obj 0 0" ++ (t ++ codes ";\n")
unfolding digits
object_text names text t e =
    ap (λ l. codes "#X obj 0 0" ++ ((l ++ []) ++ codes ";\n")) e ∙ ap (λ l. codes "#X obj 0 0" ++ (l ++ codes ";\n")) (append-nil t)

word_text : (names : Names) (name : List ℕ) (s : ℕ) (more : List Atom) → escaped name ≡ name → position (bytes_eq name) names ≡ Some s →
    spaced (atom_pieces names (Symbol s ∷ more)) ≡ 32 ∷ (name ++ spaced (atom_pieces names more))
word_text names name s more plain at =
    ap (λ w. 32 ∷ (escaped w ++ spaced (atom_pieces names more))) (position_low names name s at).1 ∙ ap (λ w. 32 ∷ (w ++ spaced (atom_pieces names more))) plain

tone_text : (names : Names) (n : ℕ) → n < 2 ^ 64 → spaced (atom_pieces names (whole n ∷ [])) ≡ 32 ∷ (decimal n ++ [])
tone_text names n h = ap (λ w. 32 ∷ (w ++ [])) (number_written n h)

boxes_join : (names : Names) (xs ys : List Entry) → boxes_text names (boxed (xs ++ ys)) ≡ boxes_text names (boxed xs) ++ boxes_text names (boxed ys)
boxes_join names [] ys = refl
boxes_join names (x ∷ xs) ys =
    let own = own_text names x.head (page_text names x.page) x.head.form in
    let tail = rows_text names (codes "#A") x.head.tail in
    let rest = boxes_text names (boxed xs) in
    let last = boxes_text names (boxed ys) in
    ap (λ l. own ++ (tail ++ l)) (boxes_join names xs ys) ∙ ap (λ l. own ++ l) (sym (append_assoc tail rest last)) ∙ sym (append_assoc own (tail ++ rest) last)

voice_written : (names : Names) (words : Words) → AreWords names words → (voice : ℕ) → boxes_text names (boxed (voice_boxes words voice)) ≡ voice_text voice
unfolding digits
voice_written names words h voice =
    let number = decimal (frequency voice) in
    let tone : spaced (atom_pieces names (Symbol words.oscillator ∷ whole (frequency voice) ∷ [])) ≡ 32 ∷ (codes "osc~" ++ (32 ∷ (number ++ []))) =
    word_text names (codes "osc~") words.oscillator (whole (frequency voice) ∷ []) refl h.oscillator
    ∙ ap (λ l. 32 ∷ (codes "osc~" ++ l)) (tone_text names (frequency voice) (omega arith)) in
    let soft : spaced (atom_pieces names (Symbol words.factor ∷ Number (pos 1000) ∷ [])) ≡ codes " *~ 0.001" =
    word_text names (codes "*~") words.factor (Number (pos 1000) ∷ []) refl h.factor in
    let first = object_text names (Symbol words.oscillator ∷ whole (frequency voice) ∷ []) (32 ∷ (codes "osc~" ++ (32 ∷ (number ++ [])))) tone in
    let second = object_text names (Symbol words.factor ∷ Number (pos 1000) ∷ []) (codes " *~ 0.001") soft in
    ap (λ l. l ++ (element_text names (object_box (Symbol words.factor ∷ Number (pos 1000) ∷ [])).head ++ [])) first
    ∙ ap (λ l. (codes "#X obj 0 0" ++ ((32 ∷ (codes "osc~" ++ (32 ∷ (number ++ [])))) ++ codes ";\n")) ++ (l ++ [])) second
    ∙ ap (λ l. codes "#X obj 0 0 osc~ " ++ ((l ++ codes ";\n") ++ codes "#X obj 0 0 *~ 0.001;\n")) (append-nil number)
    ∙ ap (λ l. codes "#X obj 0 0 osc~ " ++ l) (append_assoc number (codes ";\n") (codes "#X obj 0 0 *~ 0.001;\n"))

voices_written : (names : Names) (words : Words) → AreWords names words → (vs : List ℕ) →
    boxes_text names (boxed (flat_map (voice_boxes words) vs)) ≡ flat_map voice_text vs
voices_written names words h [] = refl
voices_written names words h (v ∷ vs) =
    boxes_join names (voice_boxes words v) (flat_map (voice_boxes words) vs)
    ∙ ap (λ l. l ++ boxes_text names (boxed (flat_map (voice_boxes words) vs))) (voice_written names words h v)
    ∙ ap (λ l. voice_text v ++ l) (voices_written names words h vs)

boxes_written : (names : Names) (words : Words) (n : ℕ) → AreWords names words →
    boxes_text names (boxed (made_boxes words n)) ≡ codes "#X obj 0 0 dac~;\n" ++ flat_map voice_text (voices n)
boxes_written names words n h =
    let output = object_text names (Symbol words.output ∷ []) (codes " dac~") (word_text names (codes "dac~") words.output [] refl h.output) in
    ap (λ l. l ++ boxes_text names (boxed (flat_map (voice_boxes words) (voices n)))) output
    ∙ ap (λ l. codes "#X obj 0 0 dac~;\n" ++ l) (voices_written names words h (voices n))

-- wires
wires_join : (names : Names) (xs ys : List Wire) → wires_text names (xs ++ ys) ≡ wires_text names xs ++ wires_text names ys
wires_join names [] ys = refl
wires_join names (w ∷ xs) ys =
    let line = line_text (codes "#X connect") (spaced (atom_pieces names (wire_atoms w))) in
    ap (λ l. line ++ l) (wires_join names xs ys) ∙ sym (append_assoc line (wires_text names xs) (wires_text names ys))

-- the line of a wire from an outlet 0 to an inlet 0
connect_text : (names : Names) (a b : ℕ) → a ≤ 1000000000 → b ≤ 1000000000 →
    line_text (codes "#X connect") (spaced (atom_pieces names (wire_atoms (record { source = a; outlet = 0; sink = b; inlet = 0 }))))
    ≡ codes "#X connect " ++ (decimal a ++ (codes " 0 " ++ (decimal b ++ codes " 0;\n")))
unfolding digits
connect_text names a b h k =
    ap (λ p. line_text (codes "#X connect") (spaced (p ∷ atom_piece names (Number (written_whole 0)) ∷ atom_piece names (Number (written_whole b)) ∷ atom_piece names (Number (written_whole 0)) ∷ []))) (wire_written names a h)
    ∙ ap (λ p. line_text (codes "#X connect") (spaced (Word (decimal a) ∷ Word (codes "0") ∷ p ∷ Word (codes "0") ∷ []))) (wire_written names b k)
    ∙ ap (λ l. codes "#X connect " ++ l)
    (append_assoc (decimal a) (codes " 0 " ++ (decimal b ++ codes " 0")) (codes ";\n")
    ∙ ap (λ l. decimal a ++ (codes " 0 " ++ l)) (append_assoc (decimal b) (codes " 0") (codes ";\n")))

connects_written : (names : Names) (voice : ℕ) → voice ≤ 1000 → wires_text names (voice_wires voice) ≡ connects_text voice
unfolding digits
connects_written names voice h =
    let first = connect_text names (2 * voice - 1) (2 * voice) (omega (arith, h)) (omega (arith, h)) in
    let second = connect_text names (2 * voice) 0 (omega (arith, h)) (omega arith) in
    let a = decimal (2 * voice - 1) in
    let b = decimal (2 * voice) in
    ap (λ l. l ++ (line_text (codes "#X connect") (spaced (atom_pieces names (wire_atoms (record { source = 2 * voice; outlet = 0; sink = 0; inlet = 0 })))) ++ [])) first
    ∙ ap (λ l. (codes "#X connect " ++ (a ++ (codes " 0 " ++ (b ++ codes " 0;\n")))) ++ (l ++ [])) second
    ∙ ap (λ l. (codes "#X connect " ++ (a ++ (codes " 0 " ++ (b ++ codes " 0;\n")))) ++ l) (append-nil (codes "#X connect " ++ (b ++ codes " 0 0 0;\n")))
    ∙ simp append_assoc

all_connects : (names : Names) (vs : List ℕ) → AllByRecursion (λ v. v ≤ 1000) vs → wires_text names (flat_map voice_wires vs) ≡ flat_map connects_text vs
all_connects names [] h = refl
all_connects names (v ∷ vs) h =
    wires_join names (voice_wires v) (flat_map voice_wires vs)
    ∙ ap (λ l. l ++ wires_text names (flat_map voice_wires vs)) (connects_written names v h.0)
    ∙ ap (λ l. connects_text v ++ l) (all_connects names vs h.1)

few_more : (m : ℕ) (vs : List ℕ) (k : ℕ) → AllByRecursion (λ v. v ≤ m) vs → k ≤ m → AllByRecursion (λ v. v ≤ m) (vs ++ k ∷ [])
few_more m [] k h low = (low, tt)
few_more m (v ∷ vs) k h low = (h.0, few_more m vs k h.1 low)

few_voices : (m n : ℕ) → n ≤ m → AllByRecursion (λ v. v ≤ m) (voices n)
few_voices m zero h = tt
few_voices m (suc n) h = few_more m (voices n) (suc n) (few_voices m n (omega (arith, h))) h

-- the document
pub text_by : (names : Names) (words : Words) (n : ℕ) → AreWords names words → n ≤ 1000 → text_of names (document_by words n) ≡ made_text n
unfolding digits
text_by names words n h few =
    let header = codes "#N canvas 0 50 450 300 12;\n" in
    page_lines names (document_by words n)
    ∙ ap (λ l. header ++ (l ++ (wires_text names (made_wires n) ++ []))) (boxes_written names words n h)
    ∙ ap (λ l. header ++ ((codes "#X obj 0 0 dac~;\n" ++ flat_map voice_text (voices n)) ++ (l ++ []))) (all_connects names (voices n) (few_voices 1000 n few))
    ∙ ap (λ l. header ++ ((codes "#X obj 0 0 dac~;\n" ++ flat_map voice_text (voices n)) ++ l)) (append-nil (flat_map connects_text (voices n)))
    ∙ ap (λ l. header ++ l) (append_assoc (codes "#X obj 0 0 dac~;\n") (flat_map voice_text (voices n)) (flat_map connects_text (voices n)))
