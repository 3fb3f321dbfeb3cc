-- The table of names goes on where a document is read.
use Rattle.std.proofs.Common.{◌≡◌, ◌+◌, ◌&&◌, ◌||◌, ℕ, ℤ, pos, Bool, true, false, List, [], ◌∷◌, length, drop, Option, Some, None, Result, Ok, Err, IfOk, subst, if◌then◌else◌, nat_lt, nat_le, codes, bytes_eq}
use Rattle.std.specs.Prelude.{ok_or}
use Rattle.std.specs.List.{list_all, list_any}
use Rattle.pd_lex.specs.Text.{Piece, is_space}
use Rattle.pd_lex.specs.Reading.{records, rest_of}
use Rattle.pd_atom.specs.declared.Atom.{Atom}
use Rattle.pd_atom.specs.declared.SymbolRefusal.{SymbolRefusal}
use Rattle.pd_atom.specs.Names.{Names, Extends, Outcome, interned}
use Rattle.pd_atom.specs.Tokens.{nameless, read_with, atom_read}
use Rattle.pd_canvas.specs.Pages.{Shape, Array, Other, Page, Entry}
use Rattle.pd_regrowth_law.proofs.StepLemmas.{extends_same, extends_on, interned_extends}
use Rattle.pd_doc.specs.declared.refusal.DocRefusal.{DocRefusal}
use Rattle.pd_doc.specs.declared.refusal.DocRefusal.TheVariants.{BadRecord, TooDeep, TooLong, TooManyWires}
use Rattle.pd_doc.specs.Fields.{atom_from, atom_of, atoms_of, position_of, array_size, size_in, wire_of}
use Rattle.pd_doc.specs.Kinds.{record_word, plain_or, word_kind, opening_kind, kind_behind, kind_of}
use Rattle.pd_canvas.specs.declared.wires.Wire.{Wire}
use Rattle.pd_doc.specs.Pieces.{bytes_of, is_long, spells, text_in, width_in}
use Rattle.pd_doc.specs.Results.{◌>>=◌, refuse_if, answer_in, outcome_in}
use Rattle.pd_doc.specs.States.{Level, State, start, new_level, opened, closed, changed, first_page, first_boxes, one_box_more, one_wire_more, last_of, with_last, with_head, with_row, with_coords, with_kept}
use Rattle.pd_doc.specs.Records.{Reading, is_much, is_none_open, is_deep, is_large, room_of, plain_entry, page_entry, entry_of_form, makes_canvas, zeros, form_of, opening, element, closing, array, connect, kept, values_of, tail_row, row_with, row_of, row_behind, row, by_kind}
use Rattle.pd_doc.specs.Reading.{any_record, run, root_at, document_of}

-- the names after what is read go on from these
abbrev GoesOn : {A : Type 0} → Names → Result (A × Names) DocRefusal → Type 0
GoesOn names r = IfOk r (λ x. Extends names x.1)

on_more : {A : Type 0} (a b : Names) (r : Result (A × Names) DocRefusal) → Extends a b → GoesOn b r → GoesOn a r
on_more a b (Ok x) e h = extends_on a b x.1 e h
on_more a b (Err why) e h = tt

-- a step that brings names, and what comes after it
then_on : {A B : Type 0} (a : Names) (r : Result (A × Names) DocRefusal) (f : A × Names → Result (B × Names) DocRefusal) → GoesOn a r → ((x : A × Names) → GoesOn x.1 (f x)) → GoesOn a (r >>= f)
then_on a (Ok x) f h k = on_more a x.1 (f x) h (k x)
then_on a (Err why) f h k = tt

-- a step that brings none
pass_on : {A B : Type 0} (a : Names) (r : Result A DocRefusal) (f : A → Result (B × Names) DocRefusal) → ((x : A) → GoesOn a (f x)) → GoesOn a (r >>= f)
pass_on a (Ok x) f k = k x
pass_on a (Err why) f k = tt

-- ---- atoms

outcome_on : {A : Type 0} (a : Names) (n : ℕ) (names : Names) (r : Result A SymbolRefusal) → Extends a names → GoesOn a (answer_in n names r)
outcome_on a n names (Ok x) e = e
outcome_on a n names (Err why) e = tt

read_on : (names : Names) (token : List ℕ) (o : Option Atom) → Extends names (read_with names token o).names
read_on names token (Some a) = extends_same names
read_on names token None = interned_extends names token

token_on : (names : Names) (token : List ℕ) → Extends names (atom_read names token).names
unfolding atom_read
token_on names token = read_on names token (nameless token)

from_on : (n : ℕ) (names : Names) (bytes : List ℕ) → GoesOn names (atom_from n names bytes)
from_on n names [] = tt
from_on n names (b ∷ bs) = outcome_on names n (atom_read names (b ∷ bs)).names (atom_read names (b ∷ bs)).answer (token_on names (b ∷ bs))

long_on : (b : Bool) (n : ℕ) (names : Names) (r : Result (Atom × Names) DocRefusal) → GoesOn names r → GoesOn names (if b then Err (TooLong n) else r)
long_on true n names r h = tt
long_on false n names r h = h

atom_on : (n : ℕ) (names : Names) (p : Piece) → GoesOn names (atom_of n names p)
unfolding atom_of
atom_on n names p = long_on (is_long p) n names (atom_from n names (bytes_of p)) (from_on n names (bytes_of p))

atoms_on : (n : ℕ) (ps : List Piece) (names : Names) → GoesOn names (atoms_of n names ps)
unfolding atoms_of
atoms_on n [] names = extends_same names
atoms_on n (p ∷ ps) names =
    let last : Atom → List Atom × Names → Result (List Atom × Names) DocRefusal = λ a rest. Ok (a ∷ rest.0, rest.1) in
    let more : Atom × Names → Result (List Atom × Names) DocRefusal = λ a. atoms_of n a.1 ps >>= last a.0 in
    then_on names (atom_of n names p) more (atom_on n names p)
    (λ a. then_on a.1 (atoms_of n a.1 ps) (last a.0) (atoms_on n ps a.1) (λ rest. extends_same rest.1))

-- ---- records

box_on : (n : ℕ) (names : Names) → GoesOn names (outcome_in n (interned names (codes "listbox")) >>= (λ s. Ok (Other s.0, s.1)))
box_on n names =
    let o : Outcome ℕ = interned names (codes "listbox") in
    let last : ℕ × Names → Result (Shape × Names) DocRefusal = λ s. Ok (Other s.0, s.1) in
    then_on names (outcome_in n o) last (outcome_on names n o.names o.answer (interned_extends names (codes "listbox"))) (λ s. extends_same s.1)

opening_on : (s : State) (names : Names) (n : ℕ) (header : List Piece) → GoesOn names (opening s names n header)
unfolding opening
opening_on s names n header =
    let last : List Atom × Names → Reading = λ h. Ok (opened (new_level n h.0) s, h.1) in
    let atoms : Unit {0} → Reading = λ _. atoms_of n names header >>= last in
    let deep : Unit {0} → Reading = λ _. refuse_if (is_deep s) (TooDeep n) >>= atoms in
    pass_on names (refuse_if (is_much header) (TooLong n)) deep (λ a.
    pass_on names (refuse_if (is_deep s) (TooDeep n)) atoms (λ b.
    then_on names (atoms_of n names header) last (atoms_on n header names) (λ h. extends_same h.1)))

element_on : (w : _) (s : State) (names : Names) (n : ℕ) (ps : List Piece) → GoesOn names (form_of w n names) → GoesOn names (element w s names n ps)
unfolding element
element_on w s names n ps k =
    let text : List Piece = text_in (drop 2 ps) in
    let is_new : Bool = makes_canvas w text in
    let last : ℤ × ℤ → Shape × Names → List Atom × Names → Reading = λ at form t. Ok (one_box_more (entry_of_form is_new form.0 at t.0 (width_in (drop 2 ps))) s, t.1) in
    let atoms : ℤ × ℤ → Shape × Names → Reading = λ at form. atoms_of n form.1 text >>= last at form in
    let form : ℤ × ℤ → Unit {0} → Reading = λ at _. form_of w n names >>= atoms at in
    let room : ℤ × ℤ → Unit {0} → Reading = λ at _. room_of s n >>= form at in
    let deep : ℤ × ℤ → Reading = λ at. refuse_if (is_new && is_deep s) (TooDeep n) >>= room at in
    let place : Unit {0} → Reading = λ _. position_of n ps >>= deep in
    pass_on names (refuse_if (is_much text) (TooLong n)) place (λ a.
    pass_on names (position_of n ps) deep (λ at.
    pass_on names (refuse_if (is_new && is_deep s) (TooDeep n)) (room at) (λ b.
    pass_on names (room_of s n) (form at) (λ c.
    then_on names (form_of w n names) (atoms at) k (λ f.
    then_on f.1 (atoms_of n f.1 text) (last at f) (atoms_on n text f.1) (λ t. extends_same t.1))))))

closing_on : (s : State) (names : Names) (n : ℕ) (ps : List Piece) → GoesOn names (closing s names n ps)
unfolding closing
closing_on s names n ps =
    let text : List Piece = text_in (drop 2 ps) in
    let last : ℤ × ℤ → List Atom × Names → Reading = λ at t. Ok (one_box_more (page_entry (first_page s.levels) at t.0 (width_in (drop 2 ps))) (closed s), t.1) in
    let atoms : ℤ × ℤ → Unit {0} → Reading = λ at _. atoms_of n names text >>= last at in
    let room : ℤ × ℤ → Unit {0} → Reading = λ at _. room_of s n >>= atoms at in
    let open_ : ℤ × ℤ → Reading = λ at. refuse_if (nat_lt (length s.levels) 2) (BadRecord n) >>= room at in
    let place : Unit {0} → Reading = λ _. position_of n ps >>= open_ in
    pass_on names (refuse_if (is_much text) (TooLong n)) place (λ a.
    pass_on names (position_of n ps) open_ (λ at.
    pass_on names (refuse_if (nat_lt (length s.levels) 2) (BadRecord n)) (room at) (λ b.
    pass_on names (room_of s n) (atoms at) (λ c.
    then_on names (atoms_of n names text) (last at) (atoms_on n text names) (λ t. extends_same t.1)))))

array_on : (s : State) (names : Names) (n : ℕ) (text : List Piece) → GoesOn names (array s names n text)
unfolding array
array_on s names n text =
    let last : ℕ → List Atom × Names → Reading = λ size t. Ok (one_box_more (plain_entry (Array (zeros size)) (pos 0, pos 0) t.0 None) s, t.1) in
    let atoms : ℕ → Unit {0} → Reading = λ size _. atoms_of n names text >>= last size in
    let room : ℕ → Reading = λ size. room_of s n >>= atoms size in
    let sized : Unit {0} → Reading = λ _. array_size n text >>= room in
    pass_on names (refuse_if (is_much text || is_large (size_in text)) (TooLong n)) sized (λ a.
    pass_on names (array_size n text) room (λ size.
    pass_on names (room_of s n) (atoms size) (λ c.
    then_on names (atoms_of n names text) (last size) (atoms_on n text names) (λ t. extends_same t.1))))

connect_on : (s : State) (names : Names) (n : ℕ) (ps : List Piece) → GoesOn names (connect s names n ps)
unfolding connect
connect_on s names n ps =
    let last : Wire → Unit {0} → Reading = λ w _. Ok (one_wire_more w s, names) in
    let many : Wire → Unit {0} → Reading = λ w _. refuse_if (nat_le 65536 s.wires) (TooManyWires n) >>= last w in
    let open_ : Wire → Reading = λ w. refuse_if (is_none_open s) (BadRecord n) >>= many w in
    pass_on names (ok_or (wire_of ps) (BadRecord n)) open_ (λ w.
    pass_on names (refuse_if (is_none_open s) (BadRecord n)) (many w) (λ b.
    pass_on names (refuse_if (nat_le 65536 s.wires) (TooManyWires n)) (last w) (λ c. extends_same names)))

kept_on : (f : List Atom → Level → Level) (s : State) (names : Names) (n : ℕ) (ps : List Piece) → GoesOn names (kept f s names n ps)
unfolding kept
kept_on f s names n ps =
    let last : List Atom × Names → Reading = λ t. Ok (changed (f t.0) s, t.1) in
    let atoms : Unit {0} → Reading = λ _. atoms_of n names ps >>= last in
    let open_ : Unit {0} → Reading = λ _. refuse_if (is_none_open s) (BadRecord n) >>= atoms in
    pass_on names (refuse_if (is_much ps) (TooLong n)) open_ (λ a.
    pass_on names (refuse_if (is_none_open s) (BadRecord n)) atoms (λ b.
    then_on names (atoms_of n names ps) last (atoms_on n ps names) (λ t. extends_same t.1)))

tail_on : (e : Entry) (names : Names) (n : ℕ) (ps : List Piece) → GoesOn names (tail_row e names n ps)
tail_on e names n ps =
    let last : List Atom × Names → Result (Entry × Names) DocRefusal = λ t. Ok (with_head (with_row t.0 e.head) e, t.1) in
    then_on names (atoms_of n names ps) last (atoms_on n ps names) (λ t. extends_same t.1)

with_on : (v : Option (List ℤ)) (e : Entry) (names : Names) (n : ℕ) (ps : List Piece) → GoesOn names (row_with v e names n ps)
with_on None e names n ps = tail_on e names n ps
with_on (Some []) e names n ps = tail_on e names n ps
with_on (Some (z ∷ zs)) e names n ps = extends_same names

of_on : (e : Entry) (names : Names) (n : ℕ) (ps : List Piece) → GoesOn names (row_of e names n ps)
unfolding row_of
of_on e names n ps = with_on (values_of e.head.form ps) e names n ps

behind_on : (o : Option Entry) (s : State) (names : Names) (n : ℕ) (ps : List Piece) → GoesOn names (row_behind o s names n ps)
behind_on None s names n ps = tt
behind_on (Some e) s names n ps =
    let last : Entry × Names → Reading = λ r. Ok (with_last r.0 s, r.1) in
    then_on names (row_of e names n ps) last (of_on e names n ps) (λ r. extends_same r.1)

row_on : (s : State) (names : Names) (n : ℕ) (ps : List Piece) → GoesOn names (row s names n ps)
unfolding row
row_on s names n ps = behind_on (last_of (first_boxes s.levels)) s names n ps

-- what both answers of a test have
either_has : {A : Type 0} (P : A → Type 0) (b : Bool) (x y : A) → P x → P y → P (if b then x else y)
either_has P true x y h k = h
either_has P false x y h k = k

module _ (s : State) (names : Names) (n : ℕ) (ps : List Piece) where
  other_word_on : (w : List ℕ) → GoesOn names (by_kind (record_word w) s names n ps)
  other_word_on w =
      either_has (λ x. GoesOn names (by_kind x s names n ps)) (bytes_eq w (codes "restore")) _ _ (closing_on s names n (drop 2 ps))
      (either_has (λ x. GoesOn names (by_kind x s names n ps)) (bytes_eq w (codes "array")) _ _ (array_on s names n (drop 2 ps))
      (either_has (λ x. GoesOn names (by_kind x s names n ps)) (bytes_eq w (codes "connect")) _ _ (connect_on s names n (drop 2 ps))
      (either_has (λ x. GoesOn names (by_kind x s names n ps)) (bytes_eq w (codes "coords")) _ _ (kept_on with_coords s names n (drop 2 ps))
      (either_has (λ x. GoesOn names (by_kind x s names n ps)) (bytes_eq w (codes "scalar")) _ _ tt (kept_on with_kept s names n (drop 1 ps))))))

  word_on : (w : List ℕ) → GoesOn names (by_kind (word_kind w) s names n ps)
  unfolding form_of
  word_on w =
      either_has (λ o. GoesOn names (by_kind (plain_or o (record_word w)) s names n ps)) (bytes_eq w (codes "obj")) _ _ (element_on _ s names n (drop 2 ps) (extends_same names))
      (either_has (λ o. GoesOn names (by_kind (plain_or o (record_word w)) s names n ps)) (bytes_eq w (codes "msg")) _ _ (element_on _ s names n (drop 2 ps) (extends_same names))
      (either_has (λ o. GoesOn names (by_kind (plain_or o (record_word w)) s names n ps)) (bytes_eq w (codes "text")) _ _ (element_on _ s names n (drop 2 ps) (extends_same names))
      (either_has (λ o. GoesOn names (by_kind (plain_or o (record_word w)) s names n ps)) (bytes_eq w (codes "floatatom")) _ _ (element_on _ s names n (drop 2 ps) (extends_same names))
      (either_has (λ o. GoesOn names (by_kind (plain_or o (record_word w)) s names n ps)) (bytes_eq w (codes "symbolatom")) _ _ (element_on _ s names n (drop 2 ps) (extends_same names))
      (either_has (λ o. GoesOn names (by_kind (plain_or o (record_word w)) s names n ps)) (bytes_eq w (codes "listbox")) _ _ (element_on _ s names n (drop 2 ps) (box_on n names))
      (other_word_on w))))))

  opening_word_on : (w : List ℕ) → GoesOn names (by_kind (opening_kind w) s names n ps)
  opening_word_on w =
      either_has (λ x. GoesOn names (by_kind x s names n ps)) (bytes_eq w (codes "canvas")) _ _ (opening_on s names n (drop 2 ps))
      (either_has (λ x. GoesOn names (by_kind x s names n ps)) (bytes_eq w (codes "struct")) _ _ tt tt)

  behind_opening : (qs : List Piece) → GoesOn names (by_kind (kind_behind opening_kind qs) s names n ps)
  behind_opening [] = tt
  behind_opening (q ∷ qs) = either_has (λ x. GoesOn names (by_kind x s names n ps)) (is_long q) _ _ tt (opening_word_on (bytes_of q))

  behind_word : (qs : List Piece) → GoesOn names (by_kind (kind_behind word_kind qs) s names n ps)
  behind_word [] = tt
  behind_word (q ∷ qs) = either_has (λ x. GoesOn names (by_kind x s names n ps)) (is_long q) _ _ tt (word_on (bytes_of q))

kind_on : (s : State) (names : Names) (n : ℕ) (p : Piece) (ps : List Piece) → GoesOn names (by_kind (kind_of (p ∷ ps)) s names n (p ∷ ps))
unfolding kind_of
kind_on s names n p ps =
    either_has (λ x. GoesOn names (by_kind x s names n (p ∷ ps))) (spells (codes "#N") p) _ _ (behind_opening s names n (p ∷ ps) ps)
    (either_has (λ x. GoesOn names (by_kind x s names n (p ∷ ps))) (spells (codes "#X") p) _ _ (behind_word s names n (p ∷ ps) ps)
    (either_has (λ x. GoesOn names (by_kind x s names n (p ∷ ps))) (spells (codes "#A") p) _ _ (row_on s names n (drop 1 (p ∷ ps))) tt))

record_on : (s : State × Names) (n : ℕ) (ps : List Piece) → GoesOn s.1 (any_record s n ps)
record_on s n [] = extends_same s.1
record_on s n (p ∷ ps) =
    let read : Unit {0} → Reading = λ _. by_kind (kind_of (p ∷ ps)) s.0 s.1 n (p ∷ ps) in
    pass_on s.1 (refuse_if (list_any is_long (p ∷ ps)) (TooLong n)) read (λ a. kind_on s.0 s.1 n p ps)

run_on : (rs : List (List Piece)) (s : State × Names) (n : ℕ) → GoesOn s.1 (run s n rs)
unfolding run
run_on [] s n = extends_same s.1
run_on (r ∷ rs) s n =
    let more : State × Names → Reading = λ t. run t (n + 1) rs in
    then_on s.1 (any_record s (n + 1) r) more (record_on s (n + 1) r) (λ t. run_on rs t (n + 1))

document_on : (names : Names) (text : List ℕ) → GoesOn names (document_of names text)
unfolding document_of
document_on names text =
    let page : State × Names → Page → Result (Page × Names) DocRefusal = λ s p. Ok (p, s.1) in
    let root : State × Names → Result (Page × Names) DocRefusal = λ s. root_at (length (records text)) (list_all is_space (rest_of text)) s.0.levels >>= page s in
    then_on names (run (start, names) 0 (records text)) root (run_on (records text) (start, names) 0)
    (λ s. pass_on s.1 (root_at (length (records text)) (list_all is_space (rest_of text)) s.0.levels) (page s) (λ p. extends_same s.1))

pub document_extends : (names names' : Names) (p : Page) (text : List ℕ) → document_of names text ≡ Ok (p, names') → Extends names names'
document_extends names names' p text h = subst (λ (r : Result (Page × Names) DocRefusal). GoesOn names r) h (document_on names text)
