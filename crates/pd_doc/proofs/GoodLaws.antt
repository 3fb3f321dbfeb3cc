-- A document that is read is proper.
use Rattle.std.proofs.Common.{◌≡◌, ℕ, zero, suc, ◌+◌, ◌/◌, ◌<◌, ◌≤◌, Bool, true, false, ◌&&◌, ◌||◌, not, List, [], ◌∷◌, ◌++◌, length, take, drop, refl, sym, ap, ◌∙◌, subst, arith, Option, Some, None, Result, Ok, Err, length-append, length-take, length-drop}
use Rattle.std.specs.Prelude.{ℤ, pos, negsuc, codes, nat_lt, nat_le, ok_or, ◌==◌, IfOk}
use Rattle.std.specs.List.{AllByRecursion, list_any, list_all}
use Rattle.std.proofs.lemmas.Bool.Decides.{nat_tests}
use Rattle.std.proofs.lemmas.Int.{ints}
use Rattle.std.proofs.lemmas.List.{get_or-take}
use Rattle.pd_num.specs.Scale.{millionths, IsInRange}
use Rattle.pd_num.specs.Reading.{number_at, numeral_at, exponent_at}
use Rattle.pd_lex.specs.Text.{Piece, is_space}
use Rattle.pd_lex.specs.Reading.{records, rest_of}
use Rattle.pd_atom.specs.Names.{Names, IsTable, interned, name_of}
use Rattle.pd_atom.specs.Tokens.{IsSettled, nameless, named}
use Rattle.pd_atom.specs.declared.Atom.{Atom}
use Rattle.pd_atom.specs.declared.Atom.TheVariants.{Number, Symbol}
use Rattle.pd_atom.proofs.NameLemmas.{six_names}
use Rattle.pd_atom.proofs.TokenLemmas.{number_settled, settled_named}
use Rattle.pd_canvas.specs.declared.wires.Wire.{Wire}
use Rattle.pd_canvas.specs.declared.tree.Doc.{Doc}
use Rattle.pd_canvas.specs.Pages.{Shape, Obj, Msg, Comment, FloatBox, SymbolBox, Sub, Array, Other, Head, Page, Entry, frame_of, weight, empty_page}
use Rattle.pd_canvas.specs.Edits.{new_header, new_name}
use Rattle.pd_canvas.specs.Arrays.{is_saved, IsArray}
use Rattle.pd_canvas.specs.Proper.{IsReady, AreReady, IsText, IsKept, IsWidth, IsFrame, FitsForm, HoldsNone, IsProper, levels, levels_of, inner_wires, is_number_row}
use Rattle.pd_canvas.proofs.SoundLemmas.{IsEntry}
use Rattle.pd_doc.specs.declared.refusal.DocRefusal.{DocRefusal}
use Rattle.pd_doc.specs.declared.refusal.DocRefusal.TheVariants.{BadRecord, TooDeep, TooLong, TooManyWires}
use Rattle.pd_doc.specs.declared.kinds.Kind.{Kind}
use Rattle.pd_doc.specs.declared.kinds.Kind.TheVariants as kind
use Rattle.pd_doc.specs.declared.kinds.BoxWord.{BoxWord}
use Rattle.pd_doc.specs.declared.kinds.BoxWord.TheVariants as word
use Rattle.pd_doc.specs.Pieces.{is_long, numbers_of, text_in, width_in}
use Rattle.pd_doc.specs.Results.{◌>>=◌, refuse_if, outcome_in, Answers}
use Rattle.pd_doc.specs.Kinds.{kind_of}
use Rattle.pd_doc.specs.Fields.{atoms_of, position_of, size_in, array_size, wire_of}
use Rattle.pd_doc.specs.States.{Level, State, start, new_level, page_of_level, opened, closed, changed, first_page, first_boxes, with_kept, with_coords, with_boxes, one_box_more, one_wire_more, last_of, in_last, with_last, with_head, with_form, with_row, with_values, overlaid, placed, placed_in, is_array}
use Rattle.pd_doc.specs.Records.{Reading, is_much, is_none_open, is_deep, is_large, room_of, plain_entry, page_entry, makes_canvas, form_of, entry_of_form, zeros, opening, element, closing, array, connect, kept, row, row_of, row_with, row_behind, tail_row, values_of, by_kind}
use Rattle.pd_doc.specs.Reading.{any_record, run, root_of, root_at, document_of}
use Rattle.pd_doc.proofs.PieceLemmas.{by_test}
use Rattle.pd_doc.proofs.RunLemmas.{run-record, run-end}
use Rattle.pd_doc.proofs.AtomLaws.{bind_ok, past, ok_is, outcome_of}
use Rattle.pd_doc.proofs.ArrayLaws.{all_take, all_drop}
use Rattle.pd_doc.proofs.ReadyLaws.{Interned, interned_is, AllStand, Made, atoms_made, all_ready, text_made}
use Rattle.pd_doc.proofs.GrowLaws.{Grows, grows_same, grows_on, form_grows, entry_grows, IsLevel, AreLevels, levels_grow}
use Rattle.pd_doc.proofs.FieldLaws.{allowed, neither, position_range, width_is, wire_small, some_wire, array_is, not_pd_text, kind_kept, kept_made, NoNumbers, no_number_row, numbers_range}
use Rattle.pd_doc.proofs.CountLaws.{depth_of, TakesAs, last_entry, level_sound, level_wires, IsGood, AreShallow, shallow_length, good_grows, box_good, wire_good, close_good, Keeps, OfFirst, change_good, of_first, keeps_last}

made_grows : (names names' : Names) (ps : List Piece) (l : List Atom) → IsTable names → Made names names' ps l → Grows names names'
made_grows names names' ps l table m = record { extends = m.extends; before = table; after = m.table }

abbrev reading_ok : State × Names → Reading
reading_ok s = Ok s

good_ok : (s t : State × Names) → reading_ok s ≡ reading_ok t → IsGood s → IsGood t
good_ok s t e h = subst IsGood (ok_is s t e) h

some_open : (n : ℕ) → (n == 0) ≡ false → 1 ≤ n
some_open n h = grind (arith, nat_tests)

below : (k n : ℕ) → nat_le k n ≡ false → n < k
below k n h = grind (arith, nat_tests)

at_least : (n k : ℕ) → nat_lt n k ≡ false → k ≤ n
at_least n k h = grind (arith, nat_tests)

-- ---- kept records and coords

rows_more : (P : List Atom → Type 0) (rs : List (List Atom)) (r : List Atom) → AllByRecursion P rs → P r → AllByRecursion P (rs ++ r ∷ [])
rows_more P [] r h k = (k, tt)
rows_more P (x ∷ rs) r h k = (h.0, rows_more P rs r h.1 k)

kept_keeps : (names : Names) (r : List Atom) (l : Level) → IsKept names r → IsLevel names l → Keeps names (with_kept r) l
kept_keeps names r l h k = record {
  level = record { header = k.header; kept = rows_more (IsKept names) l.kept r k.kept h; entries = k.entries; small = k.small; coords = k.coords };
  weight = refl;
  inner = refl;
  depth = refl;
  wires = refl;
}

coords_keeps : (names : Names) (r : List Atom) (l : Level) → IsText names r → IsLevel names l → Keeps names (with_coords r) l
coords_keeps names r l h k = record {
  level = record { header = k.header; kept = k.kept; entries = k.entries; small = k.small; coords = rows_more (IsText names) l.coords r k.coords h };
  weight = refl;
  inner = refl;
  depth = refl;
  wires = refl;
}

kept_good : (f : List Atom → Level → Level) (s : State) (names : Names) (n : ℕ) (ps : List Piece) (t : State × Names) →
    ((names' : Names) (r : List Atom) (l : Level) → IsTable names' → AllStand names' ps r → is_much ps ≡ false → IsLevel names' l → Keeps names' (f r) l) →
    kept f s names n ps ≡ Ok t → IsGood (s, names) → IsGood t
unfolding kept
kept_good f s names n ps t g h k =
    let last : List Atom × Names → Reading = λ x. Ok (changed (f x.0) s, x.1) in
    let two = refuse_if (is_none_open s) (BadRecord n) >>= (λ _. atoms_of n names ps >>= last) in
    let a = allowed (is_much ps) (TooLong n) two t h in
    let b = past (is_none_open s) (BadRecord n) (atoms_of n names ps >>= last) t a.1 in
    let c = bind_ok (atoms_of n names ps) last t b in
    let names' = c.0.1 in
    let m = atoms_made n names ps c.0.0 names' k.table c.1 in
    let grown = good_grows s names names' (made_grows names names' ps c.0.0 k.table m) k in
    good_ok (changed (f c.0.0) s, names') t c.2
    (change_good names' (f c.0.0) s grown
    (of_first (IsLevel names') (Keeps names' (f c.0.0)) s.levels (λ l i. g names' c.0.0 l m.table m.stand a.0 i) grown.levels))

-- ---- the opening of a canvas, and wires

opening_good : (s : State) (names : Names) (n : ℕ) (ps : List Piece) (t : State × Names) → opening s names n ps ≡ Ok t → IsGood (s, names) → IsGood t
unfolding opening
opening_good s names n ps t h k =
    let last : List Atom × Names → Reading = λ x. Ok (opened (new_level n x.0) s, x.1) in
    let two = refuse_if (is_deep s) (TooDeep n) >>= (λ _. atoms_of n names ps >>= last) in
    let a = allowed (is_much ps) (TooLong n) two t h in
    let b = allowed (is_deep s) (TooDeep n) (atoms_of n names ps >>= last) t a.1 in
    let c = bind_ok (atoms_of n names ps) last t b.1 in
    let names' = c.0.1 in
    let m = atoms_made n names ps c.0.0 names' k.table c.1 in
    good_ok (opened (new_level n c.0.0) s, names') t c.2 (record {
      table = m.table;
      levels = (
        record { header = text_made names' ps c.0.0 m.table m.stand a.0; kept = tt; entries = tt; small = tt; coords = tt },
        levels_grow names names' (made_grows names names' ps c.0.0 k.table m) s.levels k.levels,
      );
      elements = omega (arith, k.elements);
      wires = omega (arith, k.wires);
      few = k.few;
      few_wires = k.few_wires;
      shallow = (omega (arith, below 256 (length s.levels) b.0), k.shallow);
    })

connect_good : (s : State) (names : Names) (n : ℕ) (ps : List Piece) (t : State × Names) → connect s names n ps ≡ Ok t → IsGood (s, names) → IsGood t
unfolding connect
connect_good s names n ps t h k =
    let last : Wire → Reading = λ w. refuse_if (is_none_open s) (BadRecord n) >>= (λ _. refuse_if (nat_le 65536 s.wires) (TooManyWires n) >>= (λ _. Ok (one_wire_more w s, names))) in
    let a = bind_ok (ok_or (wire_of ps) (BadRecord n)) last t h in
    let done : Reading = Ok (one_wire_more a.0 s, names) in
    let b = allowed (is_none_open s) (BadRecord n) (refuse_if (nat_le 65536 s.wires) (TooManyWires n) >>= (λ _. done)) t a.2 in
    let c = allowed (nat_le 65536 s.wires) (TooManyWires n) done t b.1 in
    good_ok (one_wire_more a.0 s, names) t c.1
    (wire_good names a.0 s k (wire_small ps a.0 (some_wire (wire_of ps) (BadRecord n) a.0 a.1)) (some_open (length s.levels) b.0) (below 65536 s.wires c.0))

-- ---- elements

-- there is a canvas for one element more
pub record HasRoom (s : State) : Type 0 where
  pub some : 1 ≤ length s.levels
  pub few : s.elements < 16384

room_is : (s : State) (n : ℕ) (u : Unit {0}) → room_of s n ≡ Ok u → HasRoom s
room_is s n u h =
    let done : Result (Unit {0}) DocRefusal = Ok tt in
    by_test (is_none_open s) (λ e. absurd (let q = rw e at h in cc))
    (λ e. by_test (nat_le 16384 s.elements) (λ f. absurd (let q = rw (e, f) at h in cc))
    (λ f. record { some = some_open (length s.levels) e; few = below 16384 s.elements f }))

empty_frame : (names : Names) → IsFrame names (frame_of empty_page)
empty_frame names = record { header = (tt, omega arith); kept = tt; small = tt; sorted = tt; coords = tt }

small_number : (names : Names) (m : ℕ) → m ≤ 1000000000000000 → IsReady names (Number (pos m))
small_number names m h = (tt, number_settled names (pos m) (omega (arith, ints), omega (arith, ints)))

subpatch_name : (names : Names) → IsTable names → name_of names 5 ≡ codes "subpatch"
subpatch_name names t = sym (get_or-take 6 names 5 [] (omega arith)) ∙ ap (λ l. name_of l 5) t.begins

subpatch_nameless : nameless (codes "subpatch") ≡ None
unfolding nameless number_at numeral_at exponent_at
subpatch_nameless = refl

subpatch_ready : (names : Names) → IsTable names → IsReady names (Symbol 5)
subpatch_ready names t =
    let e = subpatch_name names t in
    let six = six_names names t in
    (omega arith, subst (λ x. IsSettled names (named x 5)) e (settled_named names 5 t (omega arith) (ap nameless e ∙ subpatch_nameless)))

name_ready : (names : Names) (text : List Atom) → IsTable names → AreReady names text → IsReady names (new_name text)
name_ready names [] t h = subpatch_ready names t
name_ready names (a ∷ []) t h = subpatch_ready names t
name_ready names (a ∷ b ∷ text) t h = h.1.0

header_is : (names : Names) (text : List Atom) → IsTable names → AreReady names text → IsText names (new_header text)
header_is names text t h = (
  (
    small_number names 0 (omega arith),
    (
      small_number names 0 (omega arith),
      (small_number names 450000000 (omega arith), (small_number names 300000000 (omega arith), (name_ready names text t h, (small_number names 0 (omega arith), tt)))),
    ),
  ),
  omega arith,
)

-- what a form of an element is
pub record FormIs (names names' : Names) (w : BoxWord) (form : Shape) : Type 0 where
  pub grows : Grows names names'
  pub fits : (later : Names) (x : Head) (ps : List Piece) → Grows names' later → AllStand later ps x.text → makes_canvas w ps ≡ false → FitsForm later form x
  pub none : HoldsNone form empty_page
  pub flat : levels_of form 0 ≡ 0

abbrev form_pair : Shape → Names → Result (Shape × Names) DocRefusal
form_pair s names = Ok (s, names)

form_plain : (w : BoxWord) (names : Names) (s x : Shape) (names' : Names) → FormIs names names w s → form_pair s names ≡ form_pair x names' → FormIs names names' w x
form_plain w names s x names' h e = subst (λ (p : Shape × Names). FormIs names p.1 w p.0) (ok_is (s, names) (x, names') e) h

abbrev as_other : ℕ × Names → Result (Shape × Names) DocRefusal
as_other s = Ok (Other s.0, s.1)

listbox_is : (n : ℕ) (names : Names) (x : Shape) (names' : Names) → IsTable names →
    (outcome_in n (interned names (codes "listbox")) >>= as_other) ≡ Ok (x, names') → FormIs names names' word.ListBox x
listbox_is n names x names' table h =
    let o = interned names (codes "listbox") in
    let a = bind_ok (outcome_in n o) as_other (x, names') h in
    let q = outcome_of n o.names o.answer a.0.0 a.0.1 a.1 in
    let i : Interned names a.0.1 (codes "listbox") a.0.0 = subst (λ m. Interned names m (codes "listbox") a.0.0) q.1 (interned_is names (codes "listbox") a.0.0 table (omega arith) q.0) in
    let made : Shape × Names = (Other a.0.0, a.0.1) in
    subst (λ (p : Shape × Names). FormIs names p.1 word.ListBox p.0) (ok_is made (x, names') a.2) (record {
      grows = record { extends = i.extends; before = table; after = i.table };
      fits = λ later y ps g s m. form_grows a.0.1 later g (Other a.0.0) y (i.below, i.name);
      none = refl;
      flat = refl;
    })

form_is : (w : BoxWord) (n : ℕ) (names : Names) (x : Shape) (names' : Names) → IsTable names → form_of w n names ≡ Ok (x, names') → FormIs names names' w x
unfolding form_of
form_is word.Obj n names x names' t h =
    form_plain word.Obj names Obj x names' (record { grows = grows_same names t; fits = λ later y ps g s m. not_pd_text later ps y.text g.after s m; none = refl; flat = refl }) h
form_is word.Msg n names x names' t h =
    form_plain word.Msg names Msg x names' (record { grows = grows_same names t; fits = λ later y ps g s m. tt; none = refl; flat = refl }) h
form_is word.Text n names x names' t h =
    form_plain word.Text names Comment x names' (record { grows = grows_same names t; fits = λ later y ps g s m. tt; none = refl; flat = refl }) h
form_is word.FloatAtom n names x names' t h =
    form_plain word.FloatAtom names FloatBox x names' (record { grows = grows_same names t; fits = λ later y ps g s m. tt; none = refl; flat = refl }) h
form_is word.SymbolAtom n names x names' t h =
    form_plain word.SymbolAtom names SymbolBox x names' (record { grows = grows_same names t; fits = λ later y ps g s m. tt; none = refl; flat = refl }) h
form_is word.ListBox n names x names' t h = listbox_is n names x names' t h

-- the sizes of a new element
pub record IsNew (e : Entry) (d : ℕ) : Type 0 where
  pub weight : weight e.page.boxes ≡ 0
  pub wires : length e.page.wires + inner_wires e.page.boxes ≡ 0
  pub depth : depth_of e + d ≤ 256

more_good : (names : Names) (e : Entry) (s : State) → IsGood (s, names) → IsEntry names e → HasRoom s → IsNew e (length s.levels) → IsGood (one_box_more e s, names)
more_good names e s i is room n =
    box_good names e s.levels s.elements s.wires i.table i.levels i.shallow is room.some (omega (arith, i.elements, n.weight)) (omega (arith, i.wires, n.wires)) room.few i.few_wires n.depth

new_entry : (names : Names) (w : BoxWord) (is_new : Bool) (form : Shape) (before : Names) (at : ℤ × ℤ) (text : List Atom) (width : Option ℤ) (ps : List Piece) → IsTable names →
    FormIs before names w form → (later : Names) → Grows names later → AllStand later ps text → makes_canvas w ps ≡ is_new → IsInRange millionths at.0 → IsInRange millionths at.1 →
    IsText later text → IsWidth width → IsEntry later (entry_of_form is_new form at text width)
new_entry names w true form before at text width ps table f later g s m x y t i = record {
  head = record { x = x; y = y; text = t; width = i; tail = tt; form = tt };
  none = tt;
  frame = record { header = header_is later text g.after t.0; kept = tt; small = tt; sorted = tt; coords = tt };
  boxes = tt;
}
new_entry names w false form before at text width ps table f later g s m x y t i = record {
  head = record { x = x; y = y; text = t; width = i; tail = tt; form = f.fits later (plain_entry form at text width).head ps g s m };
  none = f.none;
  frame = empty_frame later;
  boxes = tt;
}

new_sizes : (is_new : Bool) (form : Shape) (at : ℤ × ℤ) (text : List Atom) (width : Option ℤ) (s : State) → (is_new && is_deep s) ≡ false → levels_of form 0 ≡ 0 → AreShallow s.levels →
    IsNew (entry_of_form is_new form at text width) (length s.levels)
new_sizes true form at text width s d f h = record { weight = refl; wires = refl; depth = omega (arith, below 256 (length s.levels) d) }
new_sizes false form at text width s d f h = record { weight = refl; wires = refl; depth = omega (arith, f, shallow_length s.levels h) }

element_good : (w : BoxWord) (s : State) (names : Names) (n : ℕ) (ps : List Piece) (t : State × Names) → element w s names n ps ≡ Ok t → IsGood (s, names) → IsGood t
unfolding element
element_good w s names n ps t h k =
    let text = text_in (drop 2 ps) in
    let is_new = makes_canvas w text in
    let width = width_in (drop 2 ps) in
    let last : ℤ × ℤ → Shape → List Atom × Names → Reading = λ at form x. Ok (one_box_more (entry_of_form is_new form at x.0 width) s, x.1) in
    let with_form : ℤ × ℤ → Shape × Names → Reading = λ at form. atoms_of n form.1 text >>= last at form.0 in
    let with_room : ℤ × ℤ → Reading = λ at. room_of s n >>= (λ _. form_of w n names >>= with_form at) in
    let with_at : ℤ × ℤ → Reading = λ at. refuse_if (is_new && is_deep s) (TooDeep n) >>= (λ _. with_room at) in
    let a = allowed (is_much text) (TooLong n) (position_of n ps >>= with_at) t h in
    let b = bind_ok (position_of n ps) with_at t a.1 in
    let c = allowed (is_new && is_deep s) (TooDeep n) (with_room b.0) t b.2 in
    let d = bind_ok (room_of s n) (λ _. form_of w n names >>= with_form b.0) t c.1 in
    let e = bind_ok (form_of w n names) (with_form b.0) t d.2 in
    let g = bind_ok (atoms_of n e.0.1 text) (last b.0 e.0.0) t e.2 in
    let f = form_is w n names e.0.0 e.0.1 k.table e.1 in
    let names' = g.0.1 in
    let m = atoms_made n e.0.1 text g.0.0 names' f.grows.after g.1 in
    let grown = made_grows e.0.1 names' text g.0.0 f.grows.after m in
    let i = good_grows s names names' (grows_on names e.0.1 names' f.grows grown) k in
    let at = position_range n ps b.0 b.1 in
    let room = room_is s n d.0 d.1 in
    let entry = entry_of_form is_new e.0.0 b.0 g.0.0 width in
    let is : IsEntry names' entry = new_entry e.0.1 w is_new e.0.0 names b.0 g.0.0 width text f.grows.after f names' grown m.stand refl at.0 at.1
    (text_made names' text g.0.0 m.table m.stand a.0) (width_is (drop 2 ps)) in
    let sizes = new_sizes is_new e.0.0 b.0 g.0.0 width s c.0 f.flat k.shallow in
    good_ok (one_box_more entry s, names') t g.2
    (more_good names' entry s i is room sizes)

closing_good : (s : State) (names : Names) (n : ℕ) (ps : List Piece) (t : State × Names) → closing s names n ps ≡ Ok t → IsGood (s, names) → IsGood t
unfolding closing
closing_good s names n ps t h k =
    let text = text_in (drop 2 ps) in
    let width = width_in (drop 2 ps) in
    let last : ℤ × ℤ → List Atom × Names → Reading = λ at x. Ok (one_box_more (page_entry (first_page s.levels) at x.0 width) (closed s), x.1) in
    let with_room : ℤ × ℤ → Reading = λ at. room_of s n >>= (λ _. atoms_of n names text >>= last at) in
    let with_at : ℤ × ℤ → Reading = λ at. refuse_if (nat_lt (length s.levels) 2) (BadRecord n) >>= (λ _. with_room at) in
    let a = allowed (is_much text) (TooLong n) (position_of n ps >>= with_at) t h in
    let b = bind_ok (position_of n ps) with_at t a.1 in
    let c = allowed (nat_lt (length s.levels) 2) (BadRecord n) (with_room b.0) t b.2 in
    let d = bind_ok (room_of s n) (λ _. atoms_of n names text >>= last b.0) t c.1 in
    let e = bind_ok (atoms_of n names text) (last b.0) t d.2 in
    let names' = e.0.1 in
    let m = atoms_made n names text e.0.0 names' k.table e.1 in
    let grown = good_grows s names names' (made_grows names names' text e.0.0 k.table m) k in
    let at = position_range n ps b.0 b.1 in
    let room = room_is s n d.0 d.1 in
    let entry = page_entry (first_page s.levels) b.0 e.0.0 width in
    good_ok (one_box_more entry (closed s), names') t e.2
    (close_good names' s b.0 e.0.0 width grown (at_least (length s.levels) 2 c.0) room.few at.0 at.1 (text_made names' text e.0.0 m.table m.stand a.0) (width_is (drop 2 ps)))

zero_range : IsInRange millionths (pos 0)
zero_range = (omega (arith, ints), omega (arith, ints))

zeros_range : (n : ℕ) → AllByRecursion (IsInRange millionths) (zeros n)
zeros_range zero = tt
zeros_range (suc n) = (zero_range, zeros_range n)

array_good : (s : State) (names : Names) (n : ℕ) (ps : List Piece) (t : State × Names) → array s names n ps ≡ Ok t → IsGood (s, names) → IsGood t
unfolding array
array_good s names n ps t h k =
    let last : ℕ → List Atom × Names → Reading = λ size x. Ok (one_box_more (plain_entry (Array (zeros size)) (pos 0, pos 0) x.0 None) s, x.1) in
    let with_size : ℕ → Reading = λ size. room_of s n >>= (λ _. atoms_of n names ps >>= last size) in
    let a = allowed (is_much ps || is_large (size_in ps)) (TooLong n) (array_size n ps >>= with_size) t h in
    let b = bind_ok (array_size n ps) with_size t a.1 in
    let c = bind_ok (room_of s n) (λ _. atoms_of n names ps >>= last b.0) t b.2 in
    let d = bind_ok (atoms_of n names ps) (last b.0) t c.2 in
    let names' = d.0.1 in
    let m = atoms_made n names ps d.0.0 names' k.table d.1 in
    let grown = good_grows s names names' (made_grows names names' ps d.0.0 k.table m) k in
    let room = room_is s n c.0 c.1 in
    let both = neither (is_much ps) (is_large (size_in ps)) a.0 in
    let entry = plain_entry (Array (zeros b.0)) (pos 0, pos 0) d.0.0 None in
    let is : IsEntry names' entry = record {
      head = record {
        x = zero_range;
        y = zero_range;
        text = text_made names' ps d.0.0 m.table m.stand both.0;
        width = tt;
        tail = tt;
        form = record { text = array_is names' n ps d.0.0 b.0 m.stand both.1 b.1; numbers = zeros_range b.0; x = refl; y = refl; width = refl; tail = tt };
      };
      none = refl;
      frame = empty_frame names';
      boxes = tt;
    } in
    let sizes : IsNew entry (length s.levels) = new_sizes false (Array (zeros b.0)) (pos 0, pos 0) d.0.0 None s refl refl k.shallow in
    good_ok (one_box_more entry s, names') t d.2 (more_good names' entry s grown is room sizes)

-- ---- rows

-- an element with a row
pub record RowIs (names : Names) (e : Entry) (x : Entry × Names) : Type 0 where
  pub grows : Grows names x.1
  pub entry : IsEntry x.1 x.0
  pub takes : TakesAs x.0 e

abbrev entry_pair : Entry × Names → Result (Entry × Names) DocRefusal
entry_pair x = Ok x

entry_is : (x y : Entry × Names) → entry_pair x ≡ entry_pair y → x ≡ y
entry_is x y e = cc

row_form : (names : Names) (r : List Atom) (s : Shape) (x : Head) → (is_array s ≡ true → is_number_row r ≡ false) → FitsForm names s x → FitsForm names s (with_row r x)
row_form names r Obj x f h = h
row_form names r Msg x f h = tt
row_form names r Comment x f h = tt
row_form names r FloatBox x f h = tt
row_form names r SymbolBox x f h = tt
row_form names r Sub x f h = tt
row_form names r (Array vs) x f h =
    record { text = h.text; numbers = h.numbers; x = h.x; y = h.y; width = h.width; tail = rows_more (λ row. is_number_row row ≡ false) x.tail r h.tail (f refl) }
row_form names r (Other s) x f h = h

tail_is : (e : Entry) (names : Names) (n : ℕ) (ps : List Piece) (x : Entry × Names) → IsTable names → (is_array e.head.form ≡ true → NoNumbers (numbers_of ps)) →
    tail_row e names n ps ≡ Ok x → IsEntry names e → RowIs names e x
tail_is e names n ps x table f h k =
    let last : List Atom × Names → Result (Entry × Names) DocRefusal = λ t. Ok (with_head (with_row t.0 e.head) e, t.1) in
    let a = bind_ok (atoms_of n names ps) last x h in
    let names' = a.0.1 in
    let m = atoms_made n names ps a.0.0 names' table a.1 in
    let grown = made_grows names names' ps a.0.0 table m in
    let i = entry_grows names names' grown e k in
    subst (RowIs names e) (entry_is (with_head (with_row a.0.0 e.head) e, names') x a.2) (record {
      grows = grown;
      entry = record {
        head = record {
          x = i.head.x;
          y = i.head.y;
          text = i.head.text;
          width = i.head.width;
          tail = rows_more (AreReady names') e.head.tail a.0.0 i.head.tail (all_ready names' ps a.0.0 m.table m.stand);
          form = row_form names' a.0.0 e.head.form e.head (λ q. no_number_row names' ps a.0.0 m.stand (f q)) i.head.form;
        };
        none = i.none;
        frame = i.frame;
        boxes = i.boxes;
      };
      takes = record { page = refl; depth = refl };
    })

all_append : (a b : List ℤ) → AllByRecursion (IsInRange millionths) a → AllByRecursion (IsInRange millionths) b → AllByRecursion (IsInRange millionths) (a ++ b)
all_append [] b h k = k
all_append (z ∷ a) b h k = (h.0, all_append a b h.1 k)

abbrev AreInRange : List ℤ → Type 0
AreInRange zs = AllByRecursion (IsInRange millionths) zs

overlaid_range : (zs vs : List ℤ) → AreInRange zs → AreInRange vs → AreInRange (overlaid zs vs)
overlaid_range zs vs h k = all_append (take (length vs) zs) (drop (length zs) vs) (all_take (length vs) zs h) (all_drop (length zs) vs k)

overlaid_length : (zs vs : List ℤ) → length (overlaid zs vs) ≡ length vs
overlaid_length zs vs = omega (arith, length-append (take (length vs) zs) (drop (length zs) vs), length-take (length vs) zs, length-drop (length zs) vs)

placed_range : (z : ℤ) (zs vs : List ℤ) → AreInRange zs → AreInRange vs → AreInRange (placed z zs vs)
placed_range (pos m) zs vs h k =
    all_append (take (m / 1000000) vs) (overlaid zs (drop (m / 1000000) vs)) (all_take (m / 1000000) vs k) (overlaid_range zs (drop (m / 1000000) vs) h (all_drop (m / 1000000) vs k))
placed_range (negsuc m) zs vs h k = overlaid_range (drop (suc m / 1000000) zs) vs (all_drop (suc m / 1000000) zs h) k

placed_length : (z : ℤ) (zs vs : List ℤ) → length (placed z zs vs) ≡ length vs
placed_length (pos m) zs vs =
    omega (arith, length-append (take (m / 1000000) vs) (overlaid zs (drop (m / 1000000) vs)), overlaid_length zs (drop (m / 1000000) vs), length-take (m / 1000000) vs, length-drop (m / 1000000) vs)
placed_length (negsuc m) zs vs = overlaid_length (drop (suc m / 1000000) zs) vs

array_keeps : (text : List Atom) (vs ws : List ℤ) → IsArray text vs → is_saved text ≡ true → length ws ≡ length vs → IsArray text ws
array_keeps [] vs ws h s e = h
array_keeps (a ∷ []) vs ws h s e = h
array_keeps (a ∷ b ∷ text) vs ws h s e = (h.0, h.1, h.2, e ∙ h.3, λ f. absurd (let q = sym s ∙ f in cc))

placed_form : (names : Names) (z : ℤ) (zs : List ℤ) (s : Shape) (x : Head) → AreInRange zs → is_saved x.text ≡ true → FitsForm names s x → FitsForm names (placed_in z zs s) (with_form (placed_in z zs s) x)
placed_form names z zs Obj x r e h = h
placed_form names z zs Msg x r e h = tt
placed_form names z zs Comment x r e h = tt
placed_form names z zs FloatBox x r e h = tt
placed_form names z zs SymbolBox x r e h = tt
placed_form names z zs Sub x r e h = tt
placed_form names z zs (Array vs) x r e h = record {
  text = array_keeps x.text vs (placed z zs vs) h.text e (placed_length z zs vs);
  numbers = placed_range z zs vs r h.numbers;
  x = h.x;
  y = h.y;
  width = h.width;
  tail = h.tail;
}
placed_form names z zs (Other s) x r e h = h

placed_none : (z : ℤ) (zs : List ℤ) (s : Shape) (p : Page) → HoldsNone s p → HoldsNone (placed_in z zs s) p
placed_none z zs Obj p h = h
placed_none z zs Msg p h = h
placed_none z zs Comment p h = h
placed_none z zs FloatBox p h = h
placed_none z zs SymbolBox p h = h
placed_none z zs Sub p h = h
placed_none z zs (Array vs) p h = h
placed_none z zs (Other s) p h = h

placed_levels : (z : ℤ) (zs : List ℤ) (s : Shape) (n : ℕ) → levels_of (placed_in z zs s) n ≡ levels_of s n
placed_levels z zs Obj n = refl
placed_levels z zs Msg n = refl
placed_levels z zs Comment n = refl
placed_levels z zs FloatBox n = refl
placed_levels z zs SymbolBox n = refl
placed_levels z zs Sub n = refl
placed_levels z zs (Array vs) n = refl
placed_levels z zs (Other s) n = refl

values_are : (names : Names) (z : ℤ) (zs : List ℤ) (e : Entry) → IsTable names → AreInRange zs → IsEntry names e → RowIs names e (with_head (with_values z zs e.head) e, names)
values_are names z zs e table r k =
    by_test (is_saved e.head.text)
    (λ q. rw q (record {
      grows = grows_same names table;
      entry = record {
        head = record { x = k.head.x; y = k.head.y; text = k.head.text; width = k.head.width; tail = k.head.tail; form = placed_form names z zs e.head.form e.head r q k.head.form };
        none = placed_none z zs e.head.form e.page k.none;
        frame = k.frame;
        boxes = k.boxes;
      };
      takes = record { page = refl; depth = placed_levels z zs e.head.form (levels e.page.boxes) };
    }))
    (λ q. rw q (record { grows = grows_same names table; entry = k; takes = record { page = refl; depth = refl } }))

-- the values of a row are its numbers
values_some : (form : Shape) (ps : List Piece) (zs : List ℤ) → values_of form ps ≡ Some zs → numbers_of ps ≡ Some zs
values_some form ps zs h = by_test (is_array form) (λ e. rw e at h) (λ e. absurd (let q = rw e at h in cc))

values_array : (form : Shape) (ps : List Piece) (o : Option (List ℤ)) → values_of form ps ≡ o → NoNumbers o → is_array form ≡ true → NoNumbers (numbers_of ps)
values_array form ps o h k e = let q : numbers_of ps ≡ o = rw e at h in subst NoNumbers (sym q) k

row_with_is : (o : Option (List ℤ)) (e : Entry) (names : Names) (n : ℕ) (ps : List Piece) (x : Entry × Names) → IsTable names → values_of e.head.form ps ≡ o →
    row_with o e names n ps ≡ Ok x → IsEntry names e → RowIs names e x
row_with_is None e names n ps x table v h k = tail_is e names n ps x table (values_array e.head.form ps None v tt) h k
row_with_is (Some []) e names n ps x table v h k = tail_is e names n ps x table (values_array e.head.form ps (Some []) v tt) h k
row_with_is (Some (z ∷ zs)) e names n ps x table v h k =
    subst (RowIs names e) (entry_is (with_head (with_values z zs e.head) e, names) x h)
    (values_are names z zs e table (numbers_range ps (z ∷ zs) (values_some e.head.form ps (z ∷ zs) v)).1 k)

row_is : (e : Entry) (names : Names) (n : ℕ) (ps : List Piece) (x : Entry × Names) → IsTable names → row_of e names n ps ≡ Ok x → IsEntry names e → RowIs names e x
unfolding row_of
row_is e names n ps x table h k = row_with_is (values_of e.head.form ps) e names n ps x table refl h k

first_last : (names : Names) (ls : List Level) (e f : Entry) → AreLevels names ls → last_of (first_boxes ls) ≡ Some f → IsEntry names e → TakesAs e f →
    OfFirst (Keeps names (λ l. with_boxes (in_last e l.boxes) l)) ls
first_last names [] e f a h i t = tt
first_last names (l ∷ ls) e f a h i t = keeps_last names e f l a.0 h i t

first_entries : (names : Names) (ls : List Level) → AreLevels names ls → AllByRecursion (IsEntry names) (first_boxes ls)
first_entries names [] h = tt
first_entries names (l ∷ ls) h = h.0.entries

row_behind_good : (o : Option Entry) (s : State) (names : Names) (n : ℕ) (ps : List Piece) (t : State × Names) → last_of (first_boxes s.levels) ≡ o →
    row_behind o s names n ps ≡ Ok t → IsGood (s, names) → IsGood t
row_behind_good None s names n ps t q h k = absurd (cc)
row_behind_good (Some e) s names n ps t q h k =
    let last : Entry × Names → Reading = λ r. Ok (with_last r.0 s, r.1) in
    let a = bind_ok (row_of e names n ps) last t h in
    let i : IsEntry names e = last_entry (IsEntry names) (first_boxes s.levels) e (first_entries names s.levels k.levels) q in
    let r = row_is e names n ps a.0 k.table a.1 i in
    let names' = a.0.1 in
    let grown = good_grows s names names' r.grows k in
    good_ok (with_last a.0.0 s, names') t a.2
    (change_good names' (λ l. with_boxes (in_last a.0.0 l.boxes) l) s grown (first_last names' s.levels a.0.0 e grown.levels q r.entry r.takes))

row_good : (s : State) (names : Names) (n : ℕ) (ps : List Piece) (t : State × Names) → row s names n ps ≡ Ok t → IsGood (s, names) → IsGood t
unfolding row
row_good s names n ps t h k = row_behind_good (last_of (first_boxes s.levels)) s names n ps t refl h k

-- ---- any record, and all of them

kind_good : (x : Kind) (s : State) (names : Names) (n : ℕ) (ps : List Piece) (t : State × Names) → kind_of ps ≡ x → by_kind x s names n ps ≡ Ok t → IsGood (s, names) → IsGood t
kind_good kind.Canvas s names n ps t q h k = opening_good s names n (drop 2 ps) t h k
kind_good kind.Structure s names n ps t q h k = absurd (cc)
kind_good kind.Restore s names n ps t q h k = closing_good s names n (drop 2 ps) t h k
kind_good (kind.Plain w) s names n ps t q h k = element_good w s names n (drop 2 ps) t h k
kind_good kind.Array s names n ps t q h k = array_good s names n (drop 2 ps) t h k
kind_good kind.Connect s names n ps t q h k = connect_good s names n (drop 2 ps) t h k
kind_good kind.Coords s names n ps t q h k =
    kept_good with_coords s names n (drop 2 ps) t (λ names' r l table stand m i. coords_keeps names' r l (text_made names' (drop 2 ps) r table stand m) i) h k
kind_good kind.Kept s names n ps t q h k =
    kept_good with_kept s names n (drop 1 ps) t (λ names' r l table stand m i. kept_keeps names' r l (kept_made names' (drop 1 ps) r table stand m (kind_kept ps q)) i) h k
kind_good kind.Row s names n ps t q h k = row_good s names n (drop 1 ps) t h k
kind_good kind.Other s names n ps t q h k = absurd (cc)

any_good : (s : State × Names) (n : ℕ) (ps : List Piece) (t : State × Names) → any_record s n ps ≡ Ok t → IsGood s → IsGood t
any_good s n [] t h k = good_ok s t h k
any_good s n (p ∷ ps) t h k =
    kind_good (kind_of (p ∷ ps)) s.0 s.1 n (p ∷ ps) t refl
    (past (list_any is_long (p ∷ ps)) (TooLong n) (by_kind (kind_of (p ∷ ps)) s.0 s.1 n (p ∷ ps)) t h) k

run_good : (s : State × Names) (n : ℕ) (rs : List (List Piece)) (t : State × Names) → run s n rs ≡ Ok t → IsGood s → IsGood t
run_good s n [] t h k = good_ok s t (sym (run-end s n) ∙ h) k
run_good s n (r ∷ rs) t h k =
    let a = bind_ok (any_record s (n + 1) r) (λ u. run u (n + 1) rs) t (sym (run-record s n r rs) ∙ h) in
    run_good a.0 (n + 1) rs t a.2 (any_good s (n + 1) r a.0 a.1 k)

level_proper : (names : Names) (l : Level) (k w : ℕ) → IsGood (record { levels = l ∷ []; elements = k; wires = w }, names) → IsProper names (page_of_level l)
level_proper names l k w g = record {
  sound = level_sound names l g.levels.0;
  limits = record {
    boxes = omega (arith, g.elements, g.few);
    wires = omega (arith, g.wires, g.few_wires, level_wires l);
    levels = omega (arith, g.shallow.0);
  };
}

root_good : (names : Names) (ls : List Level) (k w : ℕ) (p : Page) → root_of ls ≡ Ok p → IsGood (record { levels = ls; elements = k; wires = w }, names) → IsProper names p
root_good names [] k w p h g = absurd (cc)
root_good names (l ∷ []) k w p h g = subst (IsProper names) (ok_is (page_of_level l) p h) (level_proper names l k w g)
root_good names (l ∷ m ∷ ls) k w p h g = absurd (cc)

-- what a document that is read is, and the table after it
pub record ReadIs (names : Names) (p : Page) : Type 0 where
  pub table : IsTable names
  pub proper : IsProper names p

pub read_is : (names names' : Names) (p : Page) (text : List ℕ) → IsTable names → document_of names text ≡ Ok (p, names') → ReadIs names' p
unfolding document_of
read_is names names' p text table h =
    let n = length (records text) in
    let blank = list_all is_space (rest_of text) in
    let last : State × Names → Result (Page × Names) DocRefusal = λ s. root_at n blank s.0.levels >>= (λ page. Ok (page, s.1)) in
    let a = bind_ok (run (start, names) 0 (records text)) last (p, names') h in
    let begun : IsGood (start, names) = record { table = table; levels = tt; elements = refl; wires = refl; few = omega arith; few_wires = omega arith; shallow = tt } in
    let k = run_good (start, names) 0 (records text) a.0 a.1 begun in
    let b = bind_ok (root_at n blank a.0.0.levels) (λ page. Ok (page, a.0.1)) (p, names') a.2 in
    let c = past (not blank) (BadRecord (n + 1)) (root_of a.0.0.levels) b.0 b.1 in
    let made : Page × Names = (b.0, a.0.1) in
    subst (λ (q : Page × Names). ReadIs q.1 q.0) (ok_is made (p, names') b.2)
    (record { table = k.table; proper = root_good a.0.1 a.0.0.levels a.0.0.elements a.0.0.wires b.0 c k })

-- the same of what a call answers
pub answer_proper : (names : Names) (text : List ℕ) (names' : Names) → IsTable names → (r : Result Doc DocRefusal) →
    Answers (λ d. (d.root, names')) r (document_of names text) → IfOk r (λ d. IsProper names' d.root)
answer_proper names text names' t (Ok d) h = (read_is names names' d.root text t h).proper
answer_proper names text names' t (Err e) h = tt
