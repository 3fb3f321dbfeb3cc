-- What one record does: one function for each kind of record. A refusal has the record's number n.
use Rattle.std.specs.Prelude.{ℕ, ℤ, pos, Bool, true, false, ◌&&◌, ◌||◌, List, [], ◌∷◌, length, drop, replicate, Option, Some, None, Result, Ok, Err, ok_or, if◌then◌else◌, nat_lt, nat_le, codes, ◌==◌}
use Rattle.std.specs.List.{list_any}
use Rattle.pd_lex.specs.Text.{Piece}
use Rattle.pd_atom.specs.Names.{Names, interned}
use Rattle.pd_atom.specs.declared.Atom.{Atom}
use Rattle.pd_canvas.specs.Pages.{Shape, Obj, Msg, Comment, FloatBox, SymbolBox, Sub, Array, Other, Page, Entry, empty_page, page_with_header}
use Rattle.pd_canvas.specs.Edits.{new_header}
use Rattle.pd_doc.specs.declared.refusal.DocRefusal.{DocRefusal}
use Rattle.pd_doc.specs.declared.refusal.DocRefusal.TheVariants.{BadRecord, DataStructure, TooDeep, TooLong, TooManyBoxes, TooManyWires}
use Rattle.pd_doc.specs.declared.kinds.Kind.{Kind}
use Rattle.pd_doc.specs.declared.kinds.Kind.TheVariants as kind
use Rattle.pd_doc.specs.declared.kinds.BoxWord.{BoxWord}
use Rattle.pd_doc.specs.declared.kinds.BoxWord.TheVariants as word
use Rattle.pd_doc.specs.Pieces.{is_long, starts_with, numbers_of, width_in, text_in}
use Rattle.pd_doc.specs.Results.{◌>>=◌, refuse_if, outcome_in}
use Rattle.pd_doc.specs.Kinds.{kind_of}
use Rattle.pd_doc.specs.Fields.{atoms_of, position_of, size_in, array_size, wire_of}
use Rattle.pd_doc.specs.States.{Level, State, new_level, opened, closed, changed, first_page, first_boxes, with_kept, with_coords, one_box_more, one_wire_more, last_of, with_last, with_head, with_row, with_values, is_array}

-- the canvases and the names after a record, or its refusal
abbrev pub Reading : Type 0
Reading = Result (State × Names) DocRefusal

-- more atoms than a text may have
abbrev pub is_much : List Piece → Bool
is_much ps = nat_lt 1024 (length ps)

abbrev pub is_none_open : State → Bool
is_none_open s = length s.levels == 0

-- one canvas more would be too deep
abbrev pub is_deep : State → Bool
is_deep s = nat_le 256 (length s.levels)

-- there is a canvas for one element more
abbrev pub room_of : State → ℕ → Result (Unit {0}) DocRefusal
room_of s n = refuse_if (is_none_open s) (BadRecord n) >>= (λ _. refuse_if (nat_le 16384 s.elements) (TooManyBoxes n))

abbrev pub plain_entry : Shape → ℤ × ℤ → List Atom → Option ℤ → Entry
plain_entry form at text width = record {
  head = record { x = at.0; y = at.1; form = form; text = text; width = width; tail = [] };
  page = empty_page;
}

abbrev pub page_entry : Page → ℤ × ℤ → List Atom → Option ℤ → Entry
page_entry page at text width = record {
  head = record { x = at.0; y = at.1; form = Sub; text = text; width = width; tail = [] };
  page = page;
}

-- the text of an object that is a new canvas
abbrev pub makes_canvas : BoxWord → List Piece → Bool
makes_canvas word.Obj text = starts_with (codes "pd") text
makes_canvas word.Msg text = false
makes_canvas word.Text text = false
makes_canvas word.FloatAtom text = false
makes_canvas word.SymbolAtom text = false
makes_canvas word.ListBox text = false

-- the form of an element by its word; that of a `listbox` holds the word's number in the table, which comes before the text's names
unfoldable pub form_of : BoxWord → ℕ → Names → Result (Shape × Names) DocRefusal
form_of word.Obj n names = Ok (Obj, names)
form_of word.Msg n names = Ok (Msg, names)
form_of word.Text n names = Ok (Comment, names)
form_of word.FloatAtom n names = Ok (FloatBox, names)
form_of word.SymbolAtom n names = Ok (SymbolBox, names)
form_of word.ListBox n names = outcome_in n (interned names (codes "listbox")) >>= (λ s. Ok (Other s.0, s.1))

abbrev pub entry_of_form : Bool → Shape → ℤ × ℤ → List Atom → Option ℤ → Entry
entry_of_form true form at text width = page_entry (page_with_header (new_header text)) at text width
entry_of_form false form at text width = plain_entry form at text width

-- `#N canvas` and a header
unfoldable pub opening : State → Names → ℕ → List Piece → Reading
opening s names n header =
    refuse_if (is_much header) (TooLong n) >>= (λ _.
    refuse_if (is_deep s) (TooDeep n) >>= (λ _.
    atoms_of n names header >>= (λ h.
    Ok (opened (new_level n h.0) s, h.1))))

-- `#X`, the word of an element, a position, and a text with or without a width
unfoldable pub element : BoxWord → State → Names → ℕ → List Piece → Reading
element w s names n ps =
    let text = text_in (drop 2 ps) in
    let is_new = makes_canvas w text in
    refuse_if (is_much text) (TooLong n) >>= (λ _.
    position_of n ps >>= (λ at.
    refuse_if (is_new && is_deep s) (TooDeep n) >>= (λ _.
    room_of s n >>= (λ _.
    form_of w n names >>= (λ form.
    atoms_of n form.1 text >>= (λ t.
    Ok (one_box_more (entry_of_form is_new form.0 at t.0 (width_in (drop 2 ps))) s, t.1)))))))

-- `#X restore`, a position, and a text with or without a width
unfoldable pub closing : State → Names → ℕ → List Piece → Reading
closing s names n ps =
    let text = text_in (drop 2 ps) in
    refuse_if (is_much text) (TooLong n) >>= (λ _.
    position_of n ps >>= (λ at.
    refuse_if (nat_lt (length s.levels) 2) (BadRecord n) >>= (λ _.
    room_of s n >>= (λ _.
    atoms_of n names text >>= (λ t.
    Ok (one_box_more (page_entry (first_page s.levels) at t.0 (width_in (drop 2 ps))) (closed s), t.1))))))

-- no size, or one that an array may have
abbrev pub is_large : Option ℕ → Bool
is_large None = false
is_large (Some k) = nat_lt 16777216 k

abbrev pub zeros : ℕ → List ℤ
zeros k = replicate k (pos 0)

-- `#X array` and a text
unfoldable pub array : State → Names → ℕ → List Piece → Reading
array s names n text =
    refuse_if (is_much text || is_large (size_in text)) (TooLong n) >>= (λ _.
    array_size n text >>= (λ size.
    room_of s n >>= (λ _.
    atoms_of n names text >>= (λ t.
    Ok (one_box_more (plain_entry (Array (zeros size)) (pos 0, pos 0) t.0 None) s, t.1)))))

-- `#X connect` and four numbers
unfoldable pub connect : State → Names → ℕ → List Piece → Reading
connect s names n ps =
    ok_or (wire_of ps) (BadRecord n) >>= (λ w.
    refuse_if (is_none_open s) (BadRecord n) >>= (λ _.
    refuse_if (nat_le 65536 s.wires) (TooManyWires n) >>= (λ _.
    Ok (one_wire_more w s, names))))

-- `#X coords` and atoms, and a kept record, which is all of `#X` with a word that has no other meaning
unfoldable pub kept : (List Atom → Level → Level) → State → Names → ℕ → List Piece → Reading
kept with_atoms s names n ps =
    refuse_if (is_much ps) (TooLong n) >>= (λ _.
    refuse_if (is_none_open s) (BadRecord n) >>= (λ _.
    atoms_of n names ps >>= (λ t.
    Ok (changed (with_atoms t.0) s, t.1))))

-- the numbers of a row behind an array, where it is made of one or more numbers alone
abbrev pub values_of : Shape → List Piece → Option (List ℤ)
values_of form ps = if is_array form then numbers_of ps else None

-- the element with a row kept as it stands
abbrev pub tail_row : Entry → Names → ℕ → List Piece → Result (Entry × Names) DocRefusal
tail_row e names n ps = atoms_of n names ps >>= (λ t. Ok (with_head (with_row t.0 e.head) e, t.1))

abbrev pub row_with : Option (List ℤ) → Entry → Names → ℕ → List Piece → Result (Entry × Names) DocRefusal
row_with None e names n ps = tail_row e names n ps
row_with (Some []) e names n ps = tail_row e names n ps
row_with (Some (z ∷ zs)) e names n ps = Ok (with_head (with_values z zs e.head) e, names)

-- The element with a row behind it: values for an array, where it is made of one or more numbers alone; else it is kept as it stands.
unfoldable pub row_of : Entry → Names → ℕ → List Piece → Result (Entry × Names) DocRefusal
row_of e names n ps = row_with (values_of e.head.form ps) e names n ps

abbrev pub row_behind : Option Entry → State → Names → ℕ → List Piece → Reading
row_behind None s names n ps = Err (BadRecord n)
row_behind (Some e) s names n ps = row_of e names n ps >>= (λ r. Ok (with_last r.0 s, r.1))

-- `#A` and a row
unfoldable pub row : State → Names → ℕ → List Piece → Reading
row s names n ps = row_behind (last_of (first_boxes s.levels)) s names n ps

abbrev pub by_kind : Kind → State → Names → ℕ → List Piece → Reading
by_kind kind.Canvas s names n ps = opening s names n (drop 2 ps)
by_kind kind.Structure s names n ps = Err (DataStructure n)
by_kind kind.Restore s names n ps = closing s names n (drop 2 ps)
by_kind (kind.Plain w) s names n ps = element w s names n (drop 2 ps)
by_kind kind.Array s names n ps = array s names n (drop 2 ps)
by_kind kind.Connect s names n ps = connect s names n (drop 2 ps)
by_kind kind.Coords s names n ps = kept with_coords s names n (drop 2 ps)
by_kind kind.Kept s names n ps = kept with_kept s names n (drop 1 ps)
by_kind kind.Row s names n ps = row s names n (drop 1 ps)
by_kind kind.Other s names n ps = Err (BadRecord n)

-- a record that isn't empty
abbrev pub record_of : State → Names → ℕ → List Piece → Reading
record_of s names n ps = refuse_if (list_any is_long ps) (TooLong n) >>= (λ _. by_kind (kind_of ps) s names n ps)
