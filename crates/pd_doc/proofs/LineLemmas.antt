-- Lines of text.
use Rattle.std.proofs.Common.{◌≡◌, ℕ, zero, suc, ◌+◌, ◌*◌, ◌-◌, ◌/◌, ◌<◌, ◌≤◌, List, [], ◌∷◌, ◌++◌, length, map, take, drop, refl, sym, ap, ◌∙◌, arith, append_assoc, length-drop, min, leb}
use Rattle.std.proofs.lemmas.Bool.Decides.{nat_tests}
use Rattle.std.specs.Prelude.{ℤ, codes, if◌then◌else◌, Bool, true, false}
use Rattle.pd_atom.specs.Names.{Names}
use Rattle.pd_atom.specs.declared.Atom.{Atom}
use Rattle.pd_canvas.specs.declared.wires.Wire.{Wire}
use Rattle.pd_canvas.specs.Arrays.{is_saved}
use Rattle.pd_canvas.specs.Pages.{Shape, Obj, Msg, Comment, FloatBox, SymbolBox, Sub, Array, Other, Head, Frame, Boxes, End, Box, Page, frame_of}
use Rattle.pd_doc.specs.Lines.{rows_text, wires_text, run_text, runs_text, values_text, element_text, own_text, frame_text, boxes_text, page_text}
use Rattle.pd_doc.proofs.PieceLemmas.{by_test}
use Rattle.std.proofs.lemmas.List.{append-nil, take_all, drop-drop}
use Rattle.pd_lex.specs.Text.{Piece}
use Rattle.pd_lex.specs.Text.Piece.{Word, Comma}
use Rattle.pd_doc.specs.Writing.{spaced, atom_pieces, kept_row, tail_row, coords_row, connect_row, array_row, opening_row, element_row, width_pieces, runs, value_rows, box_rows, frame_rows, boxes_rows, line_of, lines_of, text_of}
use denote.Param.Weighed.{most}
use Rattle.pd_canvas.specs.declared.tree.Element.{Element}
use Rattle.pd_canvas.specs.declared.tree.Canvas.TheDeep.{size-Element}
use Rattle.pd_canvas.specs.Pages.{weight, boxed}
use Rattle.pd_canvas.specs.Views.{entries_of}
use Rattle.pd_canvas.specs.Falls.{form_falls}

pub spaced-append : (a b : List Piece) → spaced (a ++ b) ≡ spaced a ++ spaced b
spaced-append [] b = refl
spaced-append (Word w ∷ a) b = ap (λ l. 32 ∷ l) (ap (λ l. w ++ l) (spaced-append a b) ∙ sym (append_assoc w (spaced a) (spaced b)))
spaced-append (Comma ∷ a) b = ap (λ l. 44 ∷ l) (spaced-append a b)

-- how many runs of 1,000 are left behind the first
pub runs_fall : (n : ℕ) → 0 < n → (n + 999) / 1000 ≡ suc ((n - 1000 + 999) / 1000)
runs_fall n h = omega arith

-- the sizes by which the recursion over the boxes of a canvas is seen to end
pub sizes_fall : (es : List Element) → most (λ e. size-Element e) es ≤ 4 * weight (boxed (entries_of es)) + 2
sizes_fall [] = omega arith
sizes_fall (e ∷ es) = omega (arith, form_falls e.form, sizes_fall es)

-- ---- the values of an array

by_order : {P : Type 0} (a b : ℕ) → (a ≤ b → P) → (b < a → P) → P
by_order a b f g = by_test (leb a b) (λ e. f (grind (arith, nat_tests))) (λ e. g (grind (arith, nat_tests)))

full_step : (names : Names) (from e : ℕ) (vs : List ℤ) → from < length vs → e ≡ from + 1000 → e ≤ length vs →
    runs_text names ((length vs - from + 999) / 1000) from (drop from vs)
    ≡ run_text names from (take (e - from) (drop from vs)) ++ runs_text names ((length vs - e + 999) / 1000) e (drop e vs)
full_step names from e vs h i j =
    let k : (length vs - from + 999) / 1000 ≡ suc ((length vs - from - 1000 + 999) / 1000) = runs_fall (length vs - from) (omega arith) in
    let a : e - from ≡ 1000 = omega arith in
    let b : length vs - from - 1000 ≡ length vs - e = omega arith in
    let c : drop 1000 (drop from vs) ≡ drop e vs = drop-drop 1000 from vs ∙ ap (λ n. drop n vs) (omega arith) in
    ap (λ n. runs_text names n from (drop from vs)) k
    ∙ ap (λ n. run_text names from (take n (drop from vs)) ++ runs_text names ((length vs - from - 1000 + 999) / 1000) (from + 1000) (drop 1000 (drop from vs))) (sym a)
    ∙ ap (λ n. run_text names from (take (e - from) (drop from vs)) ++ runs_text names ((n + 999) / 1000) (from + 1000) (drop 1000 (drop from vs))) b
    ∙ ap (λ l. run_text names from (take (e - from) (drop from vs)) ++ runs_text names ((length vs - e + 999) / 1000) (from + 1000) l) c
    ∙ ap (λ n. run_text names from (take (e - from) (drop from vs)) ++ runs_text names ((length vs - e + 999) / 1000) n (drop e vs)) (sym i)

none_left : (names : Names) (n from : ℕ) (vs : List ℤ) → n ≡ 0 → runs_text names n from vs ≡ []
none_left names n from vs h = ap (λ k. runs_text names k from vs) h

short_step : (names : Names) (from e : ℕ) (vs : List ℤ) → from < length vs → e ≡ length vs → length vs < from + 1000 →
    runs_text names ((length vs - from + 999) / 1000) from (drop from vs)
    ≡ run_text names from (take (e - from) (drop from vs)) ++ runs_text names ((length vs - e + 999) / 1000) e (drop e vs)
short_step names from e vs h i j =
    let k : (length vs - from + 999) / 1000 ≡ suc zero = omega arith in
    let a : take 1000 (drop from vs) ≡ drop from vs = take_all 1000 (drop from vs) (omega (arith, length-drop from vs)) in
    let b : take (e - from) (drop from vs) ≡ drop from vs = take_all (e - from) (drop from vs) (omega (arith, length-drop from vs)) in
    let c : (length vs - e + 999) / 1000 ≡ 0 = omega arith in
    ap (λ n. runs_text names n from (drop from vs)) k
    ∙ ap (λ l. run_text names from l ++ []) (a ∙ sym b)
    ∙ ap (λ l. run_text names from (take (e - from) (drop from vs)) ++ l) (sym (none_left names ((length vs - e + 999) / 1000) e (drop e vs) c))

pub run_step : (names : Names) (from e : ℕ) (vs : List ℤ) → from < length vs → e ≡ min (from + 1000) (length vs) →
    runs_text names ((length vs - from + 999) / 1000) from (drop from vs)
    ≡ run_text names from (take (e - from) (drop from vs)) ++ runs_text names ((length vs - e + 999) / 1000) e (drop e vs)
run_step names from e vs h i =
    by_order (from + 1000) (length vs)
    (λ l. full_step names from e vs h (omega arith) (omega arith))
    (λ l. short_step names from e vs h (omega arith) l)

-- ---- rows as lines

lines-append : (a b : List (List Piece)) → lines_of (a ++ b) ≡ lines_of a ++ lines_of b
unfolding lines_of
lines-append [] b = refl
lines-append (r ∷ a) b = ap (λ l. line_of r ++ l) (lines-append a b) ∙ sym (append_assoc (line_of r) (lines_of a) (lines_of b))

one_line : (r : List Piece) (rs : List (List Piece)) → lines_of (r ∷ rs) ≡ line_of r ++ lines_of rs
unfolding lines_of
one_line r rs = refl

no_line : lines_of [] ≡ []
unfolding lines_of
no_line = refl

kept_lines : (names : Names) (rows : List (List Atom)) → lines_of (map (kept_row names) rows) ≡ rows_text names (codes "#X") rows
unfolding lines_of
kept_lines names [] = refl
kept_lines names (r ∷ rows) = ap (λ l. line_of (kept_row names r) ++ l) (kept_lines names rows)

tail_lines : (names : Names) (rows : List (List Atom)) → lines_of (map (tail_row names) rows) ≡ rows_text names (codes "#A") rows
unfolding lines_of
tail_lines names [] = refl
tail_lines names (r ∷ rows) = ap (λ l. line_of (tail_row names r) ++ l) (tail_lines names rows)

coords_lines : (names : Names) (rows : List (List Atom)) → lines_of (map (coords_row names) rows) ≡ rows_text names (codes "#X coords") rows
unfolding lines_of
coords_lines names [] = refl
coords_lines names (r ∷ rows) = ap (λ l. line_of (coords_row names r) ++ l) (coords_lines names rows)

wire_lines : (names : Names) (ws : List Wire) → lines_of (map (connect_row names) ws) ≡ wires_text names ws
unfolding lines_of
wire_lines names [] = refl
wire_lines names (w ∷ ws) = ap (λ l. line_of (connect_row names w) ++ l) (wire_lines names ws)

run_lines : (names : Names) (k from : ℕ) (vs : List ℤ) → lines_of (runs names k from vs) ≡ runs_text names k from vs
unfolding lines_of
run_lines names zero from vs = refl
run_lines names (suc k) from vs = ap (λ l. run_text names from (take 1000 vs) ++ l) (run_lines names k (from + 1000) (drop 1000 vs))

element_line : (names : Names) (h : Head) → line_of (element_row names h) ≡ element_text names h
element_line names h =
    let e = spaced-append (atom_pieces names h.text) (width_pieces names h.width) in
    simp (e, append_assoc, append-nil) refl

one_element : (names : Names) (h : Head) → lines_of (element_row names h ∷ []) ≡ element_text names h
one_element names h =
    one_line (element_row names h) [] ∙ ap (λ l. line_of (element_row names h) ++ l) no_line ∙ append-nil (line_of (element_row names h)) ∙ element_line names h

value_lines : (names : Names) (b : Bool) (vs : List ℤ) → lines_of (if b then value_rows names vs else []) ≡ (if b then values_text names vs else [])
value_lines names true vs = run_lines names ((length vs + 999) / 1000) 0 vs
value_lines names false vs = no_line

own_lines : (names : Names) (inner : List (List Piece)) (text : List ℕ) (h : Head) (s : Shape) → lines_of inner ≡ text →
    lines_of (box_rows names inner h s) ≡ own_text names h text s
own_lines names inner text h Sub e =
    lines-append inner (element_row names h ∷ []) ∙ ap (λ l. l ++ lines_of (element_row names h ∷ [])) e ∙ ap (λ l. text ++ l) (one_element names h)
own_lines names inner text h (Array vs) e =
    one_line (array_row names h.text) (if is_saved h.text then value_rows names vs else [])
    ∙ ap (λ l. line_of (array_row names h.text) ++ l) (value_lines names (is_saved h.text) vs)
own_lines names inner text h Obj e = one_element names h
own_lines names inner text h Msg e = one_element names h
own_lines names inner text h Comment e = one_element names h
own_lines names inner text h FloatBox e = one_element names h
own_lines names inner text h SymbolBox e = one_element names h
own_lines names inner text h (Other s) e = one_element names h

frame_lines : (names : Names) (f : Frame) (boxes : List (List Piece)) (text : List ℕ) → lines_of boxes ≡ text → lines_of (frame_rows names f boxes) ≡ frame_text names f text
frame_lines names f boxes text e =
    let kept = map (kept_row names) f.kept in
    let wires = map (connect_row names) f.wires in
    let coords = map (coords_row names) f.coords in
    let last : lines_of (wires ++ coords) ≡ wires_text names f.wires ++ rows_text names (codes "#X coords") f.coords =
    lines-append wires coords ∙ ap (λ l. l ++ lines_of coords) (wire_lines names f.wires) ∙ ap (λ l. wires_text names f.wires ++ l) (coords_lines names f.coords) in
    let middle : lines_of (boxes ++ (wires ++ coords)) ≡ text ++ (wires_text names f.wires ++ rows_text names (codes "#X coords") f.coords) =
    lines-append boxes (wires ++ coords) ∙ ap (λ l. l ++ lines_of (wires ++ coords)) e ∙ ap (λ l. text ++ l) last in
    one_line (opening_row names f.header) (kept ++ (boxes ++ (wires ++ coords)))
    ∙ ap (λ l. line_of (opening_row names f.header) ++ l)
    (lines-append kept (boxes ++ (wires ++ coords)) ∙ ap (λ l. l ++ lines_of (boxes ++ (wires ++ coords))) (kept_lines names f.kept)
    ∙ ap (λ l. rows_text names (codes "#X") f.kept ++ l) middle)

boxes_lines : (names : Names) (b : Boxes) → lines_of (boxes_rows names b) ≡ boxes_text names b
boxes_lines names End = no_line
boxes_lines names (Box h f inner rest) =
    let rows = frame_rows names f (boxes_rows names inner) in
    let text = frame_text names f (boxes_text names inner) in
    let own = own_lines names rows text h h.form (frame_lines names f (boxes_rows names inner) (boxes_text names inner) (boxes_lines names inner)) in
    let tails = map (tail_row names) h.tail in
    lines-append (box_rows names rows h h.form) (tails ++ boxes_rows names rest)
    ∙ ap (λ l. l ++ lines_of (tails ++ boxes_rows names rest)) own
    ∙ ap (λ l. own_text names h text h.form ++ l)
    (lines-append tails (boxes_rows names rest) ∙ ap (λ l. l ++ lines_of (boxes_rows names rest)) (tail_lines names h.tail)
    ∙ ap (λ l. rows_text names (codes "#A") h.tail ++ l) (boxes_lines names rest))

-- the text of a document, as it is written
pub page_lines : (names : Names) (p : Page) → text_of names p ≡ page_text names p
page_lines names p = frame_lines names (frame_of p) (boxes_rows names p.boxes) (boxes_text names p.boxes) (boxes_lines names p.boxes)
