-- A proper document is read from its text.
use Rattle.std.proofs.Common.{◌≡◌, ℕ, zero, suc, ◌+◌, ◌/◌, ◌<◌, ◌≤◌, Bool, true, false, List, [], ◌∷◌, ◌++◌, length, map, take, drop, refl, sym, ap, ◌∙◌, subst, arith, Option, Some, None, Ok, append_assoc}
use Rattle.std.specs.Prelude.{ℤ, codes, if◌then◌else◌}
use Rattle.std.specs.List.{AllByRecursion, list_all}
use Rattle.std.proofs.lemmas.List.{append-nil}
use Rattle.pd_lex.specs.Text.{Piece, IsPiece, AreSpaces, escaped, is_space, is_special}
use Rattle.pd_lex.specs.Text.Piece.{Word}
use Rattle.pd_lex.specs.Reading.{records, rest_of}
use Rattle.pd_num.specs.Scale.{millionths, IsInRange}
use Rattle.pd_atom.specs.Names.{Names}
use Rattle.pd_atom.specs.Atoms.{IsOf, HoldsNumber, spelled}
use Rattle.pd_atom.specs.declared.Atom.{Atom}
use Rattle.pd_atom.specs.declared.Atom.TheVariants.{Number}
use Rattle.pd_canvas.specs.declared.wires.Wire.{Wire}
use Rattle.pd_canvas.specs.Pages.{Shape, Obj, Msg, Comment, FloatBox, SymbolBox, Sub, Array, Other, Head, Frame, Boxes, End, Box, Page, Entry, empty_page, page_of, frame_of, listed, weight}
use Rattle.pd_canvas.specs.Arrays.{is_saved}
use Rattle.pd_canvas.specs.Proper.{AreReady, IsText, IsKept, IsWidth, IsFrame, IsHead, FitsForm, HoldsNone, AreBoxes, IsSound, IsProper, levels, levels_of, inner_wires}
use Rattle.pd_doc.specs.Results.{◌>>=◌}
use Rattle.pd_doc.specs.States.{Level, State, start, new_level, opened, page_of_level, with_boxes, is_array}
use Rattle.pd_doc.specs.Reading.{run, root_at, document_of}
use Rattle.pd_doc.specs.Writing.{atom_piece, atom_pieces, width_pieces, word_of, element_row, array_row, tail_row as tail_line, kept_row, connect_row, coords_row, opening_row, frame_rows, boxes_rows, box_rows, page_rows, value_rows, runs, whole, text_of}
use Rattle.pd_doc.proofs.PieceLemmas.{by_test}
use Rattle.pd_doc.proofs.RunLemmas.{run-record, run-end}
use Rattle.pd_doc.proofs.Known.{Known}
use Rattle.pd_doc.proofs.TextLemmas.{IsRow, lines_stand}
use Rattle.pd_doc.proofs.RecordLaws.{At, opening_back, whole_in_range}
use Rattle.pd_doc.proofs.ElementLaws.{fresh}
use Rattle.pd_doc.proofs.TreeLaws.{Reaches, none, chain, Lv, Last, kept_all, coords_all, wires_all, tails_all, NoValues, closed_page, own_obj, own_msg, own_text, own_float, own_symbol, own_other, own_sub}
use Rattle.pd_doc.proofs.ArrayLaws.{own_array, all_take, all_drop}

-- ---- a canvas behind its opening

-- what is behind the opening of a canvas
abbrev pub inside_rows : Names → Frame → List (List Piece) → List (List Piece)
inside_rows names f boxes = map (kept_row names) f.kept ++ (boxes ++ (map (connect_row names) f.wires ++ map (coords_row names) f.coords))

inside_all : (names : Names) → Known names → (f : Frame) (inner : Boxes) (n : ℕ) (ls : List Level) (k w : ℕ) → IsFrame names f →
    w + inner_wires inner + length f.wires ≤ 65536 →
    ((kp : List (List Atom)) → Reaches names (At (Lv n f.header kp [] [] []) ls k w) (boxes_rows names inner) (At (Lv n f.header kp (listed inner) [] []) ls (k + weight inner) (w + inner_wires inner))) →
    Reaches names (At (Lv n f.header [] [] [] []) ls k w) (inside_rows names f (boxes_rows names inner))
    (At (Lv n f.header f.kept (listed inner) f.wires f.coords) ls (k + weight inner) (w + inner_wires inner + length f.wires))
inside_all names kn f inner n ls k w g d boxes =
    let a = At (Lv n f.header [] [] [] []) ls k w in
    let b = At (Lv n f.header f.kept [] [] []) ls k w in
    let c = At (Lv n f.header f.kept (listed inner) [] []) ls (k + weight inner) (w + inner_wires inner) in
    let e = At (Lv n f.header f.kept (listed inner) f.wires []) ls (k + weight inner) (w + inner_wires inner + length f.wires) in
    let z = At (Lv n f.header f.kept (listed inner) f.wires f.coords) ls (k + weight inner) (w + inner_wires inner + length f.wires) in
    let kept = kept_all names kn f.kept n f.header [] [] [] [] ls k w g.kept in
    let wires = wires_all names kn f.wires n f.header f.kept (listed inner) [] [] ls (k + weight inner) (w + inner_wires inner) g.small d in
    let coords = coords_all names kn f.coords n f.header f.kept (listed inner) f.wires [] ls (k + weight inner) (w + inner_wires inner + length f.wires) g.coords in
    chain names a b z (map (kept_row names) f.kept) (boxes_rows names inner ++ (map (connect_row names) f.wires ++ map (coords_row names) f.coords)) kept
    (chain names b c z (boxes_rows names inner) (map (connect_row names) f.wires ++ map (coords_row names) f.coords) (boxes f.kept)
    (chain names c e z (map (connect_row names) f.wires) (map (coords_row names) f.coords) wires coords))

-- ---- elements

no_values : (names : Names) (h : Head) (s : Shape) → h.form ≡ s → FitsForm names s h → NoValues h.form h.tail
no_values names h (Array vs) e g a = g.tail
no_values names h Obj e g a = absurd (let q = sym (ap is_array e) ∙ a in cc)
no_values names h Msg e g a = absurd (let q = sym (ap is_array e) ∙ a in cc)
no_values names h Comment e g a = absurd (let q = sym (ap is_array e) ∙ a in cc)
no_values names h FloatBox e g a = absurd (let q = sym (ap is_array e) ∙ a in cc)
no_values names h SymbolBox e g a = absurd (let q = sym (ap is_array e) ∙ a in cc)
no_values names h Sub e g a = absurd (let q = sym (ap is_array e) ∙ a in cc)
no_values names h (Other s) e g a = absurd (let q = sym (ap is_array e) ∙ a in cc)

-- the state behind an element without its tail rows
abbrev Behind : Head → Page → Level → List Level → ℕ → ℕ → State
Behind h p l ls k w = At (with_boxes (l.boxes ++ record { head = fresh h; page = p } ∷ []) l) ls k w

empty_inside : (f : Frame) (inner : Boxes) → page_of f inner ≡ empty_page → (weight inner ≡ 0) × (inner_wires inner + length f.wires ≡ 0)
empty_inside f inner e = (ap (λ p. weight p.boxes) e, ap (λ p. inner_wires p.boxes + length p.wires) e)

-- an element that holds no canvas
own_empty : (names : Names) (h : Head) (f : Frame) (inner : Boxes) (l : Level) (ls : List Level) (k w : ℕ) (rows : List (List Piece)) → page_of f inner ≡ empty_page →
    Reaches names (At l ls k w) rows (Behind h empty_page l ls (k + 1) w) →
    Reaches names (At l ls k w) rows (Behind h (page_of f inner) l ls (k + (weight inner + 1)) (w + (inner_wires inner + length f.wires)))
own_empty names h f inner l ls k w rows e r =
    let z = empty_inside f inner e in
    let a : k + 1 ≡ k + (weight inner + 1) = omega (arith, z.0) in
    let b : w ≡ w + (inner_wires inner + length f.wires) = omega (arith, z.1) in
    subst (λ p. Reaches names (At l ls k w) rows (Behind h p l ls (k + (weight inner + 1)) (w + (inner_wires inner + length f.wires)))) (sym e)
    (subst (λ x. Reaches names (At l ls k w) rows (Behind h empty_page l ls x (w + (inner_wires inner + length f.wires)))) a
    (subst (λ x. Reaches names (At l ls k w) rows (Behind h empty_page l ls (k + 1) x)) b r))

sub_opens : (names : Names) → Known names → (f : Frame) (s : State) (rows : List (List Piece)) (t : State) → IsText names f.header → length s.levels < 256 →
    ((n : ℕ) → Reaches names (opened (new_level n f.header) s) rows t) → Reaches names s (opening_row names f.header ∷ rows) t
sub_opens names kn f s rows t g d r n more =
    let p = r (n + 1) (n + 1) more in (
      p.0,
      run-record (s, names) n (opening_row names f.header) (rows ++ more)
          ∙ ap (λ x. x >>= (λ u. run u (n + 1) (rows ++ more))) (opening_back names kn s (n + 1) f.header g d) ∙ p.1,
    )

own_sub_all : (names : Names) → Known names → (h : Head) (f : Frame) (inner : Boxes) (l : Level) (ls : List Level) (k w : ℕ) → IsHead names h → h.form ≡ Sub → IsFrame names f →
    k + weight inner < 16384 → w + inner_wires inner + length f.wires ≤ 65536 → length (l ∷ ls) < 256 →
    ((n : ℕ) (kp : List (List Atom)) → Reaches names (At (Lv n f.header kp [] [] []) (l ∷ ls) k w) (boxes_rows names inner)
    (At (Lv n f.header kp (listed inner) [] []) (l ∷ ls) (k + weight inner) (w + inner_wires inner))) →
    Reaches names (At l ls k w) (frame_rows names f (boxes_rows names inner) ++ element_row names h ∷ [])
    (Behind h (page_of f inner) l ls (k + (weight inner + 1)) (w + (inner_wires inner + length f.wires)))
own_sub_all names kn h f inner l ls k w g e i d b m boxes =
    let rows = inside_rows names f (boxes_rows names inner) in
    let kk : k + weight inner + 1 ≡ k + (weight inner + 1) = omega arith in
    let ww : w + inner_wires inner + length f.wires ≡ w + (inner_wires inner + length f.wires) = omega arith in
    let last = Behind h (page_of f inner) l ls (k + (weight inner + 1)) (w + (inner_wires inner + length f.wires)) in
    sub_opens names kn f (At l ls k w) (rows ++ element_row names h ∷ []) last i.header m (λ n.
    let lv = Lv n f.header f.kept (listed inner) f.wires f.coords in
    let r = own_sub names kn h lv l ls (k + weight inner) (w + inner_wires inner + length f.wires) g d e in
    let x = subst (λ p. Reaches names (At lv (l ∷ ls) (k + weight inner) (w + inner_wires inner + length f.wires)) (element_row names h ∷ []) (Behind h p l ls (k + weight inner + 1) (w + inner_wires inner + length f.wires)))
    (closed_page n f inner i.sorted) r in
    let y = subst (λ z. Reaches names (At lv (l ∷ ls) (k + weight inner) (w + inner_wires inner + length f.wires)) (element_row names h ∷ []) (Behind h (page_of f inner) l ls z (w + inner_wires inner + length f.wires))) kk x in
    let z = subst (λ z. Reaches names (At lv (l ∷ ls) (k + weight inner) (w + inner_wires inner + length f.wires)) (element_row names h ∷ []) (Behind h (page_of f inner) l ls (k + (weight inner + 1)) z)) ww y in
    chain names (At (Lv n f.header [] [] [] []) (l ∷ ls) k w) (At lv (l ∷ ls) (k + weight inner) (w + inner_wires inner + length f.wires)) last rows (element_row names h ∷ [])
    (inside_all names kn f inner n (l ∷ ls) k w i b (boxes n)) z)

own_any : (names : Names) → Known names → (s : Shape) (h : Head) (f : Frame) (inner : Boxes) (l : Level) (ls : List Level) (k w : ℕ) → h.form ≡ s → IsHead names h → FitsForm names s h →
    HoldsNone s (page_of f inner) → IsFrame names f → k + weight inner < 16384 → w + inner_wires inner + length f.wires ≤ 65536 → length (l ∷ ls) + levels_of s (levels inner) ≤ 256 →
    ((n : ℕ) (kp : List (List Atom)) → s ≡ Sub → Reaches names (At (Lv n f.header kp [] [] []) (l ∷ ls) k w) (boxes_rows names inner)
    (At (Lv n f.header kp (listed inner) [] []) (l ∷ ls) (k + weight inner) (w + inner_wires inner))) →
    Reaches names (At l ls k w) (box_rows names (frame_rows names f (boxes_rows names inner)) h s)
    (Behind h (page_of f inner) l ls (k + (weight inner + 1)) (w + (inner_wires inner + length f.wires)))
own_any names kn Sub h f inner l ls k w e g q o i d b m boxes =
    own_sub_all names kn h f inner l ls k w g e i d b (omega arith) (λ n kp. boxes n kp refl)
own_any names kn (Array vs) h f inner l ls k w e g q o i d b m boxes =
    own_empty names h f inner l ls k w (array_row names h.text ∷ (if is_saved h.text then value_rows names vs else [])) o (own_array names kn h vs l ls k w g (omega arith) e q)
own_any names kn Obj h f inner l ls k w e g q o i d b m boxes =
    own_empty names h f inner l ls k w (element_row names h ∷ []) o (own_obj names kn h l ls k w g (omega arith) e q)
own_any names kn Msg h f inner l ls k w e g q o i d b m boxes =
    own_empty names h f inner l ls k w (element_row names h ∷ []) o (own_msg names kn h l ls k w g (omega arith) e)
own_any names kn Comment h f inner l ls k w e g q o i d b m boxes =
    own_empty names h f inner l ls k w (element_row names h ∷ []) o (own_text names kn h l ls k w g (omega arith) e)
own_any names kn FloatBox h f inner l ls k w e g q o i d b m boxes =
    own_empty names h f inner l ls k w (element_row names h ∷ []) o (own_float names kn h l ls k w g (omega arith) e)
own_any names kn SymbolBox h f inner l ls k w e g q o i d b m boxes =
    own_empty names h f inner l ls k w (element_row names h ∷ []) o (own_symbol names kn h l ls k w g (omega arith) e)
own_any names kn (Other s) h f inner l ls k w e g q o i d b m boxes =
    own_empty names h f inner l ls k w (element_row names h ∷ []) o (own_other names kn h s l ls k w g (omega arith) e q.0 q.1)

sub_levels : (s : Shape) (n : ℕ) → s ≡ Sub → levels_of s n ≡ n + 1
sub_levels s n e = ap (λ x. levels_of x n) e

-- the elements of a canvas
boxes_all : (names : Names) → Known names → (b : Boxes) → AreBoxes names b → (l : Level) (ls : List Level) (k w : ℕ) → k + weight b ≤ 16384 → w + inner_wires b ≤ 65536 →
    length (l ∷ ls) + levels b ≤ 256 → Reaches names (At l ls k w) (boxes_rows names b) (At (with_boxes (l.boxes ++ listed b) l) ls (k + weight b) (w + inner_wires b))
boxes_all names kn End g l ls k w d b m =
    let a : k ≡ k + 0 = omega arith in
    let c : w ≡ w + 0 = omega arith in
    subst (λ x. Reaches names (At l ls k w) [] (At (with_boxes x l) ls (k + 0) (w + 0))) (sym (append-nil l.boxes))
    (subst (λ x. Reaches names (At l ls k w) [] (At l ls x (w + 0))) a (subst (λ x. Reaches names (At l ls k w) [] (At l ls k x)) c (none names (At l ls k w))))
boxes_all names kn (Box h f inner rest) g l ls k w d b m =
    let e : Entry = record { head = h; page = page_of f inner } in
    let bare : Entry = record { head = fresh h; page = page_of f inner } in
    let k' = k + (weight inner + 1) in
    let w' = w + (inner_wires inner + length f.wires) in
    let own = own_any names kn h.form h f inner l ls k w refl g.0 g.0.form g.1 g.2 (omega arith) (omega arith) (omega arith)
    (λ n kp s. boxes_all names kn inner g.3 (Lv n f.header kp [] [] []) (l ∷ ls) k w (omega arith) (omega arith) (omega (arith, sub_levels h.form (levels inner) s))) in
    let tails = tails_all names kn h.tail l l.boxes bare ls k' w' g.0.tail (no_values names h h.form refl g.0.form) in
    let l' = with_boxes (l.boxes ++ e ∷ []) l in
    let others = boxes_all names kn rest g.4 l' ls k' w' (omega arith) (omega arith) (omega arith) in
    let both = chain names (Last l l.boxes bare ls k' w') (At l' ls k' w') (At (with_boxes ((l.boxes ++ e ∷ []) ++ listed rest) l) ls (k' + weight rest) (w' + inner_wires rest))
    (map (tail_line names) h.tail) (boxes_rows names rest) tails others in
    let all = chain names (At l ls k w) (Last l l.boxes bare ls k' w') (At (with_boxes ((l.boxes ++ e ∷ []) ++ listed rest) l) ls (k' + weight rest) (w' + inner_wires rest))
    (box_rows names (frame_rows names f (boxes_rows names inner)) h h.form) (map (tail_line names) h.tail ++ boxes_rows names rest) own both in
    let kk : k' + weight rest ≡ k + weight (Box h f inner rest) = omega arith in
    let ww : w' + inner_wires rest ≡ w + inner_wires (Box h f inner rest) = omega arith in
    let rows = boxes_rows names (Box h f inner rest) in
    subst (λ x. Reaches names (At l ls k w) rows (At (with_boxes x l) ls (k + weight (Box h f inner rest)) (w + inner_wires (Box h f inner rest)))) (append_assoc l.boxes (e ∷ []) (listed rest))
    (subst (λ x. Reaches names (At l ls k w) rows (At (with_boxes ((l.boxes ++ e ∷ []) ++ listed rest) l) ls x (w + inner_wires (Box h f inner rest)))) kk
    (subst (λ x. Reaches names (At l ls k w) rows (At (with_boxes ((l.boxes ++ e ∷ []) ++ listed rest) l) ls (k' + weight rest) x)) ww all))

-- ---- the rows are rows of tokens

escaped_some : (bs : List ℕ) → 0 < length bs → 0 < length (escaped bs)
escaped_some [] h = absurd (omega arith)
escaped_some (b ∷ bs) h = by_test (is_special b) (λ e. rw e (omega arith)) (λ e. rw e (omega arith))

atom_is : (names : Names) → Known names → (a : Atom) → IsOf names a → HoldsNumber a → IsPiece (atom_piece names a)
atom_is names kn a h k = (escaped_some (spelled names a) (kn.some a h k), kn.units (spelled names a))

atoms_are : (names : Names) → Known names → (l : List Atom) → AreReady names l → AllByRecursion IsPiece (atom_pieces names l)
atoms_are names kn [] h = tt
atoms_are names kn (a ∷ l) h = (atom_is names kn a h.0.0 (kn.holds a h.0.1), atoms_are names kn l h.1)

numbers_are : (names : Names) → Known names → (l : List ℤ) → AllByRecursion (IsInRange millionths) l → AllByRecursion IsPiece (map (λ v. atom_piece names (Number v)) l)
numbers_are names kn [] h = tt
numbers_are names kn (v ∷ l) h = (atom_is names kn (Number v) tt h.0, numbers_are names kn l h.1)

pieces_append : (a b : List Piece) → AllByRecursion IsPiece a → AllByRecursion IsPiece b → AllByRecursion IsPiece (a ++ b)
pieces_append [] b h k = k
pieces_append (p ∷ a) b h k = (h.0, pieces_append a b h.1 k)

rows_append : (a b : List (List Piece)) → AllByRecursion IsRow a → AllByRecursion IsRow b → AllByRecursion IsRow (a ++ b)
rows_append [] b h k = k
rows_append (r ∷ a) b h k = (h.0, rows_append a b h.1 k)

x_is : (names : Names) → Known names → IsPiece (Word (codes "#X"))
x_is names kn = (omega arith, kn.units (codes "#X"))

a_is : (names : Names) → Known names → IsPiece (Word (codes "#A"))
a_is names kn = (omega arith, kn.units (codes "#A"))

kept_are : (names : Names) → Known names → (rows : List (List Atom)) → AllByRecursion (IsKept names) rows → AllByRecursion IsRow (map (kept_row names) rows)
kept_are names kn [] h = tt
kept_are names kn ([] ∷ rows) h = absurd h.0
kept_are names kn ((a ∷ r) ∷ rows) h = ((x_is names kn, atoms_are names kn (a ∷ r) h.0.0.0), kept_are names kn rows h.1)

coords_are : (names : Names) → Known names → (rows : List (List Atom)) → AllByRecursion (IsText names) rows → AllByRecursion IsRow (map (coords_row names) rows)
coords_are names kn [] h = tt
coords_are names kn (r ∷ rows) h = ((x_is names kn, ((omega arith, kn.units (codes "coords")), atoms_are names kn r h.0.0)), coords_are names kn rows h.1)

tails_are : (names : Names) → Known names → (rows : List (List Atom)) → AllByRecursion (AreReady names) rows → AllByRecursion IsRow (map (tail_line names) rows)
tails_are names kn [] h = tt
tails_are names kn (r ∷ rows) h = ((a_is names kn, atoms_are names kn r h.0), tails_are names kn rows h.1)

wires_are : (names : Names) → Known names → (ws : List Wire) → AllByRecursion IsRow (map (connect_row names) ws)
wires_are names kn [] = tt
wires_are names kn (w ∷ ws) =
    ((x_is names kn, ((omega arith, kn.units (codes "connect")), numbers_are names kn (whole w.source ∷ whole w.outlet ∷ whole w.sink ∷ whole w.inlet ∷ []) (whole_in_range w.source, (whole_in_range w.outlet, (whole_in_range w.sink, (whole_in_range w.inlet, tt)))))), wires_are names kn ws)

width_are : (names : Names) → Known names → (w : Option ℤ) → IsWidth w → AllByRecursion IsPiece (width_pieces names w)
width_are names kn None h = tt
width_are names kn (Some z) h = (tt, ((omega arith, kn.units (codes "f")), (atom_is names kn (Number z) tt h, tt)))

element_are : (names : Names) → Known names → (h : Head) → IsHead names h → IsPiece (Word (word_of names h.form)) → IsRow (element_row names h)
element_are names kn h g p = (
  x_is names kn,
  (
    p,
    (
      atom_is names kn (Number h.x) tt g.x,
      (
        atom_is names kn (Number h.y) tt g.y,
        pieces_append (atom_pieces names h.text) (width_pieces names h.width) (atoms_are names kn h.text g.text.0) (width_are names kn h.width g.width),
      ),
    ),
  ),
)

runs_are : (names : Names) → Known names → (k from : ℕ) (vs : List ℤ) → AllByRecursion (IsInRange millionths) vs → AllByRecursion IsRow (runs names k from vs)
runs_are names kn zero from vs h = tt
runs_are names kn (suc k) from vs h =
    ((a_is names kn, (atom_is names kn (Number (whole from)) tt (whole_in_range from), numbers_are names kn (take 1000 vs) (all_take 1000 vs h))), runs_are names kn k (from + 1000) (drop 1000 vs) (all_drop 1000 vs h))

values_are : (names : Names) → Known names → (b : Bool) (vs : List ℤ) → AllByRecursion (IsInRange millionths) vs → AllByRecursion IsRow (if b then value_rows names vs else [])
values_are names kn true vs h = runs_are names kn ((length vs + 999) / 1000) 0 vs h
values_are names kn false vs h = tt

word_is : (names : Names) (h : Head) (s : Shape) (ws : List ℕ) → h.form ≡ s → word_of names s ≡ ws → IsPiece (Word ws) → IsPiece (Word (word_of names h.form))
word_is names h s ws e f p = subst (λ x. IsPiece (Word x)) (sym (ap (word_of names) e ∙ f)) p

box_are : (names : Names) → Known names → (s : Shape) (h : Head) (inner : List (List Piece)) → h.form ≡ s → IsHead names h → FitsForm names s h → AllByRecursion IsRow inner →
    AllByRecursion IsRow (box_rows names inner h s)
box_are names kn Sub h inner e g q i =
    rows_append inner (element_row names h ∷ []) i (element_are names kn h g (word_is names h Sub (codes "restore") e refl (omega arith, kn.units (codes "restore"))), tt)
box_are names kn (Array vs) h inner e g q i =
    ((x_is names kn, ((omega arith, kn.units (codes "array")), atoms_are names kn h.text g.text.0)), values_are names kn (is_saved h.text) vs q.numbers)
box_are names kn Obj h inner e g q i = (element_are names kn h g (word_is names h Obj (codes "obj") e refl (omega arith, kn.units (codes "obj"))), tt)
box_are names kn Msg h inner e g q i = (element_are names kn h g (word_is names h Msg (codes "msg") e refl (omega arith, kn.units (codes "msg"))), tt)
box_are names kn Comment h inner e g q i = (element_are names kn h g (word_is names h Comment (codes "text") e refl (omega arith, kn.units (codes "text"))), tt)
box_are names kn FloatBox h inner e g q i = (element_are names kn h g (word_is names h FloatBox (codes "floatatom") e refl (omega arith, kn.units (codes "floatatom"))), tt)
box_are names kn SymbolBox h inner e g q i = (element_are names kn h g (word_is names h SymbolBox (codes "symbolatom") e refl (omega arith, kn.units (codes "symbolatom"))), tt)
box_are names kn (Other s) h inner e g q i =
    (element_are names kn h g (word_is names h (Other s) (codes "listbox") e (ap escaped q.1) (omega arith, kn.units (codes "listbox"))), tt)

frame_are : (names : Names) → Known names → (f : Frame) (boxes : List (List Piece)) → IsFrame names f → AllByRecursion IsRow boxes → AllByRecursion IsRow (frame_rows names f boxes)
frame_are names kn f boxes g b = (
  ((omega arith, kn.units (codes "#N")), ((omega arith, kn.units (codes "canvas")), atoms_are names kn f.header g.header.0)),
  rows_append (map (kept_row names) f.kept) (boxes ++ (map (connect_row names) f.wires ++ map (coords_row names) f.coords)) (kept_are names kn f.kept g.kept)
      (rows_append boxes (map (connect_row names) f.wires ++ map (coords_row names) f.coords) b
      (rows_append (map (connect_row names) f.wires) (map (coords_row names) f.coords) (wires_are names kn f.wires) (coords_are names kn f.coords g.coords))),
)

boxes_are : (names : Names) → Known names → (b : Boxes) → AreBoxes names b → AllByRecursion IsRow (boxes_rows names b)
boxes_are names kn End g = tt
boxes_are names kn (Box h f inner rest) g =
    rows_append (box_rows names (frame_rows names f (boxes_rows names inner)) h h.form) (map (tail_line names) h.tail ++ boxes_rows names rest)
    (box_are names kn h.form h (frame_rows names f (boxes_rows names inner)) refl g.0 g.0.form (frame_are names kn f (boxes_rows names inner) g.2 (boxes_are names kn inner g.3)))
    (rows_append (map (tail_line names) h.tail) (boxes_rows names rest) (tails_are names kn h.tail g.0.tail) (boxes_are names kn rest g.4))

page_are : (names : Names) → Known names → (p : Page) → IsSound names p → AllByRecursion IsRow (page_rows names p)
page_are names kn p g = frame_are names kn (frame_of p) (boxes_rows names p.boxes) g.0 (boxes_are names kn p.boxes g.1)

-- ---- the whole text

all_spaces : (bs : List ℕ) → AreSpaces bs → list_all is_space bs ≡ true
all_spaces [] h = refl
all_spaces (b ∷ bs) h = let e : is_space b ≡ true = h.0 in rw e (all_spaces bs h.1)

root_all : (names : Names) → Known names → (p : Page) → IsProper names p →
    (n : ℕ) (more : List (List Piece)) → (m : ℕ) × (l : Level) × (page_of_level l ≡ p) × (k : ℕ) × (w : ℕ) × (run (start, names) n (page_rows names p ++ more) ≡ run (At l [] k w, names) m more)
root_all names kn p g n more =
    let f = frame_of p in
    let i = g.sound.0 in
    let rows = inside_rows names f (boxes_rows names p.boxes) in
    let lv = Lv (n + 1) f.header f.kept (listed p.boxes) f.wires f.coords in
    let k = 0 + weight p.boxes in
    let w = 0 + inner_wires p.boxes + length f.wires in
    let inside = inside_all names kn f p.boxes (n + 1) [] 0 0 i (omega (arith, g.limits.wires))
    (λ kp. boxes_all names kn p.boxes g.sound.1 (Lv (n + 1) f.header kp [] [] []) [] 0 0 (omega (arith, g.limits.boxes)) (omega (arith, g.limits.wires)) (omega (arith, g.limits.levels))) in
    let r = inside (n + 1) more in (
      r.0,
      lv,
      closed_page (n + 1) f p.boxes i.sorted,
      k,
      w,
      run-record (start, names) n (opening_row names f.header) (rows ++ more)
          ∙ ap (λ x. x >>= (λ u. run u (n + 1) (rows ++ more))) (opening_back names kn start (n + 1) f.header i.header (omega arith)) ∙ r.1,
    )

-- a proper document is read from its text, and the table stays
pub written_back : (names : Names) → Known names → (p : Page) → IsProper names p → document_of names (text_of names p) ≡ Ok (p, names)
unfolding document_of
written_back names kn p g =
    let text = text_of names p in
    let stands = lines_stand (page_rows names p) (page_are names kn p g.sound) in
    let rows : records text ≡ page_rows names p = kn.stands text (page_rows names p) stands in
    let blank : list_all is_space (rest_of text) ≡ true = all_spaces (rest_of text) (kn.spaces text (page_rows names p) stands) in
    let r = root_all names kn p g 0 [] in
    let done : run (start, names) 0 (records text) ≡ Ok (At r.1 [] r.3 r.4, names) =
    ap (run (start, names) 0) (rows ∙ sym (append-nil (page_rows names p))) ∙ r.5 ∙ run-end (At r.1 [] r.3 r.4, names) r.0 in
    ap (λ x. x >>= (λ s. root_at (length (records text)) (list_all is_space (rest_of text)) s.0.levels >>= (λ page. Ok (page, s.1)))) done
    ∙ ap (λ b. root_at (length (records text)) b (r.1 ∷ []) >>= (λ page. Ok (page, names))) blank
    ∙ ap (λ x. Ok (x, names)) r.2
