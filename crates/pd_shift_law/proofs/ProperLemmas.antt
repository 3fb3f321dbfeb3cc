-- A document with a box at another place: it counts as before, and is proper where it was.
use Rattle.std.proofs.Common.{◌≡◌, ◌≤◌, ◌+◌, ℕ, zero, suc, ℤ, false, max, List, [], ◌∷◌, length, slice_get, Option, Some, None, refl, sym, ap, ◌∙◌, subst}
use Rattle.std.specs.Prelude.{option_map}
use Rattle.std.proofs.lemmas.Option.{none-some, same_Some}
use Rattle.pd_num.specs.Scale.{millionths, IsInRange}
use Rattle.pd_atom.specs.Names.{Names}
use Rattle.pd_canvas.specs.Edits.{is_array}
use Rattle.pd_canvas.specs.Pages.{Shape, Obj, Msg, Comment, FloatBox, SymbolBox, Sub, Array, Other, Head, Frame, Boxes, End, Box, frame_of, page_of, empty_page, weight}
use Rattle.pd_canvas.specs.Proper.{AreBoxes, FitsForm, HoldsNone, IsFrame, IsHead, IsProper, inner_wires, levels, levels_of}
use Rattle.pd_tree.specs.declared.rows.Sheet.{Sheet}
use Rattle.pd_tree.specs.Trees.{Cell, Trees, Done, Leaf, Holder, Tree, join, frame_in, box_with, document_boxes, document_in}
use Rattle.pd_grove.specs.declared.nodes.Node.{Node}
use Rattle.pd_grove.specs.declared.boards.Board.{Board}
use Rattle.pd_grove.specs.Standing.{NodeSeen, node_seen, Stands}
use Rattle.pd_regrowth_law.specs.Canvases.{Nest, Alone, Inside, nested, AreSubpatches}
use Rattle.pd_regrowth_law.specs.Suits.{TextsOf}
use Rattle.pd_shifting.specs.Moves.{is_array_in}
use Rattle.pd_shifted_law.specs.Shifts.{boxes_shifted}

-- ---- one box

-- an element at another place
abbrev pub head_at : ℤ → ℤ → Head → Head
head_at x y h = record { x = x; y = y; form = h.form; text = h.text; width = h.width; tail = h.tail }

fits_moved : (names : Names) (x y : ℤ) (form : Shape) (h : Head) → is_array form ≡ false → FitsForm names form h → FitsForm names form (head_at x y h)
fits_moved names x y Obj h free f = f
fits_moved names x y Msg h free f = tt
fits_moved names x y Comment h free f = tt
fits_moved names x y FloatBox h free f = tt
fits_moved names x y SymbolBox h free f = tt
fits_moved names x y Sub h free f = tt
fits_moved names x y (Array values) h free f = cc
fits_moved names x y (Other s) h free f = f

-- one that is no array keeps well formed at a place that numbers can tell
record CanStand (x y : ℤ) (h : Head) : Type 0 where
  across : IsInRange millionths x
  down : IsInRange millionths y
  free : is_array h.form ≡ false

head_moved : (names : Names) (x y : ℤ) (h : Head) → CanStand x y h → IsHead names h → IsHead names (head_at x y h)
head_moved names x y h can i = record {
  x = can.across;
  y = can.down;
  text = i.text;
  width = i.width;
  tail = i.tail;
  form = fits_moved names x y h.form h can.free i.form;
}

-- ---- boxes of a document

-- the second boxes are the first ones but for places, and well formed where those are
pub record AreMoved (old new : Boxes) : Type 0 where
  pub boxes : weight new ≡ weight old
  pub wires : inner_wires new ≡ inner_wires old
  pub levels : levels new ≡ levels old
  pub texts : (names : Names) → TextsOf names old → TextsOf names new
  pub sound : (names : Names) → AreBoxes names old → AreBoxes names new

all_stay : (b : Boxes) → AreMoved b b
all_stay b = record { boxes = refl; wires = refl; levels = refl; texts = λ names o. o; sound = λ names a. a }

first_moved : (x y : ℤ) (h : Head) (f : Frame) (inner rest : Boxes) → CanStand x y h → AreMoved (Box h f inner rest) (Box (head_at x y h) f inner rest)
first_moved x y h f inner rest can =
    record { boxes = refl; wires = refl; levels = refl; texts = λ names o. o; sound = λ names a. (head_moved names x y h can a.0, a.1, a.2, a.3, a.4) }

rest_moved : (h : Head) (f : Frame) (inner rest other : Boxes) → AreMoved rest other → AreMoved (Box h f inner rest) (Box h f inner other)
rest_moved h f inner rest other m = record {
  boxes = ap (λ (n : ℕ). weight inner + n + 1) m.boxes;
  wires = ap (λ (n : ℕ). length f.wires + inner_wires inner + n) m.wires;
  levels = ap (λ (n : ℕ). max (levels_of h.form (levels inner)) n) m.levels;
  texts = λ names o. (o.0, o.1, m.texts names o.2);
  sound = λ names a. (a.0, a.1, a.2, a.3, m.sound names a.4);
}

inner_moved : (h : Head) (f : Frame) (inner other rest : Boxes) → h.form ≡ Sub → AreMoved inner other → AreMoved (Box h f inner rest) (Box h f other rest)
inner_moved h f inner other rest form m = record {
  boxes = ap (λ (n : ℕ). n + weight rest + 1) m.boxes;
  wires = ap (λ (n : ℕ). length f.wires + n + inner_wires rest) m.wires;
  levels = ap (λ (n : ℕ). max (levels_of h.form n) (levels rest)) m.levels;
  texts = λ names o. (o.0, m.texts names o.1, o.2);
  sound = λ names a. (a.0, subst (λ (y : Shape). HoldsNone y (page_of f other)) (sym form) tt, a.2, m.sound names a.3, a.4);
}

with_first : (form : Shape) (x y : ℤ) (h : Head) (s : Sheet) (inner rest : Boxes) → CanStand x y h
    → AreMoved (box_with form h s inner rest) (box_with form (head_at x y h) s inner rest)
with_first Sub x y h s inner rest can = first_moved x y h (frame_in s) inner rest can
with_first f x y h s inner rest can = first_moved x y h (frame_of empty_page) End rest can

with_rest : (form : Shape) (h : Head) (s : Sheet) (inner rest other : Boxes) → AreMoved rest other → AreMoved (box_with form h s inner rest) (box_with form h s inner other)
with_rest Sub h s inner rest other m = rest_moved h (frame_in s) inner rest other m
with_rest f h s inner rest other m = rest_moved h (frame_of empty_page) End rest other m

with_inner : (h : Head) (s : Sheet) (inner other rest : Boxes) → h.form ≡ Sub → AreMoved inner other → AreMoved (box_with h.form h s inner rest) (box_with h.form h s other rest)
with_inner h s inner other rest form m =
    subst (λ (y : Shape). AreMoved (box_with y h s inner rest) (box_with y h s other rest)) (sym form) (inner_moved h (frame_in s) inner other rest form m)

-- ---- boxes of a tree

abbrev AreTreesMoved : Trees → Trees → Type 0
AreTreesMoved t u = AreMoved (document_boxes t) (document_boxes u)

around_moved : (before t u : Trees) → AreTreesMoved t u → AreTreesMoved (join before t) (join before u)
around_moved Done t u m = m
around_moved (Leaf c before) t u m =
    rest_moved c.head (frame_of empty_page) End (document_boxes (join before t)) (document_boxes (join before u)) (around_moved before t u m)
around_moved (Holder c sheet inner before) t u m =
    with_rest c.head.form c.head sheet (document_boxes inner) (document_boxes (join before t)) (document_boxes (join before u)) (around_moved before t u m)

seen_array : (o : Option Node) (z : NodeSeen) → option_map node_seen o ≡ Some z → is_array z.cell.head.form ≡ is_array_in o
seen_array None z e = absurd (none-some z e)
seen_array (Some n) z e = sym (ap (λ (v : NodeSeen). is_array v.cell.head.form) (same_Some (node_seen n) z e))

-- the box of a number of a canvas at a place that numbers can tell; it is no array
module _ (nodes : ℕ → Option Node) (boards : ℕ → Option Board) (key : ℕ) (x y : ℤ) (across : IsInRange millionths x) (down : IsInRange millionths y)
    (free : is_array_in (nodes key) ≡ false) where
  can_stand : (k b : ℕ) (c : Cell) (inner : Option ℕ) → Some k ≡ Some key → option_map node_seen (nodes k) ≡ Some (record { board = b; cell = c; inner = inner })
      → CanStand x y c.head
  can_stand k b c inner at e =
      record { across = across; down = down; free = seen_array (nodes k) _ e ∙ ap (λ (j : ℕ). is_array_in (nodes j)) (same_Some k key at) ∙ free }

  pub boxes_moved : (b d : ℕ) (keys : List ℕ) (t : Trees) (n : ℕ) → Stands nodes boards b d keys t → slice_get keys n ≡ Some key
      → AreMoved (document_boxes t) (document_boxes (boxes_shifted n x y t))
  boxes_moved b d [] t n S at = absurd (none-some key at)
  boxes_moved b d (l ∷ ls) Done n S at = absurd S
  boxes_moved b d (l ∷ ls) (Leaf c rest) zero S at =
      first_moved x y c.head (frame_of empty_page) End (document_boxes rest) (can_stand l b c None at S.0)
  boxes_moved b d (l ∷ ls) (Leaf c rest) (suc n) S at =
      rest_moved c.head (frame_of empty_page) End (document_boxes rest) (document_boxes (boxes_shifted n x y rest)) (boxes_moved b d ls rest n S.1 at)
  boxes_moved b d (l ∷ ls) (Holder c s inner rest) zero S at =
      with_first c.head.form x y c.head s (document_boxes inner) (document_boxes rest) (can_stand l b c (Some S.0) at S.2)
  boxes_moved b d (l ∷ ls) (Holder c s inner rest) (suc n) S at =
      with_rest c.head.form c.head s (document_boxes inner) (document_boxes rest) (document_boxes (boxes_shifted n x y rest)) (boxes_moved b d ls rest n S.5 at)

-- ---- a canvas, and what lies around it

pub record CanvasMoved (t u : Tree) : Type 0 where
  pub sheet : u.sheet ≡ t.sheet
  pub boxes : AreMoved (document_boxes t.boxes) (document_boxes u.boxes)

pub nest_moved : (nest : Nest) (t u : Tree) → AreSubpatches nest → CanvasMoved t u → CanvasMoved (nested nest t) (nested nest u)
nest_moved Alone t u sub m = m
nest_moved (Inside sheet before c nest behind) t u sub m =
    let v = nested nest t in
    let w = nested nest u in
    let on = nest_moved nest t u sub.1 m in
    record {
      sheet = refl;
      boxes = around_moved before (Holder c v.sheet v.boxes behind) (Holder c w.sheet w.boxes behind)
          (subst (λ (s : Sheet). AreTreesMoved (Holder c v.sheet v.boxes behind) (Holder c s w.boxes behind)) (sym on.sheet)
          (with_inner c.head v.sheet (document_boxes v.boxes) (document_boxes w.boxes) (document_boxes behind) sub.0 on.boxes));
    }

pub moved_proper : (names : Names) (t u : Tree) → CanvasMoved t u → IsProper names (document_in t) → IsProper names (document_in u)
moved_proper names t u m p = record {
  sound = (subst (λ (s : Sheet). IsFrame names (frame_in s)) (sym m.sheet) p.sound.0, m.boxes.sound names p.sound.1);
  limits = record {
    boxes = subst (λ (n : ℕ). n ≤ 16384) (sym m.boxes.boxes) p.limits.boxes;
    wires = subst (λ (n : ℕ). length u.sheet.wires + n ≤ 65536) (sym m.boxes.wires)
        (subst (λ (s : Sheet). length s.wires + inner_wires (document_boxes t.boxes) ≤ 65536) (sym m.sheet) p.limits.wires);
    levels = subst (λ (n : ℕ). n + 1 ≤ 256) (sym m.boxes.levels) p.limits.levels;
  };
}
