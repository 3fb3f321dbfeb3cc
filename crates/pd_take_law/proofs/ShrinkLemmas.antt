-- A tree with a box less: its document counts no more and is proper, and its `$0` numbers are some of those that it had.
use Rattle.std.proofs.Common.{◌≡◌, ◌≤◌, ◌+◌, ◌++◌, ℕ, zero, suc, max, List, [], ◌∷◌, length, Some, refl, sym, ap, subst, arith}
use Rattle.std.specs.List.{AllByRecursion}
use Rattle.pd_atom.specs.Names.{Names}
use Rattle.pd_canvas.specs.Pages.{Shape, Sub, Head, Frame, Boxes, Box, frame_of, page_of, empty_page, weight}
use Rattle.pd_canvas.specs.Proper.{HoldsNone, AreBoxes, IsFrame, IsProper, inner_wires, levels, levels_of}
use Rattle.pd_tree.specs.declared.rows.Sheet.{Sheet}
use Rattle.pd_tree.specs.Trees.{Cell, Trees, Done, Leaf, Holder, Tree, join, frame_in, box_with, document_boxes, document_in, own_zeros, zeros_in, zeros_of}
use Rattle.pd_grove.specs.declared.grove.Grove.{Grove}
use Rattle.pd_grove.specs.OwnPaths.{sub_reached}
use Rattle.pd_grove.specs.Standing.{GroveStands}
use Rattle.pd_regrowth_law.specs.Canvases.{Nest, Alone, Inside, nested, AreSubpatches}
use Rattle.pd_putting_law.proofs.StandLemmas.{path_along}
use Rattle.pd_putting_law.proofs.PathLemmas.{Forest}
use Rattle.pd_putting_law.proofs.WithinLemmas.{path_within}
use Rattle.pd_taking_law.specs.Takes.{boxes_less, less_box, taken_at}

-- ---- boxes of a document

-- the second boxes are no more than the first ones, and well formed where those are
pub record AreNoMore (old new : Boxes) : Type 0 where
  pub boxes : weight new ≤ weight old
  pub wires : inner_wires new ≤ inner_wires old
  pub levels : levels new ≤ levels old
  pub sound : (names : Names) → AreBoxes names old → AreBoxes names new

all_stay : (b : Boxes) → AreNoMore b b
all_stay b = record { boxes = same (weight b); wires = same (inner_wires b); levels = same (levels b); sound = λ names a. a }
  where
    same : (n : ℕ) → n ≤ n
    same n = omega arith

-- without the first
first_gone : (h : Head) (f : Frame) (inner rest : Boxes) → AreNoMore (Box h f inner rest) rest
first_gone h f inner rest = record {
  boxes = fewer (weight inner) (weight rest);
  wires = less (length f.wires) (inner_wires inner) (inner_wires rest);
  levels = lower (levels_of h.form (levels inner)) (levels rest);
  sound = λ names a. a.4;
}
  where
    fewer : (i r : ℕ) → r ≤ i + r + 1
    fewer i r = omega arith

    less : (w i r : ℕ) → r ≤ w + i + r
    less w i r = omega arith

    lower : (l r : ℕ) → r ≤ max l r
    lower l r = omega arith

rest_less : (h : Head) (f : Frame) (inner rest other : Boxes) → AreNoMore rest other → AreNoMore (Box h f inner rest) (Box h f inner other)
rest_less h f inner rest other m = record {
  boxes = fewer (weight inner) (weight rest) (weight other) m.boxes;
  wires = less (length f.wires) (inner_wires inner) (inner_wires rest) (inner_wires other) m.wires;
  levels = lower (levels_of h.form (levels inner)) (levels rest) (levels other) m.levels;
  sound = λ names a. (a.0, a.1, a.2, a.3, m.sound names a.4);
}
  where
    fewer : (i r o : ℕ) → o ≤ r → i + o + 1 ≤ i + r + 1
    fewer i r o h = omega (arith, h)

    less : (w i r o : ℕ) → o ≤ r → w + i + o ≤ w + i + r
    less w i r o h = omega (arith, h)

    lower : (l r o : ℕ) → o ≤ r → max l o ≤ max l r
    lower l r o h = omega (arith, h)

levels_less : (form : Shape) (i o : ℕ) → o ≤ i → levels_of form o ≤ levels_of form i
levels_less Sub i o h = omega (arith, h)
levels_less f i o h = omega arith

inner_less : (h : Head) (f : Frame) (inner other rest : Boxes) → h.form ≡ Sub → AreNoMore inner other → AreNoMore (Box h f inner rest) (Box h f other rest)
inner_less h f inner other rest form m = record {
  boxes = fewer (weight inner) (weight other) (weight rest) m.boxes;
  wires = less (length f.wires) (inner_wires inner) (inner_wires other) (inner_wires rest) m.wires;
  levels = lower (levels_of h.form (levels inner)) (levels_of h.form (levels other)) (levels rest) (levels_less h.form (levels inner) (levels other) m.levels);
  sound = λ names a. (a.0, subst (λ (y : Shape). HoldsNone y (page_of f other)) (sym form) tt, a.2, m.sound names a.3, a.4);
}
  where
    fewer : (i o r : ℕ) → o ≤ i → o + r + 1 ≤ i + r + 1
    fewer i o r h = omega (arith, h)

    less : (w i o r : ℕ) → o ≤ i → w + o + r ≤ w + i + r
    less w i o r h = omega (arith, h)

    lower : (l m r : ℕ) → m ≤ l → max m r ≤ max l r
    lower l m r h = omega (arith, h)

with_rest : (form : Shape) (h : Head) (s : Sheet) (inner rest other : Boxes) → AreNoMore rest other → AreNoMore (box_with form h s inner rest) (box_with form h s inner other)
with_rest Sub h s inner rest other m = rest_less h (frame_in s) inner rest other m
with_rest f h s inner rest other m = rest_less h (frame_of empty_page) _ rest other m

with_inner : (h : Head) (s : Sheet) (inner other rest : Boxes) → h.form ≡ Sub → AreNoMore inner other → AreNoMore (box_with h.form h s inner rest) (box_with h.form h s other rest)
with_inner h s inner other rest form m =
    subst (λ (y : Shape). AreNoMore (box_with y h s inner rest) (box_with y h s other rest)) (sym form) (inner_less h (frame_in s) inner other rest form m)

-- ---- boxes of a tree

-- numbers that are some of these
abbrev AreSome : List ℕ → List ℕ → Type 1
AreSome old new = (P : ℕ → Type 0) → AllByRecursion P old → AllByRecursion P new

-- the document of the second boxes is no more than that of the first, and their `$0` numbers are some of those
pub record Shrinks (old new : Trees) : Type 1 where
  pub document : AreNoMore (document_boxes old) (document_boxes new)
  pub zeros : AreSome (zeros_in old) (zeros_in new)

all_left : (P : ℕ → Type 0) (xs ys : List ℕ) → AllByRecursion P (xs ++ ys) → AllByRecursion P xs
all_left P [] ys A = tt
all_left P (x ∷ xs) ys A = (A.0, all_left P xs ys A.1)

all_right : (P : ℕ → Type 0) (xs ys : List ℕ) → AllByRecursion P (xs ++ ys) → AllByRecursion P ys
all_right P [] ys A = A
all_right P (x ∷ xs) ys A = all_right P xs ys A.1

all_both : (P : ℕ → Type 0) (xs ys : List ℕ) → AllByRecursion P xs → AllByRecursion P ys → AllByRecursion P (xs ++ ys)
all_both P [] ys A B = B
all_both P (x ∷ xs) ys A B = (A.0, all_both P xs ys A.1 B)

-- behind the same ones
some_behind : (xs ys zs : List ℕ) → AreSome ys zs → AreSome (xs ++ ys) (xs ++ zs)
some_behind xs ys zs S P A = all_both P xs zs (all_left P xs ys A) (S P (all_right P xs ys A))

-- before the same ones
some_before : (xs ys zs : List ℕ) → AreSome xs ys → AreSome (xs ++ zs) (ys ++ zs)
some_before xs ys zs S P A = all_both P ys zs (S P (all_left P xs zs A)) (all_right P xs zs A)

some_last : (xs ys : List ℕ) → AreSome (xs ++ ys) ys
some_last xs ys P A = all_right P xs ys A

shrinks_behind : (c : Cell) (t u : Trees) → Shrinks t u → Shrinks (Leaf c t) (Leaf c u)
shrinks_behind c t u s = record { document = rest_less c.head (frame_of empty_page) _ (document_boxes t) (document_boxes u) s.document; zeros = s.zeros }

shrinks_on : (c : Cell) (sheet : Sheet) (inner t u : Trees) → Shrinks t u → Shrinks (Holder c sheet inner t) (Holder c sheet inner u)
shrinks_on c sheet inner t u s = record {
  document = with_rest c.head.form c.head sheet (document_boxes inner) (document_boxes t) (document_boxes u) s.document;
  zeros = some_behind (own_zeros c.head.form sheet) (zeros_in inner ++ zeros_in t) (zeros_in inner ++ zeros_in u) (some_behind (zeros_in inner) (zeros_in t) (zeros_in u) s.zeros);
}

shrinks_inside : (c : Cell) (sheet : Sheet) (t u rest : Trees) → c.head.form ≡ Sub → Shrinks t u → Shrinks (Holder c sheet t rest) (Holder c sheet u rest)
shrinks_inside c sheet t u rest form s = record {
  document = with_inner c.head sheet (document_boxes t) (document_boxes u) (document_boxes rest) form s.document;
  zeros = some_behind (own_zeros c.head.form sheet) (zeros_in t ++ zeros_in rest) (zeros_in u ++ zeros_in rest) (some_before (zeros_in t) (zeros_in u) (zeros_in rest) s.zeros);
}

shrinks_around : (before t u : Trees) → Shrinks t u → Shrinks (join before t) (join before u)
shrinks_around Done t u s = s
shrinks_around (Leaf c before) t u s = shrinks_behind c (join before t) (join before u) (shrinks_around before t u s)
shrinks_around (Holder c sheet inner before) t u s = shrinks_on c sheet inner (join before t) (join before u) (shrinks_around before t u s)

-- a box goes from its place with all that lies in it
first_with : (form : Shape) (h : Head) (s : Sheet) (inner rest : Boxes) → AreNoMore (box_with form h s inner rest) rest
first_with Sub h s inner rest = first_gone h (frame_in s) inner rest
first_with f h s inner rest = first_gone h (frame_of empty_page) _ rest

box_gone : (t : Trees) (n : ℕ) → Shrinks t (boxes_less n t)
box_gone Done n = record { document = all_stay (document_boxes Done); zeros = λ P A. A }
box_gone (Leaf c rest) zero = record { document = first_gone c.head (frame_of empty_page) _ (document_boxes rest); zeros = λ P A. A }
box_gone (Leaf c rest) (suc n) = shrinks_behind c rest (boxes_less n rest) (box_gone rest n)
box_gone (Holder c s inner rest) zero = record {
  document = first_with c.head.form c.head s (document_boxes inner) (document_boxes rest);
  zeros = λ P A. some_last (zeros_in inner) (zeros_in rest) P (some_last (own_zeros c.head.form s) (zeros_in inner ++ zeros_in rest) P A);
}
box_gone (Holder c s inner rest) (suc n) = shrinks_on c s inner rest (boxes_less n rest) (box_gone rest n)

-- a canvas of which the boxes shrink, and what lies around it
record CanvasShrinks (t u : Tree) : Type 1 where
  sheet : u.sheet ≡ t.sheet
  boxes : Shrinks t.boxes u.boxes

nest_shrinks : (nest : Nest) (t u : Tree) → AreSubpatches nest → CanvasShrinks t u → CanvasShrinks (nested nest t) (nested nest u)
nest_shrinks Alone t u sub s = s
nest_shrinks (Inside sheet before c nest behind) t u sub s =
    let v = nested nest t in
    let w = nested nest u in
    let on = nest_shrinks nest t u sub.1 s in
    record {
      sheet = refl;
      boxes = shrinks_around before (Holder c v.sheet v.boxes behind) (Holder c w.sheet w.boxes behind)
          (subst (λ (x : Sheet). Shrinks (Holder c v.sheet v.boxes behind) (Holder c x w.boxes behind)) (sym on.sheet)
          (shrinks_inside c v.sheet v.boxes w.boxes behind sub.0 on.boxes));
    }

-- the canvas to which a path leads without a box
module _ (g : Grove) (path : List ℕ) (canvas n : ℕ) (t : Tree) (F : Forest g) (G : GroveStands g t.sheet t.boxes) (leads : sub_reached g (Some g.root) path ≡ Some canvas) where
  whole : CanvasShrinks t (taken_at path n t)
  whole =
      let along = path_along g path canvas t F G leads in
      let u = along.0 in
      let w = path_within path t u along.1 in
      subst (λ (x : Tree). CanvasShrinks t x) (sym (w.changed (less_box n)))
      (subst (λ (x : Tree). CanvasShrinks x (nested w.nest (less_box n u))) (sym w.whole)
      (nest_shrinks w.nest u (less_box n u) w.subpatches
      (record { sheet = refl; boxes = box_gone u.boxes n })))

  pub zeros_left : (P : ℕ → Type 0) → AllByRecursion P (zeros_of t) → AllByRecursion P (zeros_of (taken_at path n t))
  zeros_left P A = (subst (λ (s : Sheet). P s.zero) (sym whole.sheet) A.0, whole.boxes.zeros P A.1)

  pub no_deeper : levels (document_boxes (taken_at path n t).boxes) ≤ levels (document_boxes t.boxes)
  no_deeper = whole.boxes.document.levels

  pub proper_less : (names : Names) → IsProper names (document_in t) → IsProper names (document_in (taken_at path n t))
  proper_less names p =
      let m = whole.boxes.document in
      record {
        sound = (subst (λ (s : Sheet). IsFrame names (frame_in s)) (sym whole.sheet) p.sound.0, m.sound names p.sound.1);
        limits = record {
          boxes = below (weight (document_boxes t.boxes)) (weight (document_boxes (taken_at path n t).boxes)) m.boxes p.limits.boxes;
          wires = few (length t.sheet.wires) (length (taken_at path n t).sheet.wires) (inner_wires (document_boxes t.boxes)) (inner_wires (document_boxes (taken_at path n t).boxes))
              (ap (λ (s : Sheet). length s.wires) whole.sheet) m.wires p.limits.wires;
          levels = low (levels (document_boxes t.boxes)) (levels (document_boxes (taken_at path n t).boxes)) m.levels p.limits.levels;
        };
      }
    where
      below : (a b : ℕ) → b ≤ a → a ≤ 16384 → b ≤ 16384
      below a b h k = omega (arith, h, k)

      few : (l m i j : ℕ) → m ≡ l → j ≤ i → l + i ≤ 65536 → m + j ≤ 65536
      few l m i j e h k = omega (arith, e, h, k)

      low : (a b : ℕ) → b ≤ a → a + 1 ≤ 256 → b + 1 ≤ 256
      low a b h k = omega (arith, h, k)
