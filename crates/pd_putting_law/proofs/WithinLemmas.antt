-- A change of the canvas to which a path leads, and what lies around it.
use Rattle.std.proofs.Common.{◌≡◌, ℕ, zero, suc, ◌+◌, ◌≤◌, max, List, [], ◌∷◌, length, Option, Some, None, refl, sym, ap, ◌∙◌, subst, arith}
use Rattle.std.specs.Prelude.{option_and_then}
use Rattle.std.proofs.lemmas.Option.{none-some, same_Some}
use Rattle.pd_canvas.specs.Pages.{Shape, Sub, Head, Boxes}
use Rattle.pd_canvas.specs.Proper.{levels, levels_of}
use Rattle.pd_tree.specs.declared.rows.Sheet.{Sheet}
use Rattle.pd_tree.specs.Trees.{Cell, Trees, Done, Leaf, Holder, Tree, join, width, box_with, document_boxes}
use Rattle.pd_regrowth_law.specs.Canvases.{canvas_with, Nest, Alone, Inside, nested, AreSubpatches, left_outside, sub_canvas, own_in_box, own_along}
use Rattle.pd_regrowth_law.proofs.PartLemmas.{join_done}
use Rattle.pd_reload_law.specs.Saving.{AreMade}
use Rattle.pd_putting_law.specs.Puts.{boxes_before, change_inside, change_at, put_at, put_before, with_before, with_boxes}

-- the subpatch of a number, between the boxes before and behind it, as it is and with another canvas
record SubAt (n : ℕ) (boxes : Trees) (t : Tree) : Type 0 where
  before : Trees
  cell : Cell
  behind : Trees
  whole : boxes ≡ join before (Holder cell t.sheet t.boxes behind)
  form : cell.head.form ≡ Sub
  changed : (f : Tree → Tree) → change_inside n f boxes ≡ join before (Holder cell (f t).sheet (f t).boxes behind)

record IsSubCanvas (form : Shape) (sheet : Sheet) (inner : Trees) (t : Tree) : Type 0 where
  is_sub : form ≡ Sub
  canvas : canvas_with sheet inner ≡ t

sub_is : (form : Shape) (sheet : Sheet) (inner : Trees) (t : Tree) → sub_canvas form sheet inner ≡ Some t → IsSubCanvas form sheet inner t
sub_is Sub sheet inner t h = record { is_sub = refl; canvas = same_Some (canvas_with sheet inner) t h }
sub_is form sheet inner t h = absurd (none-some t h)

sub_at : (n : ℕ) (boxes : Trees) (t : Tree) → own_in_box n boxes ≡ Some t → SubAt n boxes t
sub_at n Done t h = absurd (none-some t h)
sub_at zero (Leaf c rest) t h = absurd (none-some t h)
sub_at zero (Holder c sheet inner rest) t h =
    let s = sub_is c.head.form sheet inner t h in
    record {
      before = Done;
      cell = c;
      behind = rest;
      whole = ap (λ (y : Tree). Holder c y.sheet y.boxes rest) s.canvas;
      form = s.is_sub;
      changed = λ f. ap (λ (y : Tree). Holder c (f y).sheet (f y).boxes rest) s.canvas;
    }
sub_at (suc n) (Leaf c rest) t h =
    let g = sub_at n rest t h in
    record {
      before = Leaf c g.before;
      cell = g.cell;
      behind = g.behind;
      whole = ap (Leaf c) g.whole;
      form = g.form;
      changed = λ f. ap (Leaf c) (g.changed f);
    }
sub_at (suc n) (Holder c sheet inner rest) t h =
    let g = sub_at n rest t h in
    record {
      before = Holder c sheet inner g.before;
      cell = g.cell;
      behind = g.behind;
      whole = ap (Holder c sheet inner) g.whole;
      form = g.form;
      changed = λ f. ap (Holder c sheet inner) (g.changed f);
    }

-- a canvas with what lies around it, as it is and changed
pub record ChangesWithin (path : List ℕ) (t u : Tree) : Type 0 where
  pub nest : Nest
  pub whole : t ≡ nested nest u
  pub subpatches : AreSubpatches nest
  pub deep : (left : ℕ) → left_outside nest left ≡ length path + left
  pub changed : (f : Tree → Tree) → change_at path f t ≡ nested nest (f u)

pub path_within : (path : List ℕ) (t u : Tree) → own_along path t ≡ Some u → ChangesWithin path t u
path_within [] t u h =
    let same : t ≡ u = same_Some t u h in
    record { nest = Alone; whole = same; subpatches = tt; deep = λ left. omega arith; changed = λ f. ap f same }
path_within (n ∷ path) t u h = on (λ v k. path_within path v u k) (own_in_box n t.boxes) refl h
  where
    more : (m n left : ℕ) → m ≡ n + left → suc m ≡ suc n + left
    more m n left e = omega (arith, e)

    on : ((v : Tree) → own_along path v ≡ Some u → ChangesWithin path v u) → (o : Option Tree) → own_in_box n t.boxes ≡ o
        → option_and_then (own_along path) o ≡ Some u → ChangesWithin (n ∷ path) t u
    on further None e k = absurd (none-some u k)
    on further (Some v) e k =
        let g = sub_at n t.boxes v e in
        let r = further v k in
        record {
          nest = Inside t.sheet g.before g.cell r.nest g.behind;
          whole = ap (canvas_with t.sheet) (g.whole ∙ ap (λ (y : Tree). join g.before (Holder g.cell y.sheet y.boxes g.behind)) r.whole);
          subpatches = (g.form, r.subpatches);
          deep = λ left. more (left_outside r.nest left) (length path) left (r.deep left);
          changed = λ f. ap (canvas_with t.sheet)
              (g.changed (change_at path f) ∙ ap (λ (y : Tree). join g.before (Holder g.cell y.sheet y.boxes g.behind)) (r.changed f));
        }

-- ---- boxes before that of a number

pub record PartsAt (n : ℕ) (t : Trees) : Type 0 where
  pub before : Trees
  pub behind : Trees
  pub whole : t ≡ join before behind
  pub more : (new : Trees) → boxes_before n new t ≡ join before (join new behind)

pub parts_at : (n : ℕ) (t : Trees) → PartsAt n t
parts_at zero t = record { before = Done; behind = t; whole = refl; more = λ new. refl }
parts_at (suc n) Done = record { before = Done; behind = Done; whole = refl; more = λ new. sym (join_done new) }
parts_at (suc n) (Leaf c rest) =
    let p = parts_at n rest in
    record { before = Leaf c p.before; behind = p.behind; whole = ap (Leaf c) p.whole; more = λ new. ap (Leaf c) (p.more new) }
parts_at (suc n) (Holder c s inner rest) =
    let p = parts_at n rest in
    record {
      before = Holder c s inner p.before;
      behind = p.behind;
      whole = ap (Holder c s inner) p.whole;
      more = λ new. ap (Holder c s inner) (p.more new);
    }

next : (n : ℕ) → n + 1 ≡ suc n
next n = omega arith

-- with the number of all boxes they come last
pub before_last : (new t : Trees) → boxes_before (width t) new t ≡ join t new
before_last new Done = join_done new
before_last new (Leaf c rest) = ap (λ n. boxes_before n new (Leaf c rest)) (next (width rest)) ∙ ap (Leaf c) (before_last new rest)
before_last new (Holder c s inner rest) =
    ap (λ n. boxes_before n new (Holder c s inner rest)) (next (width rest)) ∙ ap (Holder c s inner) (before_last new rest)

pub put_before_last : (path : List ℕ) (t u : Tree) (new : Trees) → own_along path t ≡ Some u → put_before path (width u.boxes) new t ≡ put_at path new t
put_before_last path t u new at =
    let p = path_within path t u at in
    p.changed (with_before (width u.boxes) new) ∙ ap (λ (x : Trees). nested p.nest (canvas_with u.sheet x)) (before_last new u.boxes)
    ∙ sym (p.changed (with_boxes new))

-- ---- how deep canvases lie in one another

sub_levels : (c : Cell) (s : Sheet) (inner rest : Boxes) → c.head.form ≡ Sub → levels (box_with c.head.form c.head s inner rest) ≡ max (levels inner + 1) (levels rest)
sub_levels c s inner rest f =
    ap (λ (y : Shape). levels (box_with y c.head s inner rest)) f ∙ ap (λ (y : Shape). max (levels_of y (levels inner)) (levels rest)) f

abbrev kept_levels : Shape → Head → Boxes → ℕ
kept_levels Sub h inner = levels_of h.form (levels inner)
kept_levels f h inner = levels_of h.form 0

box_levels : (f : Shape) (h : Head) (s : Sheet) (inner rest : Boxes) → levels (box_with f h s inner rest) ≡ max (kept_levels f h inner) (levels rest)
box_levels Sub h s inner rest = refl
box_levels f h s inner rest = refl

pub levels_join : (t u : Trees) → levels (document_boxes (join t u)) ≡ max (levels (document_boxes t)) (levels (document_boxes u))
levels_join Done u = none (levels (document_boxes u))
  where
    none : (n : ℕ) → n ≡ max 0 n
    none n = omega arith
levels_join (Leaf c t) u = both (levels_of c.head.form 0) (levels (document_boxes (join t u))) (levels (document_boxes t)) (levels (document_boxes u)) (levels_join t u)
  where
    both : (l j a b : ℕ) → j ≡ max a b → max l j ≡ max (max l a) b
    both l j a b h = omega (arith, h)
levels_join (Holder c s inner t) u =
    let f = c.head.form in
    let d = document_boxes inner in
    let l = kept_levels f c.head d in
    box_levels f c.head s d (document_boxes (join t u))
    ∙ both l (levels (document_boxes (join t u))) (levels (document_boxes t)) (levels (document_boxes u)) (levels_join t u)
    ∙ ap (λ n. max n (levels (document_boxes u))) (sym (box_levels f c.head s d (document_boxes t)))
  where
    both : (l j a b : ℕ) → j ≡ max a b → max l j ≡ max (max l a) b
    both l j a b h = omega (arith, h)

-- a canvas around, and its parts
pub around_levels : (before behind : Trees) (c : Cell) (t : Tree) → c.head.form ≡ Sub
    → levels (document_boxes (join before (Holder c t.sheet t.boxes behind)))
    ≡ max (levels (document_boxes before)) (max (levels (document_boxes t.boxes) + 1) (levels (document_boxes behind)))
around_levels before behind c t f =
    levels_join before (Holder c t.sheet t.boxes behind)
    ∙ ap (max (levels (document_boxes before))) (sub_levels c t.sheet (document_boxes t.boxes) (document_boxes behind) f)

pub inside_levels : (nest : Nest) (u : Tree) (left n : ℕ) → AreSubpatches nest → left_outside nest left ≡ n → levels (document_boxes (nested nest u).boxes) ≤ n
    → levels (document_boxes u.boxes) ≤ left
inside_levels Alone u left n f e h = omega (arith, e, h)
inside_levels (Inside sheet before c nest behind) u left n f e h =
    let t = nested nest u in
    inside_levels nest u left (left_outside nest left) f.1 refl
    (less (levels (document_boxes before)) (levels (document_boxes t.boxes)) (levels (document_boxes behind)) (left_outside nest left) n
    (levels (document_boxes (join before (Holder c t.sheet t.boxes behind)))) (around_levels before behind c t f.0) e h)
  where
    less : (a i b m n x : ℕ) → x ≡ max a (max (i + 1) b) → suc m ≡ n → x ≤ n → i ≤ m
    less a i b m n x h e k = omega (arith, h, e, k)

pub outside_levels : (nest : Nest) (u v : Tree) (left n : ℕ) → AreSubpatches nest → left_outside nest left ≡ n → levels (document_boxes (nested nest u).boxes) ≤ n
    → levels (document_boxes v.boxes) ≤ left → levels (document_boxes (nested nest v).boxes) ≤ n
outside_levels Alone u v left n f e h k = omega (arith, e, k)
outside_levels (Inside sheet before c nest behind) u v left n f e h k =
    let t = nested nest u in
    let r = nested nest v in
    let m = left_outside nest left in
    let a = levels (document_boxes before) in
    let b = levels (document_boxes behind) in
    let whole = levels (document_boxes (join before (Holder c t.sheet t.boxes behind))) in
    let inner : levels (document_boxes t.boxes) ≤ m = less a (levels (document_boxes t.boxes)) b m n whole (around_levels before behind c t f.0) e h in
    more a (levels (document_boxes t.boxes)) (levels (document_boxes r.boxes)) b m n whole (levels (document_boxes (join before (Holder c r.sheet r.boxes behind))))
    (around_levels before behind c t f.0) (around_levels before behind c r f.0) e h (outside_levels nest u v left m f.1 refl inner k)
  where
    less : (a i b m n x : ℕ) → x ≡ max a (max (i + 1) b) → suc m ≡ n → x ≤ n → i ≤ m
    less a i b m n x h e k = omega (arith, h, e, k)

    more : (a i j b m n x y : ℕ) → x ≡ max a (max (i + 1) b) → y ≡ max a (max (j + 1) b) → suc m ≡ n → x ≤ n → j ≤ m → y ≤ n
    more a i j b m n x y p q e h k = omega (arith, p, q, e, h, k)

-- ---- what is made

made_behind : (t u : Trees) → AreMade (join t u) → AreMade u
made_behind Done u m = m
made_behind (Leaf c t) u m = made_behind t u m.1
made_behind (Holder c s inner t) u m = made_behind t u m.2

made_inside : (nest : Nest) (u : Tree) → AreMade (nested nest u).boxes → AreMade u.boxes
made_inside Alone u m = m
made_inside (Inside sheet before c nest behind) u m =
    let t = nested nest u in
    made_inside nest u (made_behind before (Holder c t.sheet t.boxes behind) m).1

made_front : (t u : Trees) → AreMade (join t u) → AreMade t
made_front Done u m = tt
made_front (Leaf c t) u m = (m.0, made_front t u m.1)
made_front (Holder c s inner t) u m = (m.0, m.1, made_front t u m.2)

-- what came is made
pub made_before : (nest : Nest) (u : Tree) (n : ℕ) (new : Trees) → AreMade (nested nest (with_before n new u)).boxes → AreMade new
made_before nest u n new m =
    let q = parts_at n u.boxes in
    made_front new q.behind (made_behind q.before (join new q.behind) (subst AreMade (q.more new) (made_inside nest (with_before n new u) m)))
