-- A box at another place in one canvas, and what grows again.
use Rattle.std.proofs.Common.{◌≡◌, ℕ, zero, suc, ℤ, ◌+◌, ◌≤◌, max, List, length, slice_get, Option, Some, refl, sym, ap, ◌∙◌, subst, arith}
use Rattle.std.specs.Prelude.{◌-◌}
use Rattle.slab.specs.Slab.{get}
use Rattle.pd_atom.specs.Names.{Names}
use Rattle.pd_canvas.specs.Proper.{IsProper, levels}
use Rattle.pd_library.specs.declared.answers.Answer.{Answer}
use Rattle.pd_tree.specs.Trees.{Trees, Done, Leaf, Holder, Tree, join, document_boxes, document_in}
use Rattle.pd_grove.specs.OwnPaths.{sub_reached}
use Rattle.pd_grove.proofs.PlaceLemmas.{seen_keys}
use Rattle.pd_patch.specs.declared.patch.Patch.{Patch}
use Rattle.pd_boxes.specs.Put.{CanPut}
use Rattle.pd_regrowth_law.specs.Canvases.{Site, IsSite, Regrows, CanvasRegrows, own_site, own_along, canvas_with, Nest, Alone, Inside, nested, AreSubpatches, left_outside}
use Rattle.pd_regrowth_law.specs.Suits.{TextsOf}
use Rattle.pd_regrowth_law.proofs.EditLemmas.{canvas_changed, nest_texts}
use Rattle.pd_regrowth_law.proofs.MoveLemmas.{leaf_moved, holder_moved}
use Rattle.pd_regrowth_law.proofs.NestLemmas.{own_suits}
use Rattle.pd_regrowth_law.proofs.OwnLemmas.{own_parted, texts_behind}
use Rattle.pd_reload_law.specs.Reloading.{RunsAs}
use Rattle.pd_putting_law.specs.Again.{StandsAgain}
use Rattle.pd_putting_law.proofs.StandLemmas.{path_along}
use Rattle.pd_putting_law.proofs.WithinLemmas.{path_within, inside_levels, around_levels}
use Rattle.pd_putting_law.proofs.AgainLemmas.{canvas_regrows, change_stands}
use Rattle.pd_shifting.specs.declared.shifting.MovedBox.{MovedBox}
use Rattle.pd_shifting.specs.Moves.{MovesBox}
use Rattle.pd_shifting.proofs.MoveLemmas.{is_moving}
use Rattle.pd_shifted_law.specs.Shifts.{cell_at, boxes_shifted, shifted_box, shifted_at}
use Rattle.pd_shift_law.proofs.ProperLemmas.{head_at, AreMoved, CanvasMoved, boxes_moved, nest_moved, moved_proper}

-- the boxes before that of a number, that box as it is and at another place, and those behind
record PartsAt (n : ℕ) (x y : ℤ) (t : Trees) : Type 0 where
  before : Trees
  box : Trees
  other : Trees
  behind : Trees
  whole : t ≡ join before (join box behind)
  shifted : boxes_shifted n x y t ≡ join before (join other behind)
  again : (s : Site) (left : ℕ) → Regrows s left box → Regrows s left other

parts_at : (n : ℕ) (x y : ℤ) (t : Trees) → PartsAt n x y t
parts_at n x y Done = record { before = Done; box = Done; other = Done; behind = Done; whole = refl; shifted = refl; again = λ s left h. h }
parts_at zero x y (Leaf c rest) = record {
  before = Done;
  box = Leaf c Done;
  other = Leaf (cell_at x y c) Done;
  behind = rest;
  whole = refl;
  shifted = refl;
  again = λ s left h. leaf_moved s left c (head_at x y c.head) (record { form = refl; text = refl }) h;
}
parts_at zero x y (Holder c sheet inner rest) = record {
  before = Done;
  box = Holder c sheet inner Done;
  other = Holder (cell_at x y c) sheet inner Done;
  behind = rest;
  whole = refl;
  shifted = refl;
  again = λ s left h. holder_moved s left c (head_at x y c.head) sheet inner (record { form = refl; text = refl }) h;
}
parts_at (suc n) x y (Leaf c rest) =
    let p = parts_at n x y rest in
    record {
      before = Leaf c p.before;
      box = p.box;
      other = p.other;
      behind = p.behind;
      whole = ap (Leaf c) p.whole;
      shifted = ap (Leaf c) p.shifted;
      again = p.again;
    }
parts_at (suc n) x y (Holder c sheet inner rest) =
    let p = parts_at n x y rest in
    record {
      before = Holder c sheet inner p.before;
      box = p.box;
      other = p.other;
      behind = p.behind;
      whole = ap (Holder c sheet inner) p.whole;
      shifted = ap (Holder c sheet inner) p.shifted;
      again = p.again;
    }

-- the boxes of a canvas grow again with that box elsewhere
canvas_shifted : (s : Site) (left n : ℕ) (x y : ℤ) (u : Tree) → IsSite s → TextsOf s.names (document_boxes u.boxes) → CanvasRegrows s left u
    → CanvasRegrows s left (shifted_box n x y u)
canvas_shifted s left n x y u i o k =
    let p = parts_at n x y u.boxes in
    let texts = subst (λ (t : Trees). TextsOf s.names (document_boxes t)) p.whole o in
    let all = subst (λ (t : Trees). CanvasRegrows s left (canvas_with u.sheet t)) p.whole k in
    let behind = (own_parted s left p.before (join p.box p.behind) i texts all.boxes).1 in
    let box = (own_parted s left p.box p.behind i (texts_behind s.names p.before (join p.box p.behind) texts) behind).0 in
    subst (λ (t : Trees). CanvasRegrows s left (canvas_with u.sheet t)) (sym p.shifted)
    (canvas_changed s left u.sheet u.sheet p.before p.box p.other p.behind i texts all refl refl (p.again s left box))

-- canvases lie no deeper than there are levels
nest_low : (nest : Nest) (u : Tree) → AreSubpatches nest → left_outside nest 0 ≤ levels (document_boxes (nested nest u).boxes)
nest_low Alone u f = omega arith
nest_low (Inside sheet before c nest behind) u f =
    let t = nested nest u in
    more (levels (document_boxes before)) (levels (document_boxes t.boxes)) (levels (document_boxes behind)) (left_outside nest 0)
    (levels (document_boxes (join before (Holder c t.sheet t.boxes behind)))) (around_levels before behind c t f.0) (nest_low nest u f.1)
  where
    more : (a i b m x : ℕ) → x ≡ max a (max (i + 1) b) → m ≤ i → suc m ≤ x
    more a i b m x h k = omega (arith, h, k)

shifted_stands : (lib : ℕ → Option Answer) (file : List ℕ) (names : Names) (path : List ℕ) (n : ℕ) (x y : ℤ) (t u : Tree) → StandsAgain lib file names t
    → own_along path t ≡ Some u → AreMoved (document_boxes u.boxes) (document_boxes (boxes_shifted n x y u.boxes)) → StandsAgain lib file names (shifted_at path n x y t)
shifted_stands lib file names path n x y t u s at m =
    let p = path_within path t u at in
    let texts : TextsOf names (document_boxes u.boxes) =
    nest_texts names p.nest u p.subpatches (subst (λ (x : Tree). TextsOf names (document_boxes x.boxes)) p.whole s.texts) in
    let deep = subst (λ (x : Tree). levels (document_boxes x.boxes) ≤ 255) p.whole s.shallow in
    let low : length path ≤ 255 =
    short (length path) (left_outside p.nest 0) (levels (document_boxes (nested p.nest u).boxes)) (p.deep 0) (nest_low p.nest u p.subpatches) deep in
    let left = 255 - length path in
    let out : length path + left ≡ 255 = rest (length path) low in
    change_stands lib file names left path t u (shifted_box n x y) s at out (m.texts names texts)
    (subst (λ (l : ℕ). l ≤ left) (sym m.levels) (inside_levels p.nest u left 255 p.subpatches (p.deep left ∙ out) deep))
    (canvas_shifted (own_site lib file names t.sheet.zero) left n x y u (own_suits lib file names t.sheet.zero s.library) texts
    (canvas_regrows lib file names left path t u s at out))
  where
    short : (l m d : ℕ) → m ≡ l + 0 → m ≤ d → d ≤ 255 → l ≤ 255
    short l m d e h k = omega (arith, e, h, k)

    rest : (l : ℕ) → l ≤ 255 → l + (255 - l) ≡ 255
    rest l h = omega (arith, h)

-- ---- a patch

-- the canvas to which the path leads, and its document
record MovedThere (path : List ℕ) (n : ℕ) (x y : ℤ) (t : Tree) : Type 0 where
  canvas : Tree
  own : own_along path t ≡ Some canvas
  moved : AreMoved (document_boxes canvas.boxes) (document_boxes (boxes_shifted n x y canvas.boxes))

module _ (p q : Patch) (path : List ℕ) (number : ℕ) (x y : ℤ) (b : MovedBox) (t : Tree) (M : MovesBox p q path number x y b) (C : CanPut p) (R : RunsAs p.grove t) where
  there : MovedThere path number x y t
  there =
      let g = p.grove in
      let at = is_moving g number (sub_reached g (Some g.root) path) b.canvas b.key M.is in
      let along = path_along g path b.canvas t C.forest R.stands at.leads in
      let S = along.2 in
      record {
        canvas = along.0;
        own = along.1;
        moved = boxes_moved (get g.nodes) (get g.boards) b.key x y M.x_told M.y_told at.no_array b.canvas S.depth S.keys along.0.boxes number S.stands
            (ap (λ (ks : List ℕ). slice_get ks number) (sym (seen_keys (get g.boards b.canvas) _ S.board)) ∙ at.is);
      }

  pub still_again : (lib : ℕ → Option Answer) (file : List ℕ) (names : Names) → StandsAgain lib file names t → StandsAgain lib file names (shifted_at path number x y t)
  still_again lib file names s = shifted_stands lib file names path number x y t there.canvas s there.own there.moved

  tree_moved : CanvasMoved t (shifted_at path number x y t)
  tree_moved =
      let u = there.canvas in
      let v = shifted_box number x y u in
      let w = path_within path t u there.own in
      subst (λ (z : Tree). CanvasMoved t z) (sym (w.changed (shifted_box number x y)))
      (subst (λ (z : Tree). CanvasMoved z (nested w.nest v)) (sym w.whole) (nest_moved w.nest u v w.subpatches (record { sheet = refl; boxes = there.moved })))

  pub still_proper : (later : Names) → IsProper later (document_in t) → IsProper later (document_in (shifted_at path number x y t))
  still_proper later k = moved_proper later t (shifted_at path number x y t) tree_moved k
