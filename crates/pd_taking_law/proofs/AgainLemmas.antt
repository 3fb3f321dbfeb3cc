-- A box less in one canvas, and what grows again.
use Rattle.std.proofs.Common.{◌≡◌, ℕ, zero, suc, ◌+◌, ◌≤◌, max, List, length, Option, Some, refl, sym, ap, ◌∙◌, subst, arith}
use Rattle.std.specs.Prelude.{◌-◌}
use Rattle.pd_atom.specs.Names.{Names}
use Rattle.pd_canvas.specs.Proper.{levels}
use Rattle.pd_library.specs.declared.answers.Answer.{Answer}
use Rattle.pd_tree.specs.Trees.{Trees, Done, Leaf, Holder, Tree, join, document_boxes}
use Rattle.pd_grove.specs.declared.grove.Grove.{Grove}
use Rattle.pd_regrowth_law.specs.Canvases.{Site, IsSite, CanvasRegrows, own_site, own_along, canvas_with, Nest, Alone, Inside, nested, AreSubpatches, left_outside}
use Rattle.pd_regrowth_law.specs.Suits.{TextsOf}
use Rattle.pd_regrowth_law.proofs.EditLemmas.{canvas_changed, nest_texts, texts_join}
use Rattle.pd_regrowth_law.proofs.NestLemmas.{own_suits}
use Rattle.pd_regrowth_law.proofs.OwnLemmas.{texts_before, texts_behind}
use Rattle.pd_regrowth_law.proofs.PartLemmas.{nothing_regrows}
use Rattle.pd_reload_law.specs.Reloading.{RunsAs}
use Rattle.pd_putting_law.specs.Again.{StandsAgain}
use Rattle.pd_putting_law.proofs.StandLemmas.{path_along}
use Rattle.pd_putting_law.proofs.WithinLemmas.{path_within, levels_join, inside_levels, around_levels}
use Rattle.pd_putting_law.proofs.AgainLemmas.{canvas_regrows, change_stands}
use Rattle.pd_taking_law.specs.Takes.{boxes_less, less_box, taken_at}
use Rattle.pd_taking_law.specs.Taking.{TakesBoxAt}

-- the boxes before that of a number, that box, and those behind
record PartsAt (n : ℕ) (t : Trees) : Type 0 where
  before : Trees
  box : Trees
  behind : Trees
  whole : t ≡ join before (join box behind)
  less : boxes_less n t ≡ join before behind

parts_at : (n : ℕ) (t : Trees) → PartsAt n t
parts_at n Done = record { before = Done; box = Done; behind = Done; whole = refl; less = refl }
parts_at zero (Leaf c rest) = record { before = Done; box = Leaf c Done; behind = rest; whole = refl; less = refl }
parts_at zero (Holder c s inner rest) = record { before = Done; box = Holder c s inner Done; behind = rest; whole = refl; less = refl }
parts_at (suc n) (Leaf c rest) =
    let p = parts_at n rest in
    record { before = Leaf c p.before; box = p.box; behind = p.behind; whole = ap (Leaf c) p.whole; less = ap (Leaf c) p.less }
parts_at (suc n) (Holder c s inner rest) =
    let p = parts_at n rest in
    record {
      before = Holder c s inner p.before;
      box = p.box;
      behind = p.behind;
      whole = ap (Holder c s inner) p.whole;
      less = ap (Holder c s inner) p.less;
    }

texts_less : (names : Names) (n : ℕ) (t : Trees) → TextsOf names (document_boxes t) → TextsOf names (document_boxes (boxes_less n t))
texts_less names n t o =
    let p = parts_at n t in
    let all = subst (λ (x : Trees). TextsOf names (document_boxes x)) p.whole o in
    subst (λ (x : Trees). TextsOf names (document_boxes x)) (sym p.less)
    (texts_join names p.before p.behind (texts_before names p.before (join p.box p.behind) all)
    (texts_behind names p.box p.behind (texts_behind names p.before (join p.box p.behind) all)))

levels_less : (n : ℕ) (t : Trees) (left : ℕ) → levels (document_boxes t) ≤ left → levels (document_boxes (boxes_less n t)) ≤ left
levels_less n t left low =
    let p = parts_at n t in
    let a = levels (document_boxes p.before) in
    let b = levels (document_boxes p.box) in
    let c = levels (document_boxes p.behind) in
    smaller a b c (levels (document_boxes (join p.box p.behind))) (levels (document_boxes t)) (levels (document_boxes (boxes_less n t))) left
    (levels_join p.box p.behind) (ap (λ (x : Trees). levels (document_boxes x)) p.whole ∙ levels_join p.before (join p.box p.behind))
    (ap (λ (x : Trees). levels (document_boxes x)) p.less ∙ levels_join p.before p.behind) low
  where
    smaller : (a b c i t l left : ℕ) → i ≡ max b c → t ≡ max a i → l ≡ max a c → t ≤ left → l ≤ left
    smaller a b c i t l left p q r h = omega (arith, p, q, r, h)

canvas_less : (s : Site) (left n : ℕ) (u : Tree) → IsSite s → TextsOf s.names (document_boxes u.boxes) → CanvasRegrows s left u → CanvasRegrows s left (less_box n u)
canvas_less s left n u i o k =
    let p = parts_at n u.boxes in
    subst (λ (x : Trees). CanvasRegrows s left (canvas_with u.sheet x)) (sym p.less)
    (canvas_changed s left u.sheet u.sheet p.before p.box Done p.behind i (subst (λ (x : Trees). TextsOf s.names (document_boxes x)) p.whole o)
    (subst (λ (x : Trees). CanvasRegrows s left (canvas_with u.sheet x)) p.whole k) refl refl (nothing_regrows s left))

-- canvases lie no deeper than there are levels
nest_low : (nest : Nest) (u : Tree) → AreSubpatches nest → left_outside nest 0 ≤ levels (document_boxes (nested nest u).boxes)
nest_low Alone u f = omega arith
nest_low (Inside sheet before c nest behind) u f =
    let t = nested nest u in
    more (levels (document_boxes before)) (levels (document_boxes t.boxes)) (levels (document_boxes behind)) (left_outside nest 0)
    (levels (document_boxes (join before (Holder c t.sheet t.boxes behind)))) (around_levels before behind c t f.0) (nest_low nest u f.1)
  where
    more : (a i b m x : ℕ) → x ≡ max a (max (i + 1) b) → m ≤ i → suc m ≤ x
    more a i b m x h k = omega (arith, h, k)

pub less_stands : (lib : ℕ → Option Answer) (file : List ℕ) (names : Names) (path : List ℕ) (n : ℕ) (t u : Tree) → StandsAgain lib file names t
    → own_along path t ≡ Some u → StandsAgain lib file names (taken_at path n t)
less_stands lib file names path n t u s at =
    let p = path_within path t u at in
    let texts : TextsOf names (document_boxes u.boxes) =
    nest_texts names p.nest u p.subpatches (subst (λ (x : Tree). TextsOf names (document_boxes x.boxes)) p.whole s.texts) in
    let deep = subst (λ (x : Tree). levels (document_boxes x.boxes) ≤ 255) p.whole s.shallow in
    let low : length path ≤ 255 =
    short (length path) (left_outside p.nest 0) (levels (document_boxes (nested p.nest u).boxes)) (p.deep 0) (nest_low p.nest u p.subpatches) deep in
    let left = 255 - length path in
    let out : length path + left ≡ 255 = rest (length path) low in
    let site = own_site lib file names t.sheet.zero in
    change_stands lib file names left path t u (less_box n) s at out (texts_less names n u.boxes texts)
    (levels_less n u.boxes left (inside_levels p.nest u left 255 p.subpatches (p.deep left ∙ out) deep))
    (canvas_less site left n u (own_suits lib file names t.sheet.zero s.library) texts (canvas_regrows lib file names left path t u s at out))
  where
    short : (l m d : ℕ) → m ≡ l + 0 → m ≤ d → d ≤ 255 → l ≤ 255
    short l m d e h k = omega (arith, e, h, k)

    rest : (l : ℕ) → l ≤ 255 → l + (255 - l) ≡ 255
    rest l h = omega (arith, h)

-- the path leads to a canvas of the document
pub deleted_stands : (lib : ℕ → Option Answer) (file : List ℕ) (names : Names) (g h : Grove) (path : List ℕ) (canvas key n : ℕ) (t : Tree)
    → StandsAgain lib file names t → RunsAs g t → TakesBoxAt g h path canvas key n → StandsAgain lib file names (taken_at path n t)
deleted_stands lib file names g h path canvas key n t s r B =
    let p = path_along g path canvas t B.forest r.stands B.leads in
    less_stands lib file names path n t p.0 s p.1
