-- Another box in one canvas, and what grows again.
use Rattle.std.proofs.Common.{◌≡◌, ℕ, zero, suc, ◌+◌, ◌≤◌, max, List, [], ◌∷◌, length, slice_get, Option, Some, None, inl, inr, refl, sym, ap, ◌∙◌, subst, arith}
use Rattle.std.specs.Prelude.{◌⊎◌}
use mathlib.Core.Logic.{⊎_elim}
use Rattle.std.proofs.lemmas.Option.{none-some, same_Some}
use Rattle.slab.specs.Slab.{get}
use Rattle.pd_atom.specs.Names.{Names}
use Rattle.pd_canvas.specs.Pages.{Entry, boxed, listed}
use Rattle.pd_canvas.specs.Proper.{HoldsNone, levels, levels_of}
use Rattle.pd_library.specs.declared.answers.Answer.{Answer}
use Rattle.pd_tree.specs.Trees.{Cell, Trees, Done, Leaf, Holder, Tree, join, document_boxes}
use Rattle.pd_growth.specs.Steps.{Stock, gives, ◌>>=◌}
use Rattle.pd_growth.specs.Growth.{around_root, box_grown, boxes_grown, without_ending}
use Rattle.pd_grove.specs.declared.nodes.Node.{Node}
use Rattle.pd_grove.specs.declared.grove.Grove.{Grove}
use Rattle.pd_grove.specs.Places.{CanvasStands}
use Rattle.pd_grove.specs.Standing.{Stands}
use Rattle.pd_grove.specs.Telling.{inner_in}
use Rattle.pd_grove.proofs.PlaceLemmas.{seen_keys}
use Rattle.pd_regrowth_law.specs.Canvases.{Site, IsSite, ListRegrows, Regrows, CanvasRegrows, own_site, own_along, canvas_with}
use Rattle.pd_regrowth_law.specs.Regrowth.{inner_of}
use Rattle.pd_regrowth_law.specs.Suits.{HoldNone, IsEntryOf, IsLibraryOf, TextsOf}
use Rattle.pd_regrowth_law.proofs.AgainLemmas.{library_more, several_again, texts_more}
use Rattle.pd_regrowth_law.proofs.EditLemmas.{canvas_changed, nest_texts, texts_join}
use Rattle.pd_regrowth_law.proofs.NestLemmas.{own_suits}
use Rattle.pd_regrowth_law.proofs.OwnLemmas.{own_parted, texts_before, texts_behind}
use Rattle.pd_regrowth_law.proofs.PartLemmas.{join_done}
use Rattle.pd_regrowth_law.proofs.StepLemmas.{more_boxes, no_boxes}
use Rattle.pd_regrowth_law.proofs.TakeLemmas.{several_take}
use Rattle.pd_web.specs.Canvases.{keys_at}
use Rattle.pd_reload_law.specs.Reloading.{RunsAs}
use Rattle.pd_reload_law.specs.Saving.{IsMade}
use Rattle.pd_putting_law.specs.Again.{StandsAgain}
use Rattle.pd_putting_law.proofs.StandLemmas.{path_along, seen_inner}
use Rattle.pd_putting_law.proofs.WithinLemmas.{path_within, levels_join, inside_levels}
use Rattle.pd_putting_law.proofs.AgainLemmas.{box_is, box_stands, canvas_regrows, change_stands, new_made, stands_on}
use Rattle.pd_retyping_law.specs.Retypes.{boxes_with, retyped_box, retyped_at, BareAt}
use Rattle.pd_retyping_law.specs.Retyping.{RetypesBoxAt, cell_in}

-- the boxes before that of a number, that box and what stands there then, and those behind
record PartsAt (n : ℕ) (c : Cell) (t : Trees) : Type 0 where
  before : Trees
  box : Trees
  other : Trees
  behind : Trees
  whole : t ≡ join before (join box behind)
  changed : boxes_with n c t ≡ join before (join other behind)
  is : (other ≡ box) ⊎ (other ≡ Leaf c Done)

parts_at : (n : ℕ) (c : Cell) (t : Trees) → BareAt n t → PartsAt n c t
parts_at n c Done bare = record { before = Done; box = Done; other = Done; behind = Done; whole = refl; changed = refl; is = inl refl }
parts_at zero c (Leaf old rest) bare =
    record { before = Done; box = Leaf old Done; other = Leaf c Done; behind = rest; whole = refl; changed = refl; is = inr refl }
parts_at zero c (Holder old s inner rest) bare = absurd bare
parts_at (suc n) c (Leaf old rest) bare =
    let p = parts_at n c rest bare in
    record {
      before = Leaf old p.before;
      box = p.box;
      other = p.other;
      behind = p.behind;
      whole = ap (Leaf old) p.whole;
      changed = ap (Leaf old) p.changed;
      is = p.is;
    }
parts_at (suc n) c (Holder old s inner rest) bare =
    let p = parts_at n c rest bare in
    record {
      before = Holder old s inner p.before;
      box = p.box;
      other = p.other;
      behind = p.behind;
      whole = ap (Holder old s inner) p.whole;
      changed = ap (Holder old s inner) p.changed;
      is = p.is;
    }

either : (P : Trees → Type 0) (x y z : Trees) → (z ≡ x) ⊎ (z ≡ y) → P x → P y → P z
either P x y z is p q = ⊎_elim (λ (e : z ≡ x). subst P (sym e) p) (λ (e : z ≡ y). subst P (sym e) q) is

texts_with : (names : Names) (n : ℕ) (c : Cell) (t : Trees) → BareAt n t → TextsOf names (document_boxes t) → TextsOf names (document_boxes (Leaf c Done))
    → TextsOf names (document_boxes (boxes_with n c t))
texts_with names n c t bare o k =
    let p = parts_at n c t bare in
    let all = subst (λ (x : Trees). TextsOf names (document_boxes x)) p.whole o in
    let after = texts_behind names p.before (join p.box p.behind) all in
    subst (λ (x : Trees). TextsOf names (document_boxes x)) (sym p.changed)
    (texts_join names p.before (join p.other p.behind) (texts_before names p.before (join p.box p.behind) all)
    (texts_join names p.other p.behind
    (either (λ x. TextsOf names (document_boxes x)) p.box (Leaf c Done) p.other p.is (texts_before names p.box p.behind after) k)
    (texts_behind names p.box p.behind after)))

levels_with : (n : ℕ) (c : Cell) (t : Trees) (left : ℕ) → BareAt n t → levels (document_boxes t) ≤ left → levels (document_boxes (Leaf c Done)) ≤ left
    → levels (document_boxes (boxes_with n c t)) ≤ left
levels_with n c t left bare low new =
    let p = parts_at n c t bare in
    let a = levels (document_boxes p.before) in
    let b = levels (document_boxes p.box) in
    let o = levels (document_boxes p.other) in
    let d = levels (document_boxes p.behind) in
    let whole = ap (λ (x : Trees). levels (document_boxes x)) p.whole ∙ levels_join p.before (join p.box p.behind) in
    let changed = ap (λ (x : Trees). levels (document_boxes x)) p.changed ∙ levels_join p.before (join p.other p.behind) in
    let i = levels (document_boxes (join p.box p.behind)) in
    let j = levels (document_boxes (join p.other p.behind)) in
    let t0 = levels (document_boxes t) in
    let box : b ≤ left = inside a b d i t0 left (levels_join p.box p.behind) whole low in
    let other : o ≤ left = either (λ x. levels (document_boxes x) ≤ left) p.box (Leaf c Done) p.other p.is box new in
    all a b o d i j t0 (levels (document_boxes (boxes_with n c t))) left (levels_join p.box p.behind) whole (levels_join p.other p.behind) changed low other
  where
    inside : (a b d i t left : ℕ) → i ≡ max b d → t ≡ max a i → t ≤ left → b ≤ left
    inside a b d i t left p q h = omega (arith, p, q, h)

    all : (a b o d i j t u left : ℕ) → i ≡ max b d → t ≡ max a i → j ≡ max o d → u ≡ max a j → t ≤ left → o ≤ left → u ≤ left
    all a b o d i j t u left p q r s h k = omega (arith, p, q, r, s, h, k)

canvas_with_it : (s : Site) (left n : ℕ) (c : Cell) (u : Tree) → BareAt n u.boxes → IsSite s → TextsOf s.names (document_boxes u.boxes) → CanvasRegrows s left u
    → Regrows s left (Leaf c Done) → CanvasRegrows s left (retyped_box n c u)
canvas_with_it s left n c u bare i o k new =
    let p = parts_at n c u.boxes bare in
    let texts = subst (λ (t : Trees). TextsOf s.names (document_boxes t)) p.whole o in
    let all = subst (λ (t : Trees). CanvasRegrows s left (canvas_with u.sheet t)) p.whole k in
    let behind = (own_parted s left p.before (join p.box p.behind) i texts all.boxes).1 in
    let box = (own_parted s left p.box p.behind i (texts_behind s.names p.before (join p.box p.behind) texts) behind).0 in
    subst (λ (t : Trees). CanvasRegrows s left (canvas_with u.sheet t)) (sym p.changed)
    (canvas_changed s left u.sheet u.sheet p.before p.box p.other p.behind i texts all refl refl (either (Regrows s left) p.box (Leaf c Done) p.other p.is box new))

-- ---- what grew from one element

pub one_grown : (lib : ℕ → Option Answer) (root : List ℕ) (left own : ℕ) (e : Entry) (w v : Stock) (new : Trees)
    → box_grown lib root left (inner_of lib root left) (around_root own) e w ≡ gives new v
    → boxes_grown lib root left (inner_of lib root left) (around_root own) (e ∷ []) w ≡ gives new v
one_grown lib root left own e w v new h =
    let inner = inner_of lib root left in
    let a = around_root own in
    more_boxes lib root left inner a e [] w
    ∙ ap (λ y. y >>= (λ box u. boxes_grown lib root left inner a [] u >>= (λ rest x. gives (join box rest) x))) h
    ∙ ap (λ y. y >>= (λ rest u. gives (join new rest) u)) (no_boxes lib root left inner a v)
    ∙ ap (λ (y : Trees). gives y v) (join_done new)

pub one_again : (lib : ℕ → Option Answer) (file : List ℕ) (left own : ℕ) (e : Entry) (w v : Stock) (new : Trees) → IsLibraryOf w.names lib → IsEntryOf w.names e
    → document_boxes new ≡ boxed (e ∷ [])
    → box_grown lib (without_ending file) left (inner_of lib (without_ending file) left) (around_root own) e w ≡ gives new v
    → Regrows (own_site lib file v.names own) left new
one_again lib file left own e w v new l o document grows =
    let root = without_ending file in
    let s = own_site lib file v.names own in
    subst (λ y. ListRegrows s left (listed y) new) (sym document)
    (several_again lib lib root left (around_root own) (e ∷ []) w v new (λ _ _ k. k) l (record { arguments = tt; inside = tt }) (o, tt)
    (one_grown lib root left own e w v new grows))

pub one_low : (n left : ℕ) → n ≤ left → max n 0 ≤ left
one_low n left h = omega (arith, h)

module _ (lib : ℕ → Option Answer) (file : List ℕ) (left : ℕ) (path : List ℕ) (t u : Tree) (e : Entry) (w v : Stock) (c : Cell)
    (s : StandsAgain lib file w.names t) (at : own_along path t ≡ Some u) (low : length path + left ≡ 255) (o : IsEntryOf w.names e)
    (lev : levels_of e.head.form (levels e.page.boxes) ≤ left) (none : HoldsNone e.head.form e.page) (inner : HoldNone e.page.boxes)
    (grows : box_grown lib (without_ending file) left (inner_of lib (without_ending file) left) (around_root t.sheet.zero) e w ≡ gives (Leaf c Done) v) where
  pub retyped_stands : (number : ℕ) → BareAt number u.boxes → StandsAgain lib file v.names (retyped_at path number c t)
  retyped_stands number bare =
      let new = Leaf c Done in
      let own = t.sheet.zero in
      let root = without_ending file in
      let p = path_within path t u at in
      let document : document_boxes new ≡ boxed (e ∷ []) = box_is lib file left own e w v new lev none inner grows in
      let up = (several_take lib root left (around_root own) (e ∷ []) w v new (one_grown lib root left own e w v new grows)).names in
      let l2 = library_more w.names v.names up lib s.library in
      let s2 = stands_on lib lib file w.names v.names t s (λ _ _ k. k) up l2 in
      let texts : TextsOf v.names (document_boxes u.boxes) =
      nest_texts v.names p.nest u p.subpatches (subst (λ (x : Tree). TextsOf v.names (document_boxes x.boxes)) p.whole s2.texts) in
      let deep = subst (λ (x : Tree). levels (document_boxes x.boxes) ≤ 255) p.whole s2.shallow in
      change_stands lib file v.names left path t u (retyped_box number c) s2 at low
      (texts_with v.names number c u.boxes bare texts (subst (TextsOf v.names) (sym document) (texts_more w.names v.names up (boxed (e ∷ [])) (o.text, o.inner, tt))))
      (levels_with number c u.boxes left bare (inside_levels p.nest u left 255 p.subpatches (p.deep left ∙ low) deep)
      (subst (λ x. levels x ≤ left) (sym document) (one_low (levels_of e.head.form (levels e.page.boxes)) left lev)))
      (canvas_with_it (own_site lib file v.names own) left number c u bare (own_suits lib file v.names own l2) texts
      (canvas_regrows lib file v.names left path t u s2 at low) (one_again lib file left own e w v new s.library o document grows))

  pub box_made : IsMade c.head.form c
  box_made = (new_made lib file v.names path t u (Leaf c Done) at (box_stands lib file left path t u e w v (Leaf c Done) s at low o lev none inner grows)).0

-- ---- a patch

-- the box of a key holds no canvas
module _ (g : Grove) (canvas key number : ℕ) (n : Node) (is : slice_get (keys_at g canvas) number ≡ Some key) (was : get g.nodes key ≡ Some n) (bare : n.inner ≡ None) where
  bare_here : (b d : ℕ) (keys : List ℕ) (t : Trees) (m : ℕ) → slice_get keys m ≡ Some key → Stands (get g.nodes) (get g.boards) b d keys t → BareAt m t
  bare_here b d [] Done m at S = tt
  bare_here b d [] (Leaf c rest) m at S = absurd S
  bare_here b d [] (Holder c s inner rest) m at S = absurd S
  bare_here b d (k ∷ ks) Done m at S = tt
  bare_here b d (k ∷ ks) (Leaf c rest) zero at S = tt
  bare_here b d (k ∷ ks) (Leaf c rest) (suc m) at S = bare_here b d ks rest m at S.1
  bare_here b d (k ∷ ks) (Holder c s inner rest) zero at S =
      none-some S.0 (sym bare ∙ sym (ap inner_in (ap (λ j. get g.nodes j) (same_Some k key at) ∙ was)) ∙ seen_inner (get g.nodes k) _ S.2)
  bare_here b d (k ∷ ks) (Holder c s inner rest) (suc m) at S = bare_here b d ks rest m at S.5

  pub bare_there : (u : Tree) → CanvasStands g canvas u → BareAt number u.boxes
  bare_there u S =
      bare_here canvas S.depth S.keys u.boxes number (ap (λ (l : List ℕ). slice_get l number) (sym (seen_keys (get g.boards canvas) _ S.board)) ∙ is) S.stands

-- the path leads to a canvas of the document
pub patch_retyped : (lib : ℕ → Option Answer) (file : List ℕ) (left : ℕ) (g h : Grove) (path : List ℕ) (canvas key number : ℕ) (n n' : Node) (t : Tree) (e : Entry)
    (w v : Stock) → StandsAgain lib file w.names t → RunsAs g t → RetypesBoxAt g h path canvas key number n n' → length path + left ≡ 255
    → IsEntryOf w.names e → levels_of e.head.form (levels e.page.boxes) ≤ left → HoldsNone e.head.form e.page → HoldNone e.page.boxes
    → box_grown lib (without_ending file) left (inner_of lib (without_ending file) left) (around_root t.sheet.zero) e w ≡ gives (Leaf (cell_in n') Done) v
    → StandsAgain lib file v.names (retyped_at path number (cell_in n') t)
patch_retyped lib file left g h path canvas key number n n' t e w v s r B low o lev none inner grows =
    let p = path_along g path canvas t B.forest r.stands B.leads in
    retyped_stands lib file left path t p.0 e w v (cell_in n') s p.1 low o lev none inner grows number (bare_there g canvas key number n B.is B.was B.bare p.0 p.2)
