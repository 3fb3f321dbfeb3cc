-- A subpatch with another text, and what grows again.
use Rattle.std.proofs.Common.{◌≡◌, ℕ, zero, suc, ◌+◌, ◌≤◌, List, [], ◌∷◌, ◌++◌, length, slice_get, Option, Some, refl, sym, ap, ◌∙◌, subst, arith, true≢false}
use Rattle.std.specs.Prelude.{false, option_map}
use Rattle.std.proofs.lemmas.Option.{none-some, same_Some}
use Rattle.slab.specs.Slab.{get}
use Rattle.pd_atom.specs.Names.{Names, Extends}
use Rattle.pd_canvas.specs.Pages.{Shape, Sub, Head, Boxes, End, Box, Entry, empty_page, boxed}
use Rattle.pd_canvas.specs.Proper.{HoldsNone, levels, levels_of}
use Rattle.pd_canvas.specs.Views.{entry_of}
use Rattle.pd_library.specs.declared.answers.Answer.{Answer}
use Rattle.pd_tree.specs.declared.rows.Sheet.{Sheet}
use Rattle.pd_tree.specs.Trees.{Cell, Trees, Done, Leaf, Holder, Tree, join, weight, box_with, document_boxes, zeros_in}
use Rattle.pd_growth.specs.Steps.{Stock, gives}
use Rattle.pd_growth.specs.Growth.{around_root, box_grown, without_ending}
use Rattle.pd_grove.specs.declared.nodes.Node.{Node}
use Rattle.pd_grove.specs.declared.grove.Grove.{Grove}
use Rattle.pd_grove.specs.Forest.{IsForest}
use Rattle.pd_grove.specs.OwnPaths.{sub_reached}
use Rattle.pd_grove.specs.Places.{CanvasStands, cell_at}
use Rattle.pd_grove.specs.Standing.{NodeSeen, depth_of, node_seen, Stands}
use Rattle.pd_grove.specs.TextOrder.{is_sub}
use Rattle.pd_grove.proofs.PlaceLemmas.{seen_keys}
use Rattle.pd_web.specs.Canvases.{keys_at}
use Rattle.pd_regrowth_law.specs.Canvases.{Site, IsSite, EachRegrows, Regrows, CanvasRegrows, own_site, own_along, own_in_box, sub_canvas, canvas_with}
use Rattle.pd_regrowth_law.specs.Regrowth.{inner_of, stock}
use Rattle.pd_regrowth_law.specs.Suits.{HoldNone, IsEntryOf, TextsOf}
use Rattle.pd_regrowth_law.proofs.AgainLemmas.{library_more, texts_more}
use Rattle.pd_regrowth_law.proofs.EditLemmas.{canvas_changed, nest_texts, texts_join}
use Rattle.pd_regrowth_law.proofs.NestLemmas.{canvas_inside, canvas_other, own_suits, sub_texts}
use Rattle.pd_regrowth_law.proofs.OwnLemmas.{own_parted, texts_before, texts_behind}
use Rattle.pd_regrowth_law.proofs.PartLemmas.{one_alone}
use Rattle.pd_regrowth_law.proofs.StepLemmas.{extends_same}
use Rattle.pd_regrowth_law.proofs.TakeLemmas.{several_take}
use Rattle.pd_reload_law.specs.Reloading.{RunsAs}
use Rattle.pd_putting_law.specs.Again.{StandsAgain}
use Rattle.pd_putting_law.specs.Putting.{IsBare}
use Rattle.pd_putting_law.proofs.AgainLemmas.{box_is, canvas_regrows, change_stands, stands_on}
use Rattle.pd_putting_law.proofs.GrownLemmas.{new_grown}
use Rattle.pd_putting_law.proofs.StandLemmas.{path_along}
use Rattle.pd_putting_law.proofs.WithinLemmas.{around_levels, inside_levels, path_within}
use Rattle.pd_retyping_law.specs.Retypes.{boxes_with, retyped_box, retyped_at}
use Rattle.pd_retyping_law.specs.Retyping.{cell_in}
use Rattle.pd_retyping_law.proofs.AgainLemmas.{one_again, one_grown}

-- ---- a subpatch that grows again holds a canvas

-- boxes of which each grows again by itself
each_regrows : (s : Site) (left : ℕ) (t : Trees) → IsSite s → TextsOf s.names (document_boxes t) → Regrows s left t → EachRegrows s left t
each_regrows s left Done i o h = tt
each_regrows s left (Leaf c rest) i o h =
    let p = own_parted s left (Leaf c Done) rest i o h in
    (p.0, each_regrows s left rest i (texts_behind s.names (Leaf c Done) rest o) p.1)
each_regrows s left (Holder c sheet inner rest) i o h =
    let p = own_parted s left (Holder c sheet inner Done) rest i o h in
    (p.0, each_regrows s left rest i (texts_behind s.names (Holder c sheet inner Done) rest o) p.1)

bare_sub : (h : Head) → h.form ≡ Sub → IsBare (record { head = h; page = empty_page })
bare_sub h f = record { boxes = refl; wires = refl; holds = subst (λ (y : Shape). HoldsNone y empty_page) (sym f) tt }

no_leaf : (s : Site) (left : ℕ) (c : Cell) → Regrows s left (Leaf c Done) → c.head.form ≡ Sub → ⊥
no_leaf s left c h f =
    let e : Entry = record { head = c.head; page = empty_page } in
    let t = Leaf c Done in
    let not : is_sub c.head.form ≡ false =
    new_grown s.lib s.root left s.around e (stock s.names (zeros_in t ++ []) (weight t + 0)) (stock s.names [] 0) t (bare_sub c.head f)
    (one_alone s left e t h s.names [] 0 (extends_same s.names)) in
    true≢false (sym (ap is_sub f) ∙ not)

-- the box of a number, a subpatch, holds a canvas
sub_stands : (s : Site) (left n : ℕ) (c : Cell) (t : Trees) → EachRegrows s left t → cell_at n t ≡ Some c → c.head.form ≡ Sub → (y : Tree) × (own_in_box n t ≡ Some y)
sub_stands s left n c Done h at f = absurd (none-some c at)
sub_stands s left zero c (Leaf old rest) h at f =
    absurd (no_leaf s left old h.0 (ap (λ (y : Cell). y.head.form) (same_Some old c at) ∙ f))
sub_stands s left zero c (Holder old sheet inner rest) h at f =
    (canvas_with sheet inner, ap (λ (y : Shape). sub_canvas y sheet inner) (ap (λ (y : Cell). y.head.form) (same_Some old c at) ∙ f))
sub_stands s left (suc n) c (Leaf old rest) h at f = sub_stands s left n c rest h.1 at f
sub_stands s left (suc n) c (Holder old sheet inner rest) h at f = sub_stands s left n c rest h.1 at f

-- ---- the subpatch of a number

-- the boxes before it, it with its canvas and with another text, and the boxes behind it
record SubAt (n : ℕ) (c : Cell) (t : Trees) (y : Tree) : Type 0 where
  before : Trees
  old : Cell
  behind : Trees
  whole : t ≡ join before (Holder old y.sheet y.boxes behind)
  changed : boxes_with n c t ≡ join before (Holder c y.sheet y.boxes behind)
  form : old.head.form ≡ Sub

record IsSubCanvas (form : Shape) (sheet : Sheet) (inner : Trees) (t : Tree) : Type 0 where
  is_sub : form ≡ Sub
  canvas : canvas_with sheet inner ≡ t

sub_is : (form : Shape) (sheet : Sheet) (inner : Trees) (t : Tree) → sub_canvas form sheet inner ≡ Some t → IsSubCanvas form sheet inner t
sub_is Sub sheet inner t h = record { is_sub = refl; canvas = same_Some (canvas_with sheet inner) t h }
sub_is form sheet inner t h = absurd (none-some t h)

sub_at : (n : ℕ) (c : Cell) (t : Trees) (y : Tree) → own_in_box n t ≡ Some y → SubAt n c t y
sub_at n c Done y h = absurd (none-some y h)
sub_at zero c (Leaf old rest) y h = absurd (none-some y h)
sub_at zero c (Holder old sheet inner rest) y h =
    let s = sub_is old.head.form sheet inner y h in
    record {
      before = Done;
      old = old;
      behind = rest;
      whole = ap (λ (z : Tree). Holder old z.sheet z.boxes rest) s.canvas;
      changed = ap (λ (z : Tree). Holder c z.sheet z.boxes rest) s.canvas;
      form = s.is_sub;
    }
sub_at (suc n) c (Leaf x rest) y h =
    let g = sub_at n c rest y h in
    record { before = Leaf x g.before; old = g.old; behind = g.behind; whole = ap (Leaf x) g.whole; changed = ap (Leaf x) g.changed; form = g.form }
sub_at (suc n) c (Holder x sheet inner rest) y h =
    let g = sub_at n c rest y h in
    record {
      before = Holder x sheet inner g.before;
      old = g.old;
      behind = g.behind;
      whole = ap (Holder x sheet inner) g.whole;
      changed = ap (Holder x sheet inner) g.changed;
      form = g.form;
    }

-- ---- what grows again

head_or : Head → Boxes → Head
head_or d End = d
head_or d (Box h f inner rest) = h

pub holder_head : (f : Shape) (c : Cell) (sheet : Sheet) (e : Entry) → box_with f c.head sheet End End ≡ boxed (e ∷ []) → c.head ≡ e.head
unfolding head_or
holder_head Sub c sheet e h = ap (head_or c.head) h
holder_head f c sheet e h = ap (head_or c.head) h

-- an empty subpatch that grew by itself gives its text to one that stands
module _ (lib : ℕ → Option Answer) (file : List ℕ) (m : ℕ) (path : List ℕ) (t u y : Tree) (e : Entry) (w v : Stock) (c : Cell) (sheet : Sheet) (number : ℕ)
    (s : StandsAgain lib file w.names t) (at : own_along path t ≡ Some u) (sub : own_in_box number u.boxes ≡ Some y) (low : length path + suc m ≡ 255)
    (o : IsEntryOf w.names e) (lev : levels_of e.head.form (levels e.page.boxes) ≤ suc m) (none : HoldsNone e.head.form e.page) (inner : HoldNone e.page.boxes)
    (form : e.head.form ≡ Sub)
    (grows : box_grown lib (without_ending file) (suc m) (inner_of lib (without_ending file) (suc m)) (around_root t.sheet.zero) e w ≡ gives (Holder c sheet Done Done) v) where
  abbrev own : ℕ
  own = t.sheet.zero

  abbrev site : Site
  site = own_site lib file v.names own

  abbrev new : Trees
  new = Holder c sheet Done Done

  document : document_boxes new ≡ boxed (e ∷ [])
  document = box_is lib file (suc m) own e w v new lev none inner grows

  head : c.head ≡ e.head
  head = holder_head c.head.form c sheet e document

  cell_form : c.head.form ≡ Sub
  cell_form = ap (λ (h : Head). h.form) head ∙ form

  named_so : Extends w.names v.names
  named_so =
      (several_take lib (without_ending file) (suc m) (around_root own) (e ∷ []) w v new (one_grown lib (without_ending file) (suc m) own e w v new grows)).names

  stands_then : StandsAgain lib file v.names t
  stands_then = stands_on lib lib file w.names v.names t s (λ _ _ k. k) named_so (library_more w.names v.names named_so lib s.library)

  suits : IsSite site
  suits = own_suits lib file v.names own (library_more w.names v.names named_so lib s.library)

  parts : SubAt number c u.boxes y
  parts = sub_at number c u.boxes y sub

  abbrev old_box : Trees
  old_box = Holder parts.old y.sheet y.boxes Done

  abbrev new_box : Trees
  new_box = Holder c y.sheet y.boxes Done

  texts_in : TextsOf v.names (document_boxes u.boxes)
  texts_in =
      let p = path_within path t u at in
      nest_texts v.names p.nest u p.subpatches (subst (λ (x : Tree). TextsOf v.names (document_boxes x.boxes)) p.whole stands_then.texts)

  texts_all : TextsOf v.names (document_boxes (join parts.before (join old_box parts.behind)))
  texts_all = subst (λ (x : Trees). TextsOf v.names (document_boxes x)) parts.whole texts_in

  texts_after : TextsOf v.names (document_boxes (join old_box parts.behind))
  texts_after = texts_behind v.names parts.before (join old_box parts.behind) texts_all

  texts_old : TextsOf v.names (document_boxes old_box)
  texts_old = texts_before v.names old_box parts.behind texts_after

  texts_new : TextsOf v.names (document_boxes new)
  texts_new = subst (TextsOf v.names) (sym document) (texts_more w.names v.names named_so (boxed (e ∷ [])) (o.text, o.inner, tt))

  canvas_again : CanvasRegrows site (suc m) (canvas_with u.sheet (join parts.before (join old_box parts.behind)))
  canvas_again =
      subst (λ (x : Trees). CanvasRegrows site (suc m) (canvas_with u.sheet x)) parts.whole (canvas_regrows lib file v.names (suc m) path t u stands_then at low)

  old_again : Regrows site (suc m) old_box
  old_again =
      (own_parted site (suc m) old_box parts.behind suits texts_after
      (own_parted site (suc m) parts.before (join old_box parts.behind) suits texts_all canvas_again.boxes).1).0

  new_again : Regrows site (suc m) new_box
  new_again =
      canvas_other site m c (canvas_with sheet Done) y suits cell_form texts_new (one_again lib file (suc m) own e w v new s.library o document grows)
      (canvas_inside site m parts.old y suits parts.form texts_old old_again)

  texts_changed : TextsOf v.names (document_boxes (retyped_box number c u).boxes)
  texts_changed =
      let before = texts_before v.names parts.before (join old_box parts.behind) texts_all in
      let inside = sub_texts v.names parts.old y parts.form texts_old in
      let head_text = sub_texts v.names c (canvas_with sheet Done) cell_form texts_new in
      subst (λ (x : Trees). TextsOf v.names (document_boxes x)) (sym parts.changed)
      (texts_join v.names parts.before (Holder c y.sheet y.boxes parts.behind) before
      (subst (λ f. TextsOf v.names (box_with f c.head y.sheet (document_boxes y.boxes) (document_boxes parts.behind))) (sym cell_form)
      (head_text.text, inside.inner, texts_behind v.names old_box parts.behind texts_after)))

  levels_same : levels (document_boxes (retyped_box number c u).boxes) ≡ levels (document_boxes u.boxes)
  levels_same =
      ap (λ (x : Trees). levels (document_boxes x)) parts.changed
      ∙ around_levels parts.before parts.behind c y cell_form
      ∙ sym (ap (λ (x : Trees). levels (document_boxes x)) parts.whole ∙ around_levels parts.before parts.behind parts.old y parts.form)

  levels_low : levels (document_boxes u.boxes) ≤ suc m
  levels_low =
      let p = path_within path t u at in
      inside_levels p.nest u (suc m) 255 p.subpatches (p.deep (suc m) ∙ low)
      (subst (λ (x : Tree). levels (document_boxes x.boxes) ≤ 255) p.whole stands_then.shallow)

  pub sub_retyped : StandsAgain lib file v.names (retyped_at path number c t)
  sub_retyped =
      change_stands lib file v.names (suc m) path t u (retyped_box number c) stands_then at low texts_changed
      (subst (λ n. n ≤ suc m) (sym levels_same) levels_low)
      (subst (λ (x : Trees). CanvasRegrows site (suc m) (canvas_with u.sheet x)) (sym parts.changed)
      (canvas_changed site (suc m) u.sheet u.sheet parts.before old_box new_box parts.behind suits texts_all canvas_again refl refl new_again))

-- the canvas around lies no deeper than one that may hold a subpatch
pub renamed_stands : (lib : ℕ → Option Answer) (file : List ℕ) (left : ℕ) (path : List ℕ) (t u y : Tree) (e : Entry) (w v : Stock) (c : Cell) (sheet : Sheet) (number : ℕ)
    → StandsAgain lib file w.names t → own_along path t ≡ Some u → own_in_box number u.boxes ≡ Some y → length path + left ≡ 255 → IsEntryOf w.names e
    → levels_of e.head.form (levels e.page.boxes) ≤ left → HoldsNone e.head.form e.page → HoldNone e.page.boxes → e.head.form ≡ Sub
    → box_grown lib (without_ending file) left (inner_of lib (without_ending file) left) (around_root t.sheet.zero) e w ≡ gives (Holder c sheet Done Done) v
    → StandsAgain lib file v.names (retyped_at path number c t)
renamed_stands lib file zero path t u y e w v c sheet number s at sub low o lev none inner form grows =
    absurd (never (levels e.page.boxes) (subst (λ (f : Shape). levels_of f (levels e.page.boxes) ≤ 0) form lev))
  where
    never : (n : ℕ) → n + 1 ≤ 0 → ⊥
    never n h = omega (arith, h)
renamed_stands lib file (suc m) path t u y e w v c sheet number s at sub low o lev none inner form grows =
    sub_retyped lib file m path t u y e w v c sheet number s at sub low o lev none inner form grows

-- ---- a patch

seen_as : (g : Grove) (key : ℕ) (n : Node) (k : ℕ) (z : NodeSeen) → get g.nodes key ≡ Some n → k ≡ key → option_map node_seen (get g.nodes k) ≡ Some z → z ≡ node_seen n
seen_as g key n k z is same e = same_Some z (node_seen n) (sym e ∙ ap (option_map node_seen) (ap (λ j. get g.nodes j) same ∙ is))

-- the box of a key stands in its canvas under its number
cell_there : (g : Grove) (key : ℕ) (n : Node) (b d : ℕ) (keys : List ℕ) (t : Trees) (m : ℕ) → get g.nodes key ≡ Some n → slice_get keys m ≡ Some key
    → Stands (get g.nodes) (get g.boards) b d keys t → cell_at m t ≡ Some (cell_in n)
cell_there g key n b d [] t m is at S = absurd (none-some key at)
cell_there g key n b d (k ∷ ks) Done m is at S = absurd S
cell_there g key n b d (k ∷ ks) (Leaf c rest) zero is at S = ap (λ (z : NodeSeen). Some z.cell) (seen_as g key n k _ is (same_Some k key at) S.0)
cell_there g key n b d (k ∷ ks) (Leaf c rest) (suc m) is at S = cell_there g key n b d ks rest m is at S.1
cell_there g key n b d (k ∷ ks) (Holder c s inner rest) zero is at S = ap (λ (z : NodeSeen). Some z.cell) (seen_as g key n k _ is (same_Some k key at) S.2)
cell_there g key n b d (k ∷ ks) (Holder c s inner rest) (suc m) is at S = cell_there g key n b d ks rest m is at S.5

module _ (lib : ℕ → Option Answer) (file : List ℕ) (left : ℕ) (names : Names) (g : Grove) (path : List ℕ) (canvas key number : ℕ) (n : Node) (t : Tree)
    (s : StandsAgain lib file names t) (R : RunsAs g t) (forest : IsForest (get g.nodes) (get g.boards) g.root) (leads : sub_reached g (Some g.root) path ≡ Some canvas)
    (is : slice_get (keys_at g canvas) number ≡ Some key) (was : get g.nodes key ≡ Some n) (form : (entry_of n.element).head.form ≡ Sub) (low : length path + left ≡ 255) where
  abbrev pub along : (u : Tree) × (own_along path t ≡ Some u) × CanvasStands g canvas u × (depth_of (get g.boards canvas) ≡ length path)
  along = path_along g path canvas t forest R.stands leads

  -- the box holds a canvas, in that to which the path leads
  pub sub_there : (y : Tree) × (own_in_box number along.0.boxes ≡ Some y)
  sub_there =
      let u = along.0 in
      let S = along.2 in
      let site = own_site lib file names t.sheet.zero in
      let suits = own_suits lib file names t.sheet.zero s.library in
      let p = path_within path t u along.1 in
      let texts = nest_texts names p.nest u p.subpatches (subst (λ (x : Tree). TextsOf names (document_boxes x.boxes)) p.whole s.texts) in
      sub_stands site left number (cell_in n) u.boxes
      (each_regrows site left u.boxes suits texts (canvas_regrows lib file names left path t u s along.1 low).boxes)
      (cell_there g key n canvas S.depth S.keys u.boxes number was (ap (λ (l : List ℕ). slice_get l number) (sym (seen_keys (get g.boards canvas) _ S.board)) ∙ is) S.stands)
      form

  pub patch_renamed : (e : Entry) (w v : Stock) (c : Cell) (sheet : Sheet) → w.names ≡ names → IsEntryOf w.names e
      → levels_of e.head.form (levels e.page.boxes) ≤ left → HoldsNone e.head.form e.page → HoldNone e.page.boxes → e.head.form ≡ Sub
      → box_grown lib (without_ending file) left (inner_of lib (without_ending file) left) (around_root t.sheet.zero) e w ≡ gives (Holder c sheet Done Done) v
      → StandsAgain lib file v.names (retyped_at path number c t)
  patch_renamed e w v c sheet same o lev none inner sub grows =
      renamed_stands lib file left path t along.0 sub_there.0 e w v c sheet number (subst (λ (ns : Names). StandsAgain lib file ns t) (sym same) s) along.1 sub_there.1 low o lev none inner
      sub grows

  pub bare_renamed : (e : Entry) (w v : Stock) (c : Cell) (sheet : Sheet) → w.names ≡ names → IsEntryOf w.names e → IsBare e
      → levels_of e.head.form (levels e.page.boxes) ≤ left → e.head.form ≡ Sub
      → box_grown lib (without_ending file) left (inner_of lib (without_ending file) left) (around_root t.sheet.zero) e w ≡ gives (Holder c sheet Done Done) v
      → StandsAgain lib file v.names (retyped_at path number c t)
  bare_renamed e w v c sheet same o bare lev sub grows =
      patch_renamed e w v c sheet same o lev bare.holds (subst HoldNone (sym bare.boxes) tt) sub grows
