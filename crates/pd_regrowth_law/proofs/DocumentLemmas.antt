-- The document from which a tree grew stays in it.
use Rattle.std.proofs.Common.{◌≡◌, ℕ, zero, suc, ◌+◌, ◌≤◌, max, List, Option, drop, refl, sym, ap, ◌∙◌, subst, arith}
use Rattle.pd_atom.specs.declared.Atom.{Atom}
use Rattle.pd_naming.specs.Naming.{arguments_of}
use Rattle.pd_canvas.specs.Pages.{Shape, Obj, Msg, Comment, FloatBox, SymbolBox, Sub, Array, Other, Boxes, End, Box, Page, Entry, page_of, frame_of, empty_page, listed}
use Rattle.pd_canvas.specs.Proper.{HoldsNone, levels_of, levels}
use Rattle.pd_library.specs.declared.answers.Answer.{Answer}
use Rattle.pd_tree.specs.Trees.{Trees, Done, Leaf, Tree, join, sheet_of, box_with, document_boxes, document_in}
use Rattle.pd_growth.specs.Steps.{Stock, gives, numbered}
use Rattle.pd_growth.specs.Making.{Around, Making, Plain, Subpatch, File}
use Rattle.pd_growth.specs.Growth.{Inner, cell_of, canvas_grown, receiver_brought, around_instance, box_made, box_grown, boxes_grown, page_grown, without_ending, around_root, grown}
use Rattle.pd_regrowth_law.specs.Regrowth.{inner_of}
use Rattle.pd_regrowth_law.specs.Suits.{HoldNone}
use Rattle.pd_regrowth_law.proofs.StepLemmas.{no_boxes, page_is, gives_same, chain, box_went, boxes_went}
use Rattle.pd_regrowth_law.proofs.MakeLemmas.{MakesBy, made_by}
use Rattle.pd_regrowth_law.proofs.TakeLemmas.{canvas_went, patch_went}

-- the page beside a box that is no subpatch is the empty one
none_beside : (form : Shape) (p : Page) → (form ≡ Sub → ⊥) → HoldsNone form p → p ≡ empty_page
none_beside Sub p k h = absurd (k refl)
none_beside Obj p k h = h
none_beside Msg p k h = h
none_beside Comment p k h = h
none_beside FloatBox p k h = h
none_beside SymbolBox p k h = h
none_beside (Array values) p k h = h
none_beside (Other s) p k h = h

none_object : (form : Shape) (p : Page) → form ≡ Obj → HoldsNone form p → p ≡ empty_page
none_object form p e h = subst (λ s. HoldsNone s p) e h

-- a canvas inside one in which so many may lie in one another has the boxes of its document
abbrev InnerStays : ℕ → Inner → Type 0
InnerStays left inner = (a : Around) (p : Page) (w : Stock) (t : Trees) (v : Stock) → levels p.boxes + 1 ≤ left → HoldNone p.boxes
    → inner a p w ≡ gives t v → document_boxes t ≡ p.boxes

-- what the document has of a box, before further ones
abbrev EntryStays : Entry → Trees → Type 0
EntryStays e t = (more : Trees) → document_boxes (join t more) ≡ Box e.head (frame_of e.page) e.page.boxes (document_boxes more)

empty_stays : (e : Entry) (rest : Boxes) → e.page ≡ empty_page → Box e.head (frame_of empty_page) End rest ≡ Box e.head (frame_of e.page) e.page.boxes rest
empty_stays e rest h = ap (λ (p : Page). Box e.head (frame_of p) p.boxes rest) (sym h)

making_stays : (left : ℕ) (inner : Inner) (a : Around) (e : Entry) (text : List Atom) (m : Making) (w : Stock) (t : Trees) (v : Stock) → InnerStays left inner
    → levels_of e.head.form (levels e.page.boxes) ≤ left → HoldsNone e.head.form e.page → HoldNone e.page.boxes → MakesBy e.head.form m
    → box_made inner a e text m w ≡ gives t v → EntryStays e t
making_stays left inner a e text (Plain k fault) w t v i low none inside f h more =
    ap (λ y. document_boxes (join y more)) (sym (gives_same (Leaf (cell_of e.head text k fault) Done) t w v h))
    ∙ empty_stays e (document_boxes more) (none_beside e.head.form e.page f.other none)
making_stays left inner a e text Subpatch w t v i low none inside f h more =
    let c = chain (receiver_brought a.is_top text w) (λ _ u. canvas_grown inner a e.page e.head text u) t v h in
    let g = canvas_went inner a e.page e.head text c.stock t v c.next in
    let s = sheet_of a.zero a.arguments e.page in
    let boxes = i a e.page c.stock g.boxes v (subst (λ (y : Shape). levels_of y (levels e.page.boxes) ≤ left) f low) inside g.boxes_is in
    ap (λ y. document_boxes (join y more)) (sym g.tree_is)
    ∙ ap (λ y. box_with y e.head s (document_boxes g.boxes) (document_boxes more)) f
    ∙ ap (λ b. Box e.head (frame_of e.page) b (document_boxes more)) boxes
making_stays left inner a e text (File n p) w t v i low none inside f h more =
    let args = arguments_of (drop 1 text) in
    let c = chain (numbered w) (λ z u. canvas_grown inner (around_instance a z n args) p e.head text u) t v h in
    let g = canvas_went inner (around_instance a c.value n args) p e.head text c.stock t v c.next in
    ap (λ y. document_boxes (join y more)) (sym g.tree_is)
    ∙ ap (λ y. box_with y e.head (sheet_of c.value args p) (document_boxes g.boxes) (document_boxes more)) f
    ∙ empty_stays e (document_boxes more) (none_object e.head.form e.page f none)

box_stays : (lib : ℕ → Option Answer) (root : List ℕ) (left : ℕ) (inner : Inner) (a : Around) (e : Entry) (w : Stock) (t : Trees) (v : Stock) → InnerStays left inner
    → levels_of e.head.form (levels e.page.boxes) ≤ left → HoldsNone e.head.form e.page → HoldNone e.page.boxes
    → box_grown lib root left inner a e w ≡ gives t v → EntryStays e t
box_stays lib root left inner a e w t v i low none inside h =
    let b = box_went lib root left inner a e w t v h in
    making_stays left inner a e b.text b.making b.named t v i low none inside (made_by lib root left a b.named.names e.head.form b.text b.making b.made_is) b.box_is

pub boxes_stay : (lib : ℕ → Option Answer) (root : List ℕ) (left : ℕ) (inner : Inner) (a : Around) (b : Boxes) (w : Stock) (t : Trees) (v : Stock) → InnerStays left inner
    → levels b ≤ left → HoldNone b → boxes_grown lib root left inner a (listed b) w ≡ gives t v → document_boxes t ≡ b
boxes_stay lib root left inner a End w t v i low none h =
    ap document_boxes (sym (gives_same Done t w v (sym (no_boxes lib root left inner a w) ∙ h)))
boxes_stay lib root left inner a (Box d f inside rest) w t v i low none h =
    let e : Entry = record { head = d; page = page_of f inside } in
    let b = boxes_went lib root left inner a e (listed rest) w t v h in
    let here = most_left (levels_of d.form (levels inside)) (levels rest) left low in
    let there = most_right (levels_of d.form (levels inside)) (levels rest) left low in
    ap document_boxes (sym b.all_is)
    ∙ box_stays lib root left inner a e w b.box b.between i here none.0 none.1 b.box_is b.rest
    ∙ ap (Box d f inside) (boxes_stay lib root left inner a rest b.between b.rest v i there none.2 b.rest_is)
  where
    most_left : (m n k : ℕ) → max m n ≤ k → m ≤ k
    most_left m n k h = omega (arith, h)

    most_right : (m n k : ℕ) → max m n ≤ k → n ≤ k
    most_right m n k h = omega (arith, h)

pub inner_stays : (lib : ℕ → Option Answer) (root : List ℕ) (left : ℕ) → InnerStays left (inner_of lib root left)
inner_stays lib root zero a p w t v low none h = absurd (nowhere (levels p.boxes) low)
  where
    nowhere : (n : ℕ) → n + 1 ≤ 0 → ⊥
    nowhere n h = omega (arith, h)
inner_stays lib root (suc n) a p w t v low none h =
    boxes_stay lib root n (inner_of lib root n) a p.boxes w t v (inner_stays lib root n) (less (levels p.boxes) n low) none (sym (page_is lib root n a p w) ∙ h)
  where
    less : (m n : ℕ) → m + 1 ≤ suc n → m ≤ n
    less m n h = omega (arith, h)

pub page_stays : (lib : ℕ → Option Answer) (root : List ℕ) (left : ℕ) (a : Around) (p : Page) (w v : Stock) (t : Trees) → levels p.boxes ≤ left → HoldNone p.boxes
    → page_grown lib root left a p w ≡ gives t v → document_boxes t ≡ p.boxes
page_stays lib root left a p w v t low none h =
    boxes_stay lib root left (inner_of lib root left) a p.boxes w t v (inner_stays lib root left) low none (sym (page_is lib root left a p w) ∙ h)

pub patch_stays : (lib : ℕ → Option Answer) (name : List ℕ) (p : Page) (w v : Stock) (t : Tree) → levels p.boxes ≤ 255 → HoldNone p.boxes
    → grown lib name p w ≡ gives t v → document_in t ≡ p
patch_stays lib name p w v t low none h =
    let g = patch_went lib name p w t v h in
    ap document_in (sym g.tree_is)
    ∙ ap (page_of (frame_of p)) (page_stays lib (without_ending name) 255 (around_root g.own) p g.named v g.boxes low none g.boxes_is)
