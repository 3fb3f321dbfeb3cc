-- The texts that grow, and the arguments, are of the table.
use Rattle.std.proofs.Common.{◌≡◌, ℕ, zero, suc, List, [], ◌∷◌, Option, drop, sym, ◌∙◌, subst}
use Rattle.pd_atom.specs.declared.Atom.{Atom}
use Rattle.pd_atom.specs.Names.{Names, Extends}
use Rattle.pd_naming.specs.Naming.{arguments_of}
use Rattle.pd_canvas.specs.Pages.{Head, Page, Entry, elements_of}
use Rattle.pd_library.specs.declared.answers.Answer.{Answer}
use Rattle.pd_tree.specs.Trees.{Trees, Done, Leaf, Holder, Tree, join}
use Rattle.pd_growth.specs.Steps.{Stock, gives, numbered}
use Rattle.pd_growth.specs.Making.{Around, Making, Plain, Subpatch, File}
use Rattle.pd_growth.specs.Growth.{Inner, cell_of, canvas_grown, receiver_bytes, receiver_brought, around_instance, box_made, box_grown, boxes_grown, page_grown, without_ending, around_root, grown}
use Rattle.pd_regrowth_law.specs.Regrowth.{inner_of}
use Rattle.pd_regrowth_law.specs.Suits.{AreOf, TextsOf, IsEntryOf, AreEntriesOf, IsLibraryOf, IsAroundOf, TreesOf}
use Rattle.pd_regrowth_law.proofs.StepLemmas.{no_boxes, page_is, gives_same, gives_stock, chain, box_went, boxes_went, extends_on, counted_takes, numbered_takes, brought_takes}
use Rattle.pd_regrowth_law.proofs.TakeLemmas.{text_takes, receiver_takes, canvas_went, InnerTakes, box_takes, boxes_take, inner_takes, patch_went}
use Rattle.pd_regrowth_law.proofs.ExpandLemmas.{below_more, are_of_more}
use Rattle.pd_regrowth_law.proofs.AgainLemmas.{texts_more, entries_more, entries_of, library_more, around_more, around_of, IsFileOf, made_of, own_text_of}

pub trees_more : (names names2 : Names) → Extends names names2 → (t : Trees) → TreesOf names t → TreesOf names2 t
trees_more names names2 x Done h = tt
trees_more names names2 x (Leaf c rest) h = (are_of_more names names2 x c.text h.0, trees_more names names2 x rest h.1)
trees_more names names2 x (Holder c s inner rest) h = (
  are_of_more names names2 x c.text h.0,
  are_of_more names names2 x s.arguments h.1,
  trees_more names names2 x inner h.2,
  trees_more names names2 x rest h.3,
)

trees_join : (names : Names) (t r : Trees) → TreesOf names t → TreesOf names r → TreesOf names (join t r)
trees_join names Done r h k = k
trees_join names (Leaf c t) r h k = (h.0, trees_join names t r h.1 k)
trees_join names (Holder c s inner t) r h k = (h.0, h.1, h.2, trees_join names t r h.3 k)

abbrev InnerOf : (ℕ → Option Answer) → Inner → Type 0
InnerOf lib inner = (a : Around) (p : Page) (w : Stock) (t : Trees) (v : Stock) → IsLibraryOf w.names lib → IsAroundOf w.names a
    → AreEntriesOf w.names (elements_of p) → inner a p w ≡ gives t v → TreesOf v.names t

canvas_of : (lib : ℕ → Option Answer) (inner : Inner) (a : Around) (p : Page) (h : Head) (text : List Atom) (w : Stock) (t : Trees) (v : Stock) → InnerTakes inner
    → InnerOf lib inner → IsLibraryOf w.names lib → IsAroundOf w.names a → AreEntriesOf w.names (elements_of p) → AreOf w.names text
    → canvas_grown inner a p h text w ≡ gives t v → TreesOf v.names t
canvas_of lib inner a p h text w t v q k l i es o e =
    let g = canvas_went inner a p h text w t v e in
    let on = (q a p w g.boxes v g.boxes_is).names in
    subst (TreesOf v.names) g.tree_is
    (are_of_more w.names v.names on text o, are_of_more w.names v.names on a.arguments i.arguments, k a p w g.boxes v l i es g.boxes_is, tt)

making_of : (lib : ℕ → Option Answer) (inner : Inner) (a : Around) (e : Entry) (text : List Atom) (m : Making) (w : Stock) (t : Trees) (v : Stock) → InnerTakes inner
    → InnerOf lib inner → IsLibraryOf w.names lib → IsAroundOf w.names a → AreOf w.names text → TextsOf w.names e.page.boxes → IsFileOf w.names m
    → box_made inner a e text m w ≡ gives t v → TreesOf v.names t
making_of lib inner a e text (Plain k fault) w t v q g l i o b f h =
    let leaf = Leaf (cell_of e.head text k fault) Done in
    subst (TreesOf v.names) (gives_same leaf t w v h) (subst (λ (s : Stock). AreOf s.names text) (gives_stock leaf t w v h) o, tt)
making_of lib inner a e text Subpatch w t v q g l i o b f h =
    let c = chain (receiver_brought a.is_top text w) (λ _ u. canvas_grown inner a e.page e.head text u) t v h in
    let up = (receiver_takes a.is_top text w c.stock c.value c.first).names in
    canvas_of lib inner a e.page e.head text c.stock t v q g (library_more w.names c.stock.names up lib l) (around_more w.names c.stock.names up a i)
    (entries_of c.stock.names e.page.boxes (texts_more w.names c.stock.names up e.page.boxes b)) (are_of_more w.names c.stock.names up text o) c.next
making_of lib inner a e text (File s p) w t v q g l i o b f h =
    let args = arguments_of (drop 1 text) in
    let c = chain (numbered w) (λ z u. canvas_grown inner (around_instance a z s args) p e.head text u) t v h in
    let up = (numbered_takes w c.stock c.value c.first).names in
    let text_is = are_of_more w.names c.stock.names up text o in
    canvas_of lib inner (around_instance a c.value s args) p e.head text c.stock t v q g (library_more w.names c.stock.names up lib l)
    (around_of c.stock.names a c.value s text (around_more w.names c.stock.names up a i) (below_more w.names c.stock.names up s f.0) text_is)
    (entries_of c.stock.names p.boxes (texts_more w.names c.stock.names up p.boxes f.1)) text_is c.next

box_of : (lib : ℕ → Option Answer) (root : List ℕ) (left : ℕ) (inner : Inner) (a : Around) (e : Entry) (w : Stock) (t : Trees) (v : Stock) → InnerTakes inner
    → InnerOf lib inner → IsLibraryOf w.names lib → IsAroundOf w.names a → IsEntryOf w.names e → box_grown lib root left inner a e w ≡ gives t v → TreesOf v.names t
box_of lib root left inner a e w t v q g l i o h =
    let b = box_went lib root left inner a e w t v h in
    let up_start = (counted_takes w b.start b.counted_is).names in
    let up = extends_on w.names b.start.names b.named.names up_start (text_takes a e.head b.start b.text b.named b.text_is).names in
    let l_named = library_more w.names b.named.names up lib l in
    let text = own_text_of a e.head b.start b.named b.text (around_more w.names b.start.names up_start a i) (are_of_more w.names b.start.names up_start e.head.text o.text) b.text_is in
    making_of lib inner a e b.text b.making b.named t v q g l_named (around_more w.names b.named.names up a i) text (texts_more w.names b.named.names up e.page.boxes o.inner)
    (made_of lib root left a b.named.names e.head.form b.text b.making l_named text b.made_is) b.box_is

boxes_of : (lib : ℕ → Option Answer) (root : List ℕ) (left : ℕ) (inner : Inner) (a : Around) (es : List Entry) (w : Stock) (t : Trees) (v : Stock) → InnerTakes inner
    → InnerOf lib inner → IsLibraryOf w.names lib → IsAroundOf w.names a → AreEntriesOf w.names es → boxes_grown lib root left inner a es w ≡ gives t v → TreesOf v.names t
boxes_of lib root left inner a [] w t v q g l i o h =
    subst (TreesOf v.names) (gives_same Done t w v (sym (no_boxes lib root left inner a w) ∙ h)) tt
boxes_of lib root left inner a (e ∷ es) w t v q g l i o h =
    let b = boxes_went lib root left inner a e es w t v h in
    let up = (box_takes lib root left inner a e w b.box b.between q b.box_is).names in
    let on = (boxes_take lib root left inner a es b.between b.rest v q b.rest_is).names in
    subst (TreesOf v.names) b.all_is
    (trees_join v.names b.box b.rest
    (trees_more b.between.names v.names on b.box (box_of lib root left inner a e w b.box b.between q g l i o.0 b.box_is))
    (boxes_of lib root left inner a es b.between b.rest v q g (library_more w.names b.between.names up lib l) (around_more w.names b.between.names up a i)
    (entries_more w.names b.between.names up es o.1) b.rest_is))

inner_are_of : (lib : ℕ → Option Answer) (root : List ℕ) (left : ℕ) → InnerOf lib (inner_of lib root left)
inner_are_of lib root zero a p w t v l i o h = subst (TreesOf v.names) (gives_same Done t w v h) tt
inner_are_of lib root (suc n) a p w t v l i o h =
    boxes_of lib root n (inner_of lib root n) a (elements_of p) w t v (inner_takes lib root n) (inner_are_of lib root n) l i o (sym (page_is lib root n a p w) ∙ h)

pub one_of : (lib : ℕ → Option Answer) (root : List ℕ) (left : ℕ) (a : Around) (e : Entry) (w v : Stock) (t : Trees) → IsLibraryOf w.names lib → IsAroundOf w.names a
    → IsEntryOf w.names e → box_grown lib root left (inner_of lib root left) a e w ≡ gives t v → TreesOf v.names t
one_of lib root left a e w v t l i o h = box_of lib root left (inner_of lib root left) a e w t v (inner_takes lib root left) (inner_are_of lib root left) l i o h

pub several_of : (lib : ℕ → Option Answer) (root : List ℕ) (left : ℕ) (a : Around) (es : List Entry) (w v : Stock) (t : Trees) → IsLibraryOf w.names lib → IsAroundOf w.names a
    → AreEntriesOf w.names es → boxes_grown lib root left (inner_of lib root left) a es w ≡ gives t v → TreesOf v.names t
several_of lib root left a es w v t l i o h = boxes_of lib root left (inner_of lib root left) a es w t v (inner_takes lib root left) (inner_are_of lib root left) l i o h

pub page_of_table : (lib : ℕ → Option Answer) (root : List ℕ) (left : ℕ) (a : Around) (p : Page) (w v : Stock) (t : Trees) → IsLibraryOf w.names lib → IsAroundOf w.names a
    → TextsOf w.names p.boxes → page_grown lib root left a p w ≡ gives t v → TreesOf v.names t
page_of_table lib root left a p w v t l i o h = several_of lib root left a (elements_of p) w v t l i (entries_of w.names p.boxes o) (sym (page_is lib root left a p w) ∙ h)

pub patch_of_table : (lib : ℕ → Option Answer) (name : List ℕ) (p : Page) (w v : Stock) (t : Tree) → IsLibraryOf w.names lib → TextsOf w.names p.boxes
    → grown lib name p w ≡ gives t v → TreesOf v.names t.boxes
patch_of_table lib name p w v t l o h =
    let g = patch_went lib name p w t v h in
    let up = extends_on w.names g.start.names g.named.names (numbered_takes w g.start g.own g.own_is).names (brought_takes (receiver_bytes name) g.start g.named tt g.name_is).names in
    subst (λ (y : Tree). TreesOf v.names y.boxes) g.tree_is
    (page_of_table lib (without_ending name) 255 (around_root g.own) p g.named v g.boxes (library_more w.names g.named.names up lib l) (record { arguments = tt; inside = tt })
    (texts_more w.names g.named.names up p.boxes o) g.boxes_is)
