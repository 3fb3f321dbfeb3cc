-- Growth never looks at wires: a document with other wires grows to the tree with those wires.
use Rattle.std.proofs.Common.{◌≡◌, ℕ, zero, suc, ◌+◌, List, [], ◌∷◌, ◌++◌, Option, None, drop, refl, sym, ap, ◌∙◌, subst}
use Rattle.pd_atom.specs.Names.{Names}
use Rattle.pd_atom.specs.declared.Atom.{Atom}
use Rattle.pd_object.specs.declared.kinds.Kind.{Kind}
use Rattle.pd_object.specs.declared.kinds.Kind.TheVariants as kind
use Rattle.pd_naming.specs.Naming.{arguments_of}
use Rattle.pd_canvas.specs.declared.wires.Wire.{Wire}
use Rattle.pd_canvas.specs.Pages.{Shape, Obj, Sub, Head, Boxes, End, Box, Page, Entry, page_of, empty_page, listed, elements_of}
use Rattle.pd_library.specs.declared.answers.Answer.{Answer}
use Rattle.pd_tree.specs.declared.rows.Fault.{Fault}
use Rattle.pd_tree.specs.declared.rows.Sheet.{Sheet}
use Rattle.pd_tree.specs.Trees.{Cell, Trees, Done, Leaf, Holder, Tree, join, weight, sheet_of, frame_in, box_with, document_boxes, document_in, own_zeros, zeros_in, zeros_of}
use Rattle.pd_growth.specs.Steps.{Stock, Step, gives, goes_on, ◌>>=◌, numbered, brought}
use Rattle.pd_growth.specs.Making.{Around, Making, Plain, Subpatch, File, made}
use Rattle.pd_growth.specs.Growth.{Inner, cell_of, canvas_grown, receiver_bytes, receiver_brought, around_instance, box_made, own_text, box_grown, boxes_grown, page_grown, without_ending, around_root, grown}
use Rattle.pd_regrowth_law.specs.Regrowth.{inner_of}
use Rattle.pd_regrowth_law.specs.Suits.{TextsOf, IsEntryOf, AreEntriesOf}
use Rattle.pd_regrowth_law.specs.Rewiring.{with_wires, IsHolderAlike, AreAlike, IsTreeAlike}
use Rattle.pd_regrowth_law.proofs.StepLemmas.{no_boxes, more_boxes, page_is, gives_same, gives_stock, chain, BoxWent, box_went, boxes_went}
use Rattle.pd_regrowth_law.proofs.MakeLemmas.{MakesBy, made_by}
use Rattle.pd_regrowth_law.proofs.TakeLemmas.{canvas_went, patch_went}
use Rattle.pd_regrowth_law.proofs.AgainLemmas.{entries_of}

-- ---- boxes of the document as a list, and their texts

texts_from : (names : Names) (b : Boxes) → AreEntriesOf names (listed b) → TextsOf names b
texts_from names End h = tt
texts_from names (Box d f inner rest) h = (h.0.text, h.0.inner, texts_from names rest h.1)

-- what a box with this entry goes through again
pub again_through : (lib : ℕ → Option Answer) (root : List ℕ) (left : ℕ) (inner : Inner) (a : Around) (e d : Entry) (w : Stock) (t u : Trees) (v : Stock)
    → d.head ≡ e.head → (b : BoxWent lib root left inner a e w t v) → box_made inner a d b.text b.making b.named ≡ gives u v
    → box_grown lib root left inner a d w ≡ gives u v
again_through lib root left inner a e d w t u v head b h =
    let after : Head → List Atom → Stock → Step Trees = λ y text s. goes_on (made lib root left a s.names y.form text) s (λ m x. box_made inner a d text m x) in
    ap (λ y. y >>= (λ _ s. own_text a d.head s >>= after d.head)) b.counted_is
    ∙ ap (λ y. own_text a y b.start >>= after y) head
    ∙ ap (λ y. y >>= after e.head) b.text_is
    ∙ ap (λ r. goes_on r b.named (λ m x. box_made inner a d b.text m x)) b.made_is
    ∙ h

-- ---- canvases and boxes

-- a canvas grows from each page whose boxes are those of a tree that is so
record CanvasAlike (inner : Inner) (a : Around) (p : Page) (w : Stock) (t : Trees) (v : Stock) (u : Trees) : Type 0 where
  grows : (q : Page) → q.boxes ≡ document_boxes u → inner a q w ≡ gives u v
  texts : (names : Names) → TextsOf names p.boxes → TextsOf names (document_boxes u)

abbrev InnerAlike : Inner → Type 0
InnerAlike inner = (a : Around) (p : Page) (w : Stock) (t : Trees) (v : Stock) (u : Trees) → inner a p w ≡ gives t v → AreAlike t u
    → CanvasAlike inner a p w t v u

-- the first box of a tree that is so, and the others
record MakingAlike (inner : Inner) (a : Around) (e : Entry) (text : List Atom) (m : Making) (w v : Stock) (rest u : Trees) : Type 0 where
  entry : Entry
  first : Trees
  others : Trees
  tree : u ≡ join first others
  entries : listed (document_boxes u) ≡ entry ∷ listed (document_boxes others)
  head : entry.head ≡ e.head
  grows : box_made inner a entry text m w ≡ gives first v
  alike : AreAlike rest others
  texts : (names : Names) → IsEntryOf names e → IsEntryOf names entry

plain_alike : (inner : Inner) (a : Around) (e : Entry) (text : List Atom) (k : Kind) (fault : Option Fault) (w v : Stock) (rest u : Trees) → w ≡ v
    → AreAlike (Leaf (cell_of e.head text k fault) rest) u → MakingAlike inner a e text (Plain k fault) w v rest u
plain_alike inner a e text k fault w v rest u is h = record {
  entry = record { head = e.head; page = empty_page };
  first = Leaf (cell_of e.head text k fault) Done;
  others = h.0;
  tree = h.1;
  entries = ap (λ y. listed (document_boxes y)) h.1;
  head = refl;
  grows = ap (λ y. gives (Leaf (cell_of e.head text k fault) Done) y) is;
  alike = h.2;
  texts = λ names o. record { text = o.text; inner = tt };
}

subpatch_alike : (inner : Inner) (a : Around) (e : Entry) (text : List Atom) (w between : Stock) (boxes : Trees) (v : Stock) (rest u : Trees) → InnerAlike inner
    → e.head.form ≡ Sub → receiver_brought a.is_top text w ≡ gives tt between → inner a e.page between ≡ gives boxes v
    → AreAlike (Holder (cell_of e.head text kind.Canvas None) (sheet_of a.zero a.arguments e.page) boxes rest) u → MakingAlike inner a e text Subpatch w v rest u
subpatch_alike inner a e text w between boxes v rest u i f brought_is boxes_is k =
    let c = cell_of e.head text kind.Canvas None in
    let s = sheet_of a.zero a.arguments e.page in
    let h : IsHolderAlike Sub c s boxes (AreAlike boxes) (AreAlike rest) u = subst (λ y. IsHolderAlike y c s boxes (AreAlike boxes) (AreAlike rest) u) f k in
    let own = with_wires h.0 s in
    let inside = i a e.page between boxes v h.1 boxes_is h.4 in
    let page = page_of (frame_in own) (document_boxes h.1) in
    record {
      entry = record { head = e.head; page = page };
      first = Holder c own h.1 Done;
      others = h.2;
      tree = h.3;
      entries = ap (λ y. listed (document_boxes y)) h.3 ∙ ap (λ y. listed (box_with y e.head own (document_boxes h.1) (document_boxes h.2))) f;
      head = refl;
      grows = ap (λ y. y >>= (λ _ x. canvas_grown inner a page e.head text x)) brought_is
          ∙ ap (λ y. y >>= (λ bs x. gives (Holder c own bs Done) x)) (inside.grows page refl);
      alike = h.5;
      texts = λ names o. record { text = o.text; inner = inside.texts names o.inner };
    }

file_alike : (inner : Inner) (a : Around) (e : Entry) (text : List Atom) (n : ℕ) (p : Page) (w : Stock) (own : ℕ) (boxes : Trees) (v : Stock) (rest u : Trees)
    → e.head.form ≡ Obj
    → box_made inner a e text (File n p) w ≡ gives (Holder (cell_of e.head text kind.Canvas None) (sheet_of own (arguments_of (drop 1 text)) p) boxes Done) v
    → AreAlike (Holder (cell_of e.head text kind.Canvas None) (sheet_of own (arguments_of (drop 1 text)) p) boxes rest) u → MakingAlike inner a e text (File n p) w v rest u
file_alike inner a e text n p w own boxes v rest u f made_is k =
    let c = cell_of e.head text kind.Canvas None in
    let s = sheet_of own (arguments_of (drop 1 text)) p in
    let h : IsHolderAlike Obj c s boxes (AreAlike boxes) (AreAlike rest) u = subst (λ y. IsHolderAlike y c s boxes (AreAlike boxes) (AreAlike rest) u) f k in
    record {
      entry = record { head = e.head; page = empty_page };
      first = Holder c s boxes Done;
      others = h.0;
      tree = h.1;
      entries = ap (λ y. listed (document_boxes y)) h.1 ∙ ap (λ y. listed (box_with y e.head s (document_boxes boxes) (document_boxes h.0))) f;
      head = refl;
      grows = made_is;
      alike = h.2;
      texts = λ names o. record { text = o.text; inner = tt };
    }

making_alike : (inner : Inner) (a : Around) (e : Entry) (text : List Atom) (m : Making) (w : Stock) (t : Trees) (v : Stock) (rest u : Trees) → InnerAlike inner
    → MakesBy e.head.form m → box_made inner a e text m w ≡ gives t v → AreAlike (join t rest) u → MakingAlike inner a e text m w v rest u
making_alike inner a e text (Plain k fault) w t v rest u i f h alike =
    let leaf = Leaf (cell_of e.head text k fault) Done in
    plain_alike inner a e text k fault w v rest u (gives_stock leaf t w v h) (subst (λ y. AreAlike (join y rest) u) (sym (gives_same leaf t w v h)) alike)
making_alike inner a e text Subpatch w t v rest u i f h alike =
    let c = chain (receiver_brought a.is_top text w) (λ _ y. canvas_grown inner a e.page e.head text y) t v h in
    let g = canvas_went inner a e.page e.head text c.stock t v c.next in
    subpatch_alike inner a e text w c.stock g.boxes v rest u i f c.first g.boxes_is (subst (λ y. AreAlike (join y rest) u) (sym g.tree_is) alike)
making_alike inner a e text (File n p) w t v rest u i f h alike =
    let args = arguments_of (drop 1 text) in
    let c = chain (numbered w) (λ z y. canvas_grown inner (around_instance a z n args) p e.head text y) t v h in
    let g = canvas_went inner (around_instance a c.value n args) p e.head text c.stock t v c.next in
    file_alike inner a e text n p w c.value g.boxes v rest u f (h ∙ ap (λ y. gives y v) (sym g.tree_is)) (subst (λ y. AreAlike (join y rest) u) (sym g.tree_is) alike)

record BoxAlike (lib : ℕ → Option Answer) (root : List ℕ) (left : ℕ) (inner : Inner) (a : Around) (e : Entry) (w v : Stock) (rest u : Trees) : Type 0 where
  entry : Entry
  first : Trees
  others : Trees
  tree : u ≡ join first others
  entries : listed (document_boxes u) ≡ entry ∷ listed (document_boxes others)
  grows : box_grown lib root left inner a entry w ≡ gives first v
  alike : AreAlike rest others
  texts : (names : Names) → IsEntryOf names e → IsEntryOf names entry

box_alike : (lib : ℕ → Option Answer) (root : List ℕ) (left : ℕ) (inner : Inner) (a : Around) (e : Entry) (w : Stock) (t : Trees) (v : Stock) (rest u : Trees) → InnerAlike inner
    → box_grown lib root left inner a e w ≡ gives t v → AreAlike (join t rest) u → BoxAlike lib root left inner a e w v rest u
box_alike lib root left inner a e w t v rest u i h alike =
    let b = box_went lib root left inner a e w t v h in
    let m = making_alike inner a e b.text b.making b.named t v rest u i (made_by lib root left a b.named.names e.head.form b.text b.making b.made_is) b.box_is alike in
    record {
      entry = m.entry;
      first = m.first;
      others = m.others;
      tree = m.tree;
      entries = m.entries;
      grows = again_through lib root left inner a e m.entry w t m.first v m.head b m.grows;
      alike = m.alike;
      texts = m.texts;
    }

-- boxes grow from the document's boxes of a tree that is so
record BoxesAlike (lib : ℕ → Option Answer) (root : List ℕ) (left : ℕ) (inner : Inner) (a : Around) (es : List Entry) (w v : Stock) (u : Trees) : Type 0 where
  grows : boxes_grown lib root left inner a (listed (document_boxes u)) w ≡ gives u v
  texts : (names : Names) → AreEntriesOf names es → AreEntriesOf names (listed (document_boxes u))

boxes_alike : (lib : ℕ → Option Answer) (root : List ℕ) (left : ℕ) (inner : Inner) (a : Around) (es : List Entry) (w : Stock) (t : Trees) (v : Stock) (u : Trees) → InnerAlike inner
    → boxes_grown lib root left inner a es w ≡ gives t v → AreAlike t u → BoxesAlike lib root left inner a es w v u
boxes_alike lib root left inner a [] w t v u i h alike =
    let e = sym (no_boxes lib root left inner a w) ∙ h in
    let none : u ≡ Done = subst (λ y. AreAlike y u) (sym (gives_same Done t w v e)) alike in
    record {
      grows = ap (λ y. boxes_grown lib root left inner a (listed (document_boxes y)) w) none ∙ no_boxes lib root left inner a w
          ∙ ap (gives Done) (gives_stock Done t w v e) ∙ ap (λ y. gives y v) (sym none);
      texts = λ names o. subst (λ y. AreEntriesOf names (listed (document_boxes y))) (sym none) tt;
    }
boxes_alike lib root left inner a (e ∷ es) w t v u i h alike =
    let b = boxes_went lib root left inner a e es w t v h in
    let one = box_alike lib root left inner a e w b.box b.between b.rest u i b.box_is (subst (λ y. AreAlike y u) (sym b.all_is) alike) in
    let rest = boxes_alike lib root left inner a es b.between b.rest v one.others i b.rest_is one.alike in
    let others = listed (document_boxes one.others) in
    let after : Trees → Stock → Step Trees = λ box x. boxes_grown lib root left inner a others x >>= (λ r y. gives (join box r) y) in
    record {
      grows = ap (λ l. boxes_grown lib root left inner a l w) one.entries ∙ more_boxes lib root left inner a one.entry others w
          ∙ ap (λ y. y >>= after) one.grows ∙ ap (λ y. y >>= (λ r x. gives (join one.first r) x)) rest.grows ∙ ap (λ y. gives y v) (sym one.tree);
      texts = λ names o. subst (AreEntriesOf names) (sym one.entries) (one.texts names o.0, rest.texts names o.1);
    }

nothing_alike : InnerAlike (λ a p w. gives Done w)
nothing_alike a p w t v u h alike =
    let none : u ≡ Done = subst (λ y. AreAlike y u) (sym (gives_same Done t w v h)) alike in
    record {
      grows = λ q e. ap (gives Done) (gives_stock Done t w v h) ∙ ap (λ y. gives y v) (sym none);
      texts = λ names o. subst (λ y. TextsOf names (document_boxes y)) (sym none) tt;
    }

inner_alike : (lib : ℕ → Option Answer) (root : List ℕ) (left : ℕ) → InnerAlike (inner_of lib root left)
inner_alike lib root zero a p w t v u h alike = nothing_alike a p w t v u h alike
inner_alike lib root (suc n) a p w t v u h alike =
    let b = boxes_alike lib root n (inner_of lib root n) a (elements_of p) w t v u (inner_alike lib root n) (sym (page_is lib root n a p w) ∙ h) alike in
    record {
      grows = λ q e. page_is lib root n a q w ∙ ap (λ y. boxes_grown lib root n (inner_of lib root n) a (listed y) w) e ∙ b.grows;
      texts = λ names o. texts_from names (document_boxes u) (b.texts names (entries_of names p.boxes o));
    }

pub page_alike : (lib : ℕ → Option Answer) (root : List ℕ) (left : ℕ) (a : Around) (p q : Page) (w v : Stock) (t u : Trees)
    → page_grown lib root left a p w ≡ gives t v → AreAlike t u → q.boxes ≡ document_boxes u → page_grown lib root left a q w ≡ gives u v
page_alike lib root left a p q w v t u h alike e =
    let b = boxes_alike lib root left (inner_of lib root left) a (elements_of p) w t v u (inner_alike lib root left) (sym (page_is lib root left a p w) ∙ h) alike in
    page_is lib root left a q w ∙ ap (λ y. boxes_grown lib root left (inner_of lib root left) a (listed y) w) e ∙ b.grows

pub page_texts : (lib : ℕ → Option Answer) (root : List ℕ) (left : ℕ) (a : Around) (p : Page) (w v : Stock) (t u : Trees) (names : Names)
    → page_grown lib root left a p w ≡ gives t v → AreAlike t u → TextsOf names p.boxes → TextsOf names (document_boxes u)
page_texts lib root left a p w v t u names h alike o =
    let b = boxes_alike lib root left (inner_of lib root left) a (elements_of p) w t v u (inner_alike lib root left) (sym (page_is lib root left a p w) ∙ h) alike in
    texts_from names (document_boxes u) (b.texts names (entries_of names p.boxes o))

sheet_again : (own : ℕ) (p : Page) (s : Sheet) (ws : List Wire) (b : Boxes) → s ≡ with_wires ws (sheet_of own [] p) → sheet_of own [] (page_of (frame_in s) b) ≡ s
sheet_again own p s ws b e = subst (λ y. sheet_of own [] (page_of (frame_in y) b) ≡ y) (sym e) refl

pub patch_alike : (lib : ℕ → Option Answer) (name : List ℕ) (p : Page) (w v : Stock) (t u : Tree)
    → grown lib name p w ≡ gives t v → IsTreeAlike t u → grown lib name (document_in u) w ≡ gives u v
patch_alike lib name p w v t u h alike =
    let g = patch_went lib name p w t v h in
    let q = document_in u in
    let boxes = page_alike lib (without_ending name) 255 (around_root g.own) p q g.named v g.boxes u.boxes g.boxes_is
    (subst (λ (y : Tree). AreAlike y.boxes u.boxes) (sym g.tree_is) alike.boxes) refl in
    let sheet = sheet_again g.own p u.sheet alike.wires (document_boxes u.boxes) (alike.sheet ∙ ap (λ (y : Tree). with_wires alike.wires y.sheet) (sym g.tree_is)) in
    let tree : ℕ → Trees → Tree = λ z bs. record { sheet = sheet_of z [] q; boxes = bs } in
    let after : ℕ → Stock → Step Tree = λ z x. page_grown lib (without_ending name) 255 (around_root z) q x >>= (λ bs y. gives (tree z bs) y) in
    ap (λ y. y >>= (λ z x. brought (receiver_bytes name) x >>= (λ _ s. after z s))) g.own_is
    ∙ ap (λ y. y >>= (λ _ s. after g.own s)) g.name_is
    ∙ ap (λ y. y >>= (λ bs s. gives (tree g.own bs) s)) boxes
    ∙ ap (λ s. gives (record { sheet = s; boxes = u.boxes }) v) sheet

pub patch_texts : (lib : ℕ → Option Answer) (name : List ℕ) (p : Page) (w v : Stock) (t u : Tree) (names : Names)
    → grown lib name p w ≡ gives t v → IsTreeAlike t u → TextsOf names p.boxes → TextsOf names (document_boxes u.boxes)
patch_texts lib name p w v t u names h alike o =
    let g = patch_went lib name p w t v h in
    page_texts lib (without_ending name) 255 (around_root g.own) p g.named v g.boxes u.boxes names g.boxes_is
    (subst (λ (y : Tree). AreAlike y.boxes u.boxes) (sym g.tree_is) alike.boxes) o

-- ---- what does not change with wires

pub holder_cases : (P : Trees → Type 0) (form : Shape) (c : Cell) (s : Sheet) (inner rest u : Trees)
    → ((ws : List Wire) (boxes others : Trees) → AreAlike inner boxes → AreAlike rest others → P (Holder c (with_wires ws s) boxes others))
    → ((others : Trees) → AreAlike rest others → P (Holder c s inner others))
    → IsHolderAlike form c s inner (AreAlike inner) (AreAlike rest) u → P u
holder_cases P Sub c s inner rest u f g h = subst P (sym h.3) (f h.0 h.1 h.2 h.4 h.5)
holder_cases P form c s inner rest u f g h = subst P (sym h.1) (g h.0 h.2)

own_same : (form : Shape) (ws : List Wire) (s : Sheet) → own_zeros form (with_wires ws s) ≡ own_zeros form s
own_same Sub ws s = refl
own_same form ws s = refl

pub zeros_alike : (t u : Trees) → AreAlike t u → zeros_in u ≡ zeros_in t
zeros_alike Done u h = ap zeros_in h
zeros_alike (Leaf c rest) u h = ap zeros_in h.1 ∙ zeros_alike rest h.0 h.2
zeros_alike (Holder c s inner rest) u h =
    holder_cases (λ y. zeros_in y ≡ own_zeros c.head.form s ++ (zeros_in inner ++ zeros_in rest)) c.head.form c s inner rest u
    (λ ws boxes others i r. ap (λ x. x ++ (zeros_in boxes ++ zeros_in others)) (own_same c.head.form ws s)
    ∙ ap (λ x. own_zeros c.head.form s ++ (x ++ zeros_in others)) (zeros_alike inner boxes i)
    ∙ ap (λ x. own_zeros c.head.form s ++ (zeros_in inner ++ x)) (zeros_alike rest others r))
    (λ others r. ap (λ x. own_zeros c.head.form s ++ (zeros_in inner ++ x)) (zeros_alike rest others r)) h

pub weight_alike : (t u : Trees) → AreAlike t u → weight u ≡ weight t
weight_alike Done u h = ap weight h
weight_alike (Leaf c rest) u h = ap weight h.1 ∙ ap (λ n. n + 1) (weight_alike rest h.0 h.2)
weight_alike (Holder c s inner rest) u h =
    holder_cases (λ y. weight y ≡ weight inner + weight rest + 1) c.head.form c s inner rest u
    (λ ws boxes others i r. ap (λ n. n + weight others + 1) (weight_alike inner boxes i) ∙ ap (λ n. weight inner + n + 1) (weight_alike rest others r))
    (λ others r. ap (λ n. weight inner + n + 1) (weight_alike rest others r)) h

pub zeros_of_alike : (t u : Tree) → IsTreeAlike t u → zeros_of u ≡ zeros_of t
zeros_of_alike t u h =
    ap (λ (s : Sheet). s.zero ∷ zeros_in u.boxes) h.sheet ∙ ap (λ l. t.sheet.zero ∷ l) (zeros_alike t.boxes u.boxes h.boxes)
