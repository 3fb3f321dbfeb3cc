-- A library that answers alike for all that boxes ask for grows them alike, from the same stock.
use Rattle.std.proofs.Common.{◌≡◌, ℕ, zero, suc, List, [], ◌∷◌, Option, None, drop, sym, ap, ◌∙◌, subst}
use Rattle.pd_atom.specs.declared.Atom.{Atom}
use Rattle.pd_object.specs.declared.kinds.Kind.TheVariants as kind
use Rattle.pd_naming.specs.Naming.{arguments_of}
use Rattle.pd_canvas.specs.Pages.{Head, Page, Entry, elements_of}
use Rattle.pd_library.specs.declared.answers.Answer.{Answer}
use Rattle.pd_tree.specs.Trees.{Trees, Done, Holder, Tree, join, sheet_of}
use Rattle.pd_growth.specs.Steps.{Stock, Step, gives, goes_on, ◌>>=◌, numbered, brought}
use Rattle.pd_growth.specs.Making.{Around, Making, Plain, Subpatch, File, made}
use Rattle.pd_growth.specs.Growth.{Inner, cell_of, canvas_grown, receiver_bytes, receiver_brought, around_instance, box_made, own_text, box_grown, boxes_grown, page_grown, without_ending, around_root, grown}
use Rattle.pd_regrowth_law.specs.Regrowth.{inner_of}
use Rattle.pd_regrowth_law.proofs.StepLemmas.{no_boxes, more_boxes, page_is, chain, box_went, boxes_went}
use Rattle.pd_regrowth_law.proofs.TakeLemmas.{canvas_went, patch_went}
use Rattle.pd_regrowth_law.proofs.AskLemmas.{IsAlikeIn, alike_first, alike_rest, alike_made, made_same}

-- canvases inside: what the first library's growth gives, the second one's gives
abbrev InnerSame : (ℕ → Option Answer) → (ℕ → Option Answer) → Inner → Inner → Type 0
InnerSame lib lib2 inner inner2 = (a : Around) (p : Page) (w : Stock) (t : Trees) (v : Stock) → IsAlikeIn lib lib2 t → inner a p w ≡ gives t v
    → inner2 a p w ≡ gives t v

canvas_same : (lib lib2 : ℕ → Option Answer) (inner inner2 : Inner) (a : Around) (p : Page) (h : Head) (text : List Atom) (w : Stock) (t : Trees) (v : Stock)
    → InnerSame lib lib2 inner inner2 → IsAlikeIn lib lib2 t → canvas_grown inner a p h text w ≡ gives t v → canvas_grown inner2 a p h text w ≡ gives t v
canvas_same lib lib2 inner inner2 a p h text w t v g like e =
    let c = canvas_went inner a p h text w t v e in
    let all = subst (IsAlikeIn lib lib2) (sym c.tree_is) like in
    ap (λ y. y >>= (λ boxes u. gives (Holder (cell_of h text kind.Canvas None) (sheet_of a.zero a.arguments p) boxes Done) u)) (g a p w c.boxes v all.1 c.boxes_is)
    ∙ ap (λ y. gives y v) c.tree_is

making_same : (lib lib2 : ℕ → Option Answer) (inner inner2 : Inner) (a : Around) (e : Entry) (text : List Atom) (m : Making) (w : Stock) (t : Trees) (v : Stock)
    → InnerSame lib lib2 inner inner2 → IsAlikeIn lib lib2 t → box_made inner a e text m w ≡ gives t v → box_made inner2 a e text m w ≡ gives t v
making_same lib lib2 inner inner2 a e text (Plain k fault) w t v g like h = h
making_same lib lib2 inner inner2 a e text Subpatch w t v g like h =
    let c = chain (receiver_brought a.is_top text w) (λ _ u. canvas_grown inner a e.page e.head text u) t v h in
    ap (λ y. y >>= (λ _ u. canvas_grown inner2 a e.page e.head text u)) c.first
    ∙ canvas_same lib lib2 inner inner2 a e.page e.head text c.stock t v g like c.next
making_same lib lib2 inner inner2 a e text (File s p) w t v g like h =
    let args = arguments_of (drop 1 text) in
    let c = chain (numbered w) (λ z u. canvas_grown inner (around_instance a z s args) p e.head text u) t v h in
    ap (λ y. y >>= (λ z u. canvas_grown inner2 (around_instance a z s args) p e.head text u)) c.first
    ∙ canvas_same lib lib2 inner inner2 (around_instance a c.value s args) p e.head text c.stock t v g like c.next

box_same : (lib lib2 : ℕ → Option Answer) (root : List ℕ) (left : ℕ) (inner inner2 : Inner) (a : Around) (e : Entry) (w : Stock) (t : Trees) (v : Stock)
    → InnerSame lib lib2 inner inner2 → IsAlikeIn lib lib2 t → box_grown lib root left inner a e w ≡ gives t v → box_grown lib2 root left inner2 a e w ≡ gives t v
box_same lib lib2 root left inner inner2 a e w t v g like h =
    let b = box_went lib root left inner a e w t v h in
    let after : List Atom → Stock → Step Trees = λ y u. goes_on (made lib2 root left a u.names e.head.form y) u (λ k s. box_made inner2 a e y k s) in
    ap (λ y. y >>= (λ _ u. own_text a e.head u >>= after)) b.counted_is
    ∙ ap (λ y. y >>= after) b.text_is
    ∙ ap (λ r. goes_on r b.named (λ k s. box_made inner2 a e b.text k s))
    (made_same lib lib2 root left a b.named.names e.head.form b.text b.making (alike_made lib lib2 inner a e b.text b.making b.named t v b.box_is like) b.made_is)
    ∙ making_same lib lib2 inner inner2 a e b.text b.making b.named t v g like b.box_is

boxes_same : (lib lib2 : ℕ → Option Answer) (root : List ℕ) (left : ℕ) (inner inner2 : Inner) (a : Around) (es : List Entry) (w : Stock) (t : Trees) (v : Stock)
    → InnerSame lib lib2 inner inner2 → IsAlikeIn lib lib2 t → boxes_grown lib root left inner a es w ≡ gives t v
    → boxes_grown lib2 root left inner2 a es w ≡ gives t v
boxes_same lib lib2 root left inner inner2 a [] w t v g like h = no_boxes lib2 root left inner2 a w ∙ sym (no_boxes lib root left inner a w) ∙ h
boxes_same lib lib2 root left inner inner2 a (e ∷ es) w t v g like h =
    let b = boxes_went lib root left inner a e es w t v h in
    let all = subst (IsAlikeIn lib lib2) (sym b.all_is) like in
    more_boxes lib2 root left inner2 a e es w
    ∙ ap (λ y. y >>= (λ box u. boxes_grown lib2 root left inner2 a es u >>= (λ rest s. gives (join box rest) s)))
    (box_same lib lib2 root left inner inner2 a e w b.box b.between g (alike_first lib lib2 b.box b.rest all) b.box_is)
    ∙ ap (λ y. y >>= (λ rest s. gives (join b.box rest) s))
    (boxes_same lib lib2 root left inner inner2 a es b.between b.rest v g (alike_rest lib lib2 b.box b.rest all) b.rest_is)
    ∙ ap (λ y. gives y v) b.all_is

inner_same : (lib lib2 : ℕ → Option Answer) (root : List ℕ) (left : ℕ) → InnerSame lib lib2 (inner_of lib root left) (inner_of lib2 root left)
inner_same lib lib2 root zero a p w t v like h = h
inner_same lib lib2 root (suc n) a p w t v like h =
    page_is lib2 root n a p w
    ∙ boxes_same lib lib2 root n (inner_of lib root n) (inner_of lib2 root n) a (elements_of p) w t v (inner_same lib lib2 root n) like (sym (page_is lib root n a p w) ∙ h)

pub one_same : (lib lib2 : ℕ → Option Answer) (root : List ℕ) (left : ℕ) (a : Around) (e : Entry) (w v : Stock) (t : Trees) → IsAlikeIn lib lib2 t
    → box_grown lib root left (inner_of lib root left) a e w ≡ gives t v → box_grown lib2 root left (inner_of lib2 root left) a e w ≡ gives t v
one_same lib lib2 root left a e w v t like h =
    box_same lib lib2 root left (inner_of lib root left) (inner_of lib2 root left) a e w t v (inner_same lib lib2 root left) like h

pub several_same : (lib lib2 : ℕ → Option Answer) (root : List ℕ) (left : ℕ) (a : Around) (es : List Entry) (w v : Stock) (t : Trees) → IsAlikeIn lib lib2 t
    → boxes_grown lib root left (inner_of lib root left) a es w ≡ gives t v → boxes_grown lib2 root left (inner_of lib2 root left) a es w ≡ gives t v
several_same lib lib2 root left a es w v t like h =
    boxes_same lib lib2 root left (inner_of lib root left) (inner_of lib2 root left) a es w t v (inner_same lib lib2 root left) like h

pub page_same : (lib lib2 : ℕ → Option Answer) (root : List ℕ) (left : ℕ) (a : Around) (p : Page) (w v : Stock) (t : Trees) → IsAlikeIn lib lib2 t
    → page_grown lib root left a p w ≡ gives t v → page_grown lib2 root left a p w ≡ gives t v
page_same lib lib2 root left a p w v t like h =
    page_is lib2 root left a p w ∙ several_same lib lib2 root left a (elements_of p) w v t like (sym (page_is lib root left a p w) ∙ h)

pub patch_same : (lib lib2 : ℕ → Option Answer) (name : List ℕ) (p : Page) (w v : Stock) (t : Tree) → IsAlikeIn lib lib2 t.boxes
    → grown lib name p w ≡ gives t v → grown lib2 name p w ≡ gives t v
patch_same lib lib2 name p w v t like h =
    let g = patch_went lib name p w t v h in
    let tree : ℕ → Trees → Tree = λ own boxes. record { sheet = sheet_of own [] p; boxes = boxes } in
    ap (λ y. y >>= (λ own s. brought (receiver_bytes name) s >>= (λ _ u. page_grown lib2 (without_ending name) 255 (around_root own) p u >>= (λ boxes x. gives (tree own boxes) x)))) g.own_is
    ∙ ap (λ y. y >>= (λ _ u. page_grown lib2 (without_ending name) 255 (around_root g.own) p u >>= (λ boxes x. gives (tree g.own boxes) x))) g.name_is
    ∙ ap (λ y. y >>= (λ boxes x. gives (tree g.own boxes) x))
    (page_same lib lib2 (without_ending name) 255 (around_root g.own) p g.named v g.boxes (subst (λ (y : Tree). IsAlikeIn lib lib2 y.boxes) (sym g.tree_is) like) g.boxes_is)
    ∙ ap (λ y. gives y v) g.tree_is
