-- What growth makes of message boxes, of arrays and of boxes that hold canvases.
use Rattle.std.proofs.Common.{◌≡◌, ℕ, zero, suc, List, [], ◌∷◌, Option, None, refl, sym, ap, ◌∙◌, subst, if◌then◌else◌}
use Rattle.std.specs.Prelude.{drop, Ok}
use Rattle.pd_atom.specs.Names.{Names}
use Rattle.pd_atom.specs.declared.Atom.{Atom}
use Rattle.pd_object.specs.declared.kinds.Kind.TheVariants as kind
use Rattle.pd_object.specs.declared.kinds.Glue.TheVariants as glue
use Rattle.pd_naming.specs.Naming.{arguments_of}
use Rattle.pd_canvas.specs.Pages.{Shape, Msg, Array, Head, Page, Entry, elements_of}
use Rattle.pd_library.specs.declared.answers.Answer.{Answer}
use Rattle.pd_tree.specs.Trees.{Trees, Done, Leaf, Holder, Tree, join}
use Rattle.pd_growth.specs.Steps.{Stock, gives, numbered, named_step, text_expanded}
use Rattle.pd_growth.specs.Making.{Around, Making, Plain, Subpatch, File, made, is_expanded}
use Rattle.pd_growth.specs.Growth.{Inner, cell_of, canvas_grown, receiver_brought, around_instance, box_made, own_text, box_grown, boxes_grown, without_ending, around_root, grown}
use Rattle.pd_regrowth_law.specs.Regrowth.{inner_of}
use Rattle.pd_regrowth_law.proofs.StepLemmas.{no_boxes, page_is, gives_same, ok_same, chain, box_went, boxes_went}
use Rattle.pd_regrowth_law.proofs.TakeLemmas.{canvas_went, patch_went}
use Rattle.pd_reload_law.specs.Saving.{IsMade, AreMade}

made_join : (t r : Trees) → AreMade t → AreMade r → AreMade (join t r)
made_join Done r m n = n
made_join (Leaf c t) r m n = (m.0, made_join t r m.1 n)
made_join (Holder c s inner t) r m n = (m.0, m.1, made_join t r m.2 n)

abbrev InnerMade : Inner → Type 0
InnerMade inner = (a : Around) (p : Page) (w : Stock) (t : Trees) (v : Stock) → inner a p w ≡ gives t v → AreMade t

canvas_made : (inner : Inner) (a : Around) (p : Page) (h : Head) (text : List Atom) (w : Stock) (t : Trees) (v : Stock) → InnerMade inner
    → canvas_grown inner a p h text w ≡ gives t v → AreMade t
canvas_made inner a p h text w t v i e =
    let g = canvas_went inner a p h text w t v e in
    subst AreMade g.tree_is (refl, i a p w g.boxes v g.boxes_is, tt)

-- what holds of what a box with a head and a text makes
abbrev MakesSo : Shape → Head → List Atom → Making → Type 0
MakesSo f h text (Plain k fault) = IsMade f (cell_of h text k fault)
MakesSo f h text Subpatch = Unit {0}
MakesSo f h text (File s p) = Unit {0}

makes_so : (f : Shape) (lib : ℕ → Option Answer) (root : List ℕ) (left : ℕ) (a : Around) (names : Names) (h : Head) (text : List Atom) (m : Making)
    → (f ≡ Msg → text ≡ h.text) → made lib root left a names f text ≡ Ok m → MakesSo f h text m
makes_so Msg lib root left a names h text m t e =
    let plain = Plain (kind.Glue (glue.Message text)) None in
    subst (MakesSo Msg h text) (ok_same (Ok plain) plain m refl e) (ap (λ (x : List Atom). cell_of h x (kind.Glue (glue.Message x)) None) (t refl))
makes_so (Array values) lib root left a names h text m t e =
    let plain = Plain (kind.Glue (glue.Array text values)) None in
    subst (MakesSo (Array values) h text) (ok_same (Ok plain) plain m refl e) refl
makes_so f lib root left a names h text (Plain k fault) t e = tt
makes_so f lib root left a names h text Subpatch t e = tt
makes_so f lib root left a names h text (File s p) t e = tt

text_of_message : (f : Shape) (a : Around) (h : Head) (w v : Stock) (text : List Atom) → own_text a h w ≡ gives text v → h.form ≡ f → f ≡ Msg → text ≡ h.text
text_of_message f a h w v text e is msg =
    let k : own_text a h w ≡ gives h.text w =
    ap (λ y. if is_expanded y then named_step (text_expanded a.zero a.arguments h.text w.names) w else gives h.text w) (is ∙ msg) in
    sym (gives_same h.text text w v (sym k ∙ e))

making_made : (inner : Inner) (a : Around) (e : Entry) (text : List Atom) (m : Making) (w : Stock) (t : Trees) (v : Stock) → InnerMade inner
    → MakesSo e.head.form e.head text m → box_made inner a e text m w ≡ gives t v → AreMade t
making_made inner a e text (Plain k fault) w t v i f h = subst AreMade (gives_same (Leaf (cell_of e.head text k fault) Done) t w v h) (f, tt)
making_made inner a e text Subpatch w t v i f h =
    let c = chain (receiver_brought a.is_top text w) (λ _ u. canvas_grown inner a e.page e.head text u) t v h in
    canvas_made inner a e.page e.head text c.stock t v i c.next
making_made inner a e text (File s p) w t v i f h =
    let args = arguments_of (drop 1 text) in
    let c = chain (numbered w) (λ z u. canvas_grown inner (around_instance a z s args) p e.head text u) t v h in
    canvas_made inner (around_instance a c.value s args) p e.head text c.stock t v i c.next

box_is_made : (lib : ℕ → Option Answer) (root : List ℕ) (left : ℕ) (inner : Inner) (a : Around) (e : Entry) (w : Stock) (t : Trees) (v : Stock) → InnerMade inner
    → box_grown lib root left inner a e w ≡ gives t v → AreMade t
box_is_made lib root left inner a e w t v i h =
    let b = box_went lib root left inner a e w t v h in
    making_made inner a e b.text b.making b.named t v i
    (makes_so e.head.form lib root left a b.named.names e.head b.text b.making (text_of_message e.head.form a e.head b.start b.named b.text b.text_is refl) b.made_is) b.box_is

boxes_are_made : (lib : ℕ → Option Answer) (root : List ℕ) (left : ℕ) (inner : Inner) (a : Around) (es : List Entry) (w : Stock) (t : Trees) (v : Stock) → InnerMade inner
    → boxes_grown lib root left inner a es w ≡ gives t v → AreMade t
boxes_are_made lib root left inner a [] w t v i h = subst AreMade (gives_same Done t w v (sym (no_boxes lib root left inner a w) ∙ h)) tt
boxes_are_made lib root left inner a (e ∷ es) w t v i h =
    let b = boxes_went lib root left inner a e es w t v h in
    subst AreMade b.all_is (made_join b.box b.rest (box_is_made lib root left inner a e w b.box b.between i b.box_is)
    (boxes_are_made lib root left inner a es b.between b.rest v i b.rest_is))

inner_made : (lib : ℕ → Option Answer) (root : List ℕ) (left : ℕ) → InnerMade (inner_of lib root left)
inner_made lib root zero a p w t v h = subst AreMade (gives_same Done t w v h) tt
inner_made lib root (suc n) a p w t v h =
    boxes_are_made lib root n (inner_of lib root n) a (elements_of p) w t v (inner_made lib root n) (sym (page_is lib root n a p w) ∙ h)

pub patch_made : (lib : ℕ → Option Answer) (name : List ℕ) (p : Page) (w v : Stock) (t : Tree) → grown lib name p w ≡ gives t v → AreMade t.boxes
patch_made lib name p w v t h =
    let g = patch_went lib name p w t v h in
    subst (λ (x : Tree). AreMade x.boxes) g.tree_is
    (boxes_are_made lib (without_ending name) 255 (inner_of lib (without_ending name) 255) (around_root g.own) (elements_of p) g.named g.boxes v
    (inner_made lib (without_ending name) 255) (sym (page_is lib (without_ending name) 255 (around_root g.own) p g.named) ∙ g.boxes_is))
