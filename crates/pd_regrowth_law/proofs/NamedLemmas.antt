-- Boxes ask for the files of the abstractions that their texts name.
use Rattle.std.specs.Prelude.{◌&&◌, ◌||◌}
use Rattle.std.proofs.Common.{◌≡◌, ℕ, zero, suc, ◌==◌, Bool, true, false, List, [], ◌∷◌, Option, None, Ok, drop, refl, sym, ap, ◌∙◌, subst, true≢false}
use Rattle.std.proofs.lemmas.Bool.{eqb-true}
use Rattle.pd_atom.specs.declared.Atom.{Atom}
use Rattle.pd_atom.specs.declared.Atom.TheVariants as atom
use Rattle.pd_atom.specs.Names.{Names, Extends}
use Rattle.pd_object.specs.declared.kinds.Named.{Named}
use Rattle.pd_object.specs.declared.kinds.Named.TheVariants as named
use Rattle.pd_naming.specs.Naming.{arguments_of, named_by}
use Rattle.pd_canvas.specs.Pages.{Shape, Obj, Msg, Comment, FloatBox, SymbolBox, Sub, Array, Other, Page, Entry, elements_of}
use Rattle.pd_library.specs.declared.answers.Answer.{Answer}
use Rattle.pd_tree.specs.Trees.{Trees, Done, Leaf, Holder, Tree, join}
use Rattle.pd_growth.specs.Steps.{Stock, gives, numbered}
use Rattle.pd_growth.specs.Making.{Around, Making, Plain, Subpatch, File, object_made, made}
use Rattle.pd_growth.specs.Growth.{Inner, cell_of, canvas_grown, receiver_bytes, receiver_brought, around_instance, box_made, box_grown, boxes_grown, page_grown, without_ending, around_root, grown}
use Rattle.pd_regrowth_law.specs.Regrowth.{inner_of}
use Rattle.pd_regrowth_law.specs.Suits.{AreOf, TextsOf, IsEntryOf, AreEntriesOf, IsLibraryOf, IsAroundOf}
use Rattle.pd_regrowth_law.specs.Asking.{begins_with, is_abstraction, names_file, AskAsNamed}
use Rattle.pd_regrowth_law.proofs.StepLemmas.{no_boxes, page_is, gives_same, ok_same, chain, box_went, boxes_went, extends_same, extends_on, counted_takes, numbered_takes, brought_takes}
use Rattle.pd_regrowth_law.proofs.TakeLemmas.{text_takes, receiver_takes, canvas_went, InnerTakes, making_takes, box_takes, boxes_take, inner_takes, patch_went}
use Rattle.pd_regrowth_law.proofs.MakeLemmas.{made_by}
use Rattle.pd_regrowth_law.proofs.ExpandLemmas.{below_more, are_of_more}
use Rattle.pd_regrowth_law.proofs.NamingLemmas.{named_again, NamesBy, names_by}
use Rattle.pd_regrowth_law.proofs.AskLemmas.{needs_file, asks_making, needs_abstraction}
use Rattle.pd_regrowth_law.proofs.AgainLemmas.{texts_more, entries_more, entries_of, library_more, around_more, around_of, IsFileOf, made_of, own_text_of}

-- ---- what a box makes

-- a text begins with no other name
begins_only : (name s : ℕ) (text : List Atom) → begins_with s text ≡ true → begins_with name text ≡ (s == name)
begins_only name s [] h = absurd (true≢false (sym h))
begins_only name s (atom.Symbol t ∷ text) h = ap (λ k. k == name) (eqb-true t s h)
begins_only name s (atom.Number z ∷ text) h = absurd (true≢false (sym h))
begins_only name s (atom.Dollar n ∷ text) h = absurd (true≢false (sym h))
begins_only name s (atom.DollarSymbol t ∷ text) h = absurd (true≢false (sym h))
begins_only name s (atom.Comma ∷ text) h = absurd (true≢false (sym h))
begins_only name s (atom.Semi ∷ text) h = absurd (true≢false (sym h))

and_false : (b c : Bool) → c ≡ false → (b && c) ≡ false
and_false true c h = h
and_false false c h = refl

object_named_so : (lib : ℕ → Option Answer) (root : List ℕ) (left : ℕ) (a : Around) (names : Names) (text : List Atom) (n : Named) (m : Making) → NamesBy text n
    → object_made lib root left a names text n ≡ Ok m → (name : ℕ) → asks_making name Obj text m ≡ is_abstraction name n
object_named_so lib root left a names text (named.Kind k) m b e name =
    subst (λ x. asks_making name Obj text x ≡ false) (ok_same (object_made lib root left a names text (named.Kind k)) (Plain k None) m refl e)
    (ap (λ c. (c || false) && begins_with name text) b)
object_named_so lib root left a names text (named.Abstraction s) m b e name =
    ap (λ c. c && begins_with name text) (needs_abstraction lib root left a names s m e) ∙ begins_only name s text b
object_named_so lib root left a names text named.Nothing m b e name = and_false (needs_file m) (begins_with name text) (b name)

made_named : (lib : ℕ → Option Answer) (root : List ℕ) (left : ℕ) (a : Around) (names : Names) (form : Shape) (text : List Atom) (m : Making)
    → made lib root left a names form text ≡ Ok m → (name : ℕ) → asks_making name form text m ≡ names_file names name form text
made_named lib root left a names Obj text m e name = object_named_so lib root left a names text (named_by names text) m (names_by names text) e name
made_named lib root left a names Msg text m e name = refl
made_named lib root left a names Comment text m e name = refl
made_named lib root left a names FloatBox text m e name = refl
made_named lib root left a names SymbolBox text m e name = refl
made_named lib root left a names Sub text m e name = refl
made_named lib root left a names (Array values) text m e name = refl
made_named lib root left a names (Other s) text m e name = refl

pub file_longer : (names names2 : Names) → Extends names names2 → (name : ℕ) (form : Shape) (text : List Atom) → AreOf names text
    → names_file names2 name form text ≡ names_file names name form text
file_longer names names2 x name Obj text h = ap (is_abstraction name) (named_again names names2 x text h)
file_longer names names2 x name Msg text h = refl
file_longer names names2 x name Comment text h = refl
file_longer names names2 x name FloatBox text h = refl
file_longer names names2 x name SymbolBox text h = refl
file_longer names names2 x name Sub text h = refl
file_longer names names2 x name (Array values) text h = refl
file_longer names names2 x name (Other s) text h = refl

-- ---- what grows

named_join : (names : Names) (t r : Trees) → AskAsNamed names t → AskAsNamed names r → AskAsNamed names (join t r)
named_join names Done r h k = k
named_join names (Leaf c t) r h k = (h.0, named_join names t r h.1 k)
named_join names (Holder c s inner t) r h k = (h.0, h.1, named_join names t r h.2 k)

abbrev InnerNamed : (ℕ → Option Answer) → Names → Inner → Type 0
InnerNamed lib final inner = (a : Around) (p : Page) (w : Stock) (t : Trees) (v : Stock) → Extends v.names final → IsLibraryOf w.names lib → IsAroundOf w.names a
    → AreEntriesOf w.names (elements_of p) → inner a p w ≡ gives t v → AskAsNamed final t

making_named : (lib : ℕ → Option Answer) (final : Names) (inner : Inner) (a : Around) (e : Entry) (text : List Atom) (m : Making) (w : Stock) (t : Trees) (v : Stock)
    → InnerNamed lib final inner → Extends v.names final → IsLibraryOf w.names lib → IsAroundOf w.names a → AreOf w.names text → TextsOf w.names e.page.boxes → IsFileOf w.names m
    → ((name : ℕ) → asks_making name e.head.form text m ≡ names_file final name e.head.form text)
    → box_made inner a e text m w ≡ gives t v → AskAsNamed final t
making_named lib final inner a e text (Plain k fault) w t v g z l i o b f n h =
    subst (AskAsNamed final) (gives_same (Leaf (cell_of e.head text k fault) Done) t w v h) (n, tt)
making_named lib final inner a e text Subpatch w t v g z l i o b f n h =
    let c = chain (receiver_brought a.is_top text w) (λ _ u. canvas_grown inner a e.page e.head text u) t v h in
    let up = (receiver_takes a.is_top text w c.stock c.value c.first).names in
    let held = canvas_went inner a e.page e.head text c.stock t v c.next in
    subst (AskAsNamed final) held.tree_is (
      n,
      g a e.page c.stock held.boxes v z (library_more w.names c.stock.names up lib l) (around_more w.names c.stock.names up a i)
          (entries_of c.stock.names e.page.boxes (texts_more w.names c.stock.names up e.page.boxes b)) held.boxes_is,
      tt,
    )
making_named lib final inner a e text (File s p) w t v g z l i o b f n h =
    let args = arguments_of (drop 1 text) in
    let c = chain (numbered w) (λ own u. canvas_grown inner (around_instance a own s args) p e.head text u) t v h in
    let up = (numbered_takes w c.stock c.value c.first).names in
    let around = around_of c.stock.names a c.value s text (around_more w.names c.stock.names up a i) (below_more w.names c.stock.names up s f.0) (are_of_more w.names c.stock.names up text o) in
    let held = canvas_went inner (around_instance a c.value s args) p e.head text c.stock t v c.next in
    subst (AskAsNamed final) held.tree_is (
      n,
      g (around_instance a c.value s args) p c.stock held.boxes v z (library_more w.names c.stock.names up lib l) around
          (entries_of c.stock.names p.boxes (texts_more w.names c.stock.names up p.boxes f.1)) held.boxes_is,
      tt,
    )

box_named : (lib : ℕ → Option Answer) (final : Names) (root : List ℕ) (left : ℕ) (inner : Inner) (a : Around) (e : Entry) (w : Stock) (t : Trees) (v : Stock) → InnerTakes inner
    → InnerNamed lib final inner → Extends v.names final → IsLibraryOf w.names lib → IsAroundOf w.names a → IsEntryOf w.names e
    → box_grown lib root left inner a e w ≡ gives t v → AskAsNamed final t
box_named lib final root left inner a e w t v q g z l i o h =
    let b = box_went lib root left inner a e w t v h in
    let up_start = (counted_takes w b.start b.counted_is).names in
    let up = extends_on w.names b.start.names b.named.names up_start (text_takes a e.head b.start b.text b.named b.text_is).names in
    let l_named = library_more w.names b.named.names up lib l in
    let text = own_text_of a e.head b.start b.named b.text (around_more w.names b.start.names up_start a i) (are_of_more w.names b.start.names up_start e.head.text o.text) b.text_is in
    let m = making_takes inner a e b.text b.making b.named t v q (made_by lib root left a b.named.names e.head.form b.text b.making b.made_is) b.box_is in
    making_named lib final inner a e b.text b.making b.named t v g z l_named (around_more w.names b.named.names up a i) text (texts_more w.names b.named.names up e.page.boxes o.inner)
    (made_of lib root left a b.named.names e.head.form b.text b.making l_named text b.made_is)
    (λ name. made_named lib root left a b.named.names e.head.form b.text b.making b.made_is name
    ∙ sym (file_longer b.named.names final (extends_on b.named.names v.names final m.takes.names z) name e.head.form b.text text))
    b.box_is

boxes_named : (lib : ℕ → Option Answer) (final : Names) (root : List ℕ) (left : ℕ) (inner : Inner) (a : Around) (es : List Entry) (w : Stock) (t : Trees) (v : Stock) → InnerTakes inner
    → InnerNamed lib final inner → Extends v.names final → IsLibraryOf w.names lib → IsAroundOf w.names a → AreEntriesOf w.names es
    → boxes_grown lib root left inner a es w ≡ gives t v → AskAsNamed final t
boxes_named lib final root left inner a [] w t v q g z l i o h =
    subst (AskAsNamed final) (gives_same Done t w v (sym (no_boxes lib root left inner a w) ∙ h)) tt
boxes_named lib final root left inner a (e ∷ es) w t v q g z l i o h =
    let b = boxes_went lib root left inner a e es w t v h in
    let up = (box_takes lib root left inner a e w b.box b.between q b.box_is).names in
    let on = (boxes_take lib root left inner a es b.between b.rest v q b.rest_is).names in
    subst (AskAsNamed final) b.all_is
    (named_join final b.box b.rest (box_named lib final root left inner a e w b.box b.between q g (extends_on b.between.names v.names final on z) l i o.0 b.box_is)
    (boxes_named lib final root left inner a es b.between b.rest v q g z (library_more w.names b.between.names up lib l) (around_more w.names b.between.names up a i)
    (entries_more w.names b.between.names up es o.1) b.rest_is))

inner_named : (lib : ℕ → Option Answer) (final : Names) (root : List ℕ) (left : ℕ) → InnerNamed lib final (inner_of lib root left)
inner_named lib final root zero a p w t v z l i o h = subst (AskAsNamed final) (gives_same Done t w v h) tt
inner_named lib final root (suc n) a p w t v z l i o h =
    boxes_named lib final root n (inner_of lib root n) a (elements_of p) w t v (inner_takes lib root n) (inner_named lib final root n) z l i o (sym (page_is lib root n a p w) ∙ h)

pub one_named : (lib : ℕ → Option Answer) (root : List ℕ) (left : ℕ) (a : Around) (e : Entry) (w v : Stock) (t : Trees) → IsLibraryOf w.names lib → IsAroundOf w.names a
    → IsEntryOf w.names e → box_grown lib root left (inner_of lib root left) a e w ≡ gives t v → AskAsNamed v.names t
one_named lib root left a e w v t l i o h =
    box_named lib v.names root left (inner_of lib root left) a e w t v (inner_takes lib root left) (inner_named lib v.names root left) (extends_same v.names) l i o h

pub several_named : (lib : ℕ → Option Answer) (root : List ℕ) (left : ℕ) (a : Around) (es : List Entry) (w v : Stock) (t : Trees) → IsLibraryOf w.names lib → IsAroundOf w.names a
    → AreEntriesOf w.names es → boxes_grown lib root left (inner_of lib root left) a es w ≡ gives t v → AskAsNamed v.names t
several_named lib root left a es w v t l i o h =
    boxes_named lib v.names root left (inner_of lib root left) a es w t v (inner_takes lib root left) (inner_named lib v.names root left) (extends_same v.names) l i o h

pub page_named : (lib : ℕ → Option Answer) (root : List ℕ) (left : ℕ) (a : Around) (p : Page) (w v : Stock) (t : Trees) → IsLibraryOf w.names lib → IsAroundOf w.names a
    → TextsOf w.names p.boxes → page_grown lib root left a p w ≡ gives t v → AskAsNamed v.names t
page_named lib root left a p w v t l i o h = several_named lib root left a (elements_of p) w v t l i (entries_of w.names p.boxes o) (sym (page_is lib root left a p w) ∙ h)

pub patch_named : (lib : ℕ → Option Answer) (file : List ℕ) (p : Page) (w v : Stock) (t : Tree) → IsLibraryOf w.names lib → TextsOf w.names p.boxes
    → grown lib file p w ≡ gives t v → AskAsNamed v.names t.boxes
patch_named lib file p w v t l o h =
    let g = patch_went lib file p w t v h in
    let up = extends_on w.names g.start.names g.named.names (numbered_takes w g.start g.own g.own_is).names (brought_takes (receiver_bytes file) g.start g.named tt g.name_is).names in
    subst (λ (y : Tree). AskAsNamed v.names y.boxes) g.tree_is
    (page_named lib (without_ending file) 255 (around_root g.own) p g.named v g.boxes (library_more w.names g.named.names up lib l) (record { arguments = tt; inside = tt })
    (texts_more w.names g.named.names up p.boxes o) g.boxes_is)
