-- A document whose outermost boxes that ask for a name are grown anew regrows under the new library.
use Rattle.std.proofs.Common.{◌≡◌, ℕ, zero, suc, pred, ◌+◌, Bool, true, false, ◌||◌, List, [], ◌∷◌, ◌++◌, Option, None, drop, refl, sym, ap, ◌∙◌, subst, arith, append-nil, true≢false}
use Rattle.std.proofs.lemmas.Bool.{or_from, or_parts}
use Rattle.pd_atom.specs.declared.Atom.{Atom}
use Rattle.pd_atom.specs.Names.{Names, Extends}
use Rattle.pd_object.specs.declared.kinds.Kind.TheVariants as kind
use Rattle.pd_naming.specs.Naming.{arguments_of}
use Rattle.pd_canvas.specs.Pages.{Shape, Obj, Sub, Head, Page, Entry, empty_page, elements_of, Msg, Comment, FloatBox, SymbolBox, Array, Other}
use Rattle.pd_library.specs.declared.answers.Answer.{Answer}
use Rattle.pd_tree.specs.declared.rows.Sheet.{Sheet}
use Rattle.pd_tree.specs.Trees.{Cell, Trees, Done, Leaf, Holder, Tree, join, weight, sheet_of, own_zeros, zeros_in, zeros_of}
use Rattle.pd_growth.specs.Steps.{Stock, Step, gives, goes_on, ◌>>=◌, numbered, brought}
use Rattle.pd_growth.specs.Making.{Around, Making, Plain, Subpatch, File, made}
use Rattle.pd_growth.specs.Growth.{Inner, cell_of, canvas_grown, receiver_brought, around_instance, box_made, own_text, box_grown, boxes_grown, page_grown, receiver_bytes, without_ending, around_root, grown}
use Rattle.pd_regrowth_law.specs.Regrowth.{inner_of, stock, GivesAgain}
use Rattle.pd_regrowth_law.specs.Suits.{TextsOf, IsEntryOf, AreEntriesOf, IsLibraryOf, IsAroundOf}
use Rattle.pd_regrowth_law.specs.Asking.{cell_asks, asks_for, AnswersAlikeBut}
use Rattle.pd_regrowth_law.specs.Renewal.{IsRebuilt, IsHolderRebuilt, AreRebuilt, GrowsAnew}
use Rattle.pd_regrowth_law.proofs.StepLemmas.{no_boxes, page_is, gives_same, ok_same, chain, box_went, boxes_went, extends_on, counted_takes, numbered_takes, brought_takes}
use Rattle.pd_regrowth_law.proofs.MakeLemmas.{IsNoSub, MakesBy, made_by}
use Rattle.pd_regrowth_law.proofs.TakeLemmas.{text_takes, receiver_takes, CanvasWent, canvas_went, InnerTakes, making_takes, box_takes, boxes_take, inner_takes, page_takes, patch_went}
use Rattle.pd_regrowth_law.proofs.ExpandLemmas.{are_of_more}
use Rattle.pd_regrowth_law.proofs.AgainLemmas.{entries_more, entries_of, texts_more, library_more, around_more, own_text_of, counted_by, text_step, receiver_again, brought_again, one_again}
use Rattle.pd_regrowth_law.proofs.AlikeLemmas.{again_through}
use Rattle.pd_regrowth_law.proofs.ChangeLemmas.{alike_but}
use Rattle.pd_regrowth_law.proofs.SameLemmas.{one_same}
use Rattle.pd_regrowth_law.proofs.PartLemmas.{nothing_regrows, first_again}

-- ---- a box that stays, and one that is grown anew

stays_again : (lib lib2 : ℕ → Option Answer) (name : ℕ) (root : List ℕ) (left : ℕ) (a : Around) (e : Entry) (w v : Stock) (t : Trees) (names : Names)
    → AnswersAlikeBut name lib lib2 → asks_for name t ≡ false → Extends v.names names → IsLibraryOf w.names lib → IsAroundOf w.names a → IsEntryOf w.names e
    → box_grown lib root left (inner_of lib root left) a e w ≡ gives t v
    → GivesAgain (box_grown lib2 root left (inner_of lib2 root left) a e) t names (zeros_in t) (weight t)
stays_again lib lib2 name root left a e w v t names like none z l i o h names2 more room x =
    one_same lib lib2 root left a e (stock names2 (zeros_in t ++ more) (weight t + room)) (stock names2 more room) t (alike_but name lib lib2 t like none)
    (one_again lib lib root left a e w v t (λ s y at. at) l i o h names2 more room (extends_on v.names names names2 z x))

-- a box that is no subpatch grows whatever page stands beside it
made_bare : (inner : Inner) (a : Around) (e d : Entry) (text : List Atom) (m : Making) (w : Stock) (t : Trees) (v : Stock) → d.head ≡ e.head → IsNoSub e.head.form
    → MakesBy e.head.form m → box_made inner a e text m w ≡ gives t v → box_made inner a d text m w ≡ gives t v
made_bare inner a e d text (Plain k fault) w t v same other f h = ap (λ y. gives (Leaf (cell_of y text k fault) Done) w) same ∙ h
made_bare inner a e d text Subpatch w t v same other f h = absurd (other.other f)
made_bare inner a e d text (File s p) w t v same other f h =
    ap (λ y. numbered w >>= (λ z u. canvas_grown inner (around_instance a z s (arguments_of (drop 1 text))) p y text u)) same ∙ h

anew_again : (lib : ℕ → Option Answer) (root : List ℕ) (left : ℕ) (a : Around) (names : Names) (e : Entry) (t : Trees) → IsNoSub e.head.form
    → GrowsAnew lib root a names left e.head t → GivesAgain (box_grown lib root left (inner_of lib root left) a e) t names (zeros_in t) (weight t)
anew_again lib root left a names e t other h names2 more room x =
    let bare : Entry = record { head = e.head; page = empty_page } in
    let w = stock names2 (zeros_in t ++ more) (weight t + room) in
    let v = stock names2 more room in
    let b = box_went lib root left (inner_of lib root left) a bare w t v (h names2 more room x) in
    again_through lib root left (inner_of lib root left) a bare e w t t v refl b
    (made_bare (inner_of lib root left) a bare e b.text b.making b.named t v refl other (made_by lib root left a b.named.names e.head.form b.text b.making b.made_is) b.box_is)

either_again : (lib lib2 : ℕ → Option Answer) (name : ℕ) (root : List ℕ) (left : ℕ) (a : Around) (e : Entry) (w v : Stock) (t u : Trees) (names : Names) (asks : Bool)
    → AnswersAlikeBut name lib lib2 → asks_for name t ≡ asks → IsNoSub e.head.form → Extends v.names names → IsLibraryOf w.names lib → IsAroundOf w.names a → IsEntryOf w.names e
    → box_grown lib root left (inner_of lib root left) a e w ≡ gives t v → IsRebuilt asks (GrowsAnew lib2 root a names left e.head) t u
    → GivesAgain (box_grown lib2 root left (inner_of lib2 root left) a e) u names (zeros_in u) (weight u)
either_again lib lib2 name root left a e w v t u names true like is other z l i o h k = anew_again lib2 root left a names e u other k
either_again lib lib2 name root left a e w v t u names false like is other z l i o h k =
    let f : Stock → Step Trees = box_grown lib2 root left (inner_of lib2 root left) a e in
    subst (λ y. GivesAgain f y names (zeros_in y) (weight y)) (sym k) (stays_again lib lib2 name root left a e w v t names like is z l i o h)

-- ---- subpatches

form_in : Trees → Shape
form_in Done = Obj
form_in (Leaf c rest) = c.head.form
form_in (Holder c s inner rest) = c.head.form

with_inner : Trees → Trees → Trees
with_inner boxes Done = Done
with_inner boxes (Leaf c rest) = Leaf c rest
with_inner boxes (Holder c s inner rest) = Holder c s boxes rest

-- what holds a canvas, with other boxes in it
held_form : (inner : Inner) (a : Around) (p : Page) (h : Head) (text : List Atom) (w v : Stock) (c : Cell) (s : Sheet) (b1 : Trees)
    → CanvasWent inner a p h text w (Holder c s b1 Done) v → h.form ≡ c.head.form
unfolding form_in
held_form inner a p h text w v c s b1 g = ap form_in g.tree_is

held_tree : (inner : Inner) (a : Around) (p : Page) (h : Head) (text : List Atom) (w v : Stock) (c : Cell) (s : Sheet) (b1 b2 : Trees)
    → CanvasWent inner a p h text w (Holder c s b1 Done) v
    → Holder (cell_of h text kind.Canvas None) (sheet_of a.zero a.arguments p) b2 Done ≡ Holder c s b2 Done
unfolding with_inner
held_tree inner a p h text w v c s b1 b2 g = ap (with_inner b2) g.tree_is

-- a subpatch with other boxes grows again where these do
subpatch_again : (lib lib2 : ℕ → Option Answer) (root : List ℕ) (left : ℕ) (inner inner2 : Inner) (a : Around) (e : Entry) (w v : Stock) (c : Cell) (s : Sheet) (b1 b2 : Trees)
    (names : Names) → InnerTakes inner → e.head.form ≡ Sub → Extends v.names names → IsAroundOf w.names a → IsEntryOf w.names e
    → box_grown lib root left inner a e w ≡ gives (Holder c s b1 Done) v → GivesAgain (inner2 a e.page) b2 names (zeros_in b2) (weight b2)
    → GivesAgain (box_grown lib2 root left inner2 a e) (Holder c s b2 Done) names (zeros_in (Holder c s b2 Done)) (weight (Holder c s b2 Done))
subpatch_again lib lib2 root left inner inner2 a e w v c s b1 b2 names q f z i o h g names2 more room x =
    let t = Holder c s b1 Done in
    let u = Holder c s b2 Done in
    let b = box_went lib root left inner a e w t v h in
    let up_start = (counted_takes w b.start b.counted_is).names in
    let i_start = around_more w.names b.start.names up_start a i in
    let text_old = are_of_more w.names b.start.names up_start e.head.text o.text in
    let text = own_text_of a e.head b.start b.named b.text i_start text_old b.text_is in
    let m = making_takes inner a e b.text b.making b.named t v q (made_by lib root left a b.named.names e.head.form b.text b.making b.made_is) b.box_is in
    let making_is : Subpatch ≡ b.making = ok_same (made lib root left a b.named.names e.head.form b.text) Subpatch b.making (ap (λ y. made lib root left a b.named.names y b.text) f) b.made_is in
    let box_is : box_made inner a e b.text Subpatch b.named ≡ gives t v = ap (λ y. box_made inner a e b.text y b.named) making_is ∙ b.box_is in
    let r = chain (receiver_brought a.is_top b.text b.named) (λ _ y. canvas_grown inner a e.page e.head b.text y) t v box_is in
    let held = canvas_went inner a e.page e.head b.text r.stock t v r.next in
    let on = extends_on v.names names names2 z x in
    let last = extends_on b.named.names v.names names2 m.takes.names on in
    let after_receiver = extends_on r.stock.names v.names names2 (q a e.page r.stock held.boxes v held.boxes_is).names on in
    let zs = zeros_in b2 ++ more in
    let n = weight b2 + room in
    let form : c.head.form ≡ Sub = sym (held_form inner a e.page e.head b.text r.stock v c s b1 held) ∙ f in
    let numbers : zeros_in u ++ more ≡ zs = ap (λ (y : Shape). (own_zeros y s ++ (zeros_in b2 ++ [])) ++ more) form ∙ ap (λ y. y ++ more) (append-nil (zeros_in b2)) in
    let count : weight u + room ≡ suc n = omega arith in
    let after : List Atom → Stock → Step Trees = λ y p. goes_on (made lib2 root left a p.names e.head.form y) p (λ k d. box_made inner2 a e y k d) in
    ap (λ y. box_grown lib2 root left inner2 a e (stock names2 y (weight u + room))) numbers
    ∙ ap (λ y. y >>= (λ _ p. own_text a e.head p >>= after)) (counted_by names2 zs (weight u + room) n count)
    ∙ ap (λ y. y >>= after) (text_step a e.head b.start b.named b.text names2 zs n i_start text_old last b.text_is)
    ∙ ap (λ y. goes_on (made lib2 root left a names2 y b.text) (stock names2 zs n) (λ k d. box_made inner2 a e b.text k d)) f
    ∙ ap (λ y. y >>= (λ _ p. canvas_grown inner2 a e.page e.head b.text p))
    (receiver_again a.is_top b.text b.named r.stock r.value names2 zs n text (receiver_takes a.is_top b.text b.named r.stock r.value r.first).names after_receiver r.first)
    ∙ ap (λ y. y >>= (λ boxes p. gives (Holder (cell_of e.head b.text kind.Canvas None) (sheet_of a.zero a.arguments e.page) boxes Done) p)) (g names2 more room x)
    ∙ ap (λ y. gives y (stock names2 more room)) (held_tree inner a e.page e.head b.text r.stock v c s b1 b2 held)

is_obj : Shape → Bool
is_obj Obj = true
is_obj form = false

-- ---- boxes, and canvases of the document

abbrev InnerRebuilt : (ℕ → Option Answer) → (ℕ → Option Answer) → ℕ → List ℕ → Around → Names → ℕ → Type 0
InnerRebuilt lib lib2 name root a names left = (p : Page) (w : Stock) (t : Trees) (v : Stock) (u : Trees) → Extends v.names names → IsLibraryOf w.names lib → IsAroundOf w.names a
    → AreEntriesOf w.names (elements_of p) → inner_of lib root left a p w ≡ gives t v → AreRebuilt (GrowsAnew lib2 root a names) name (pred left) t u
    → GivesAgain (inner_of lib2 root left a p) u names (zeros_in u) (weight u)

-- the first box of what is rebuilt, and the others
record FirstRebuilt (lib2 : ℕ → Option Answer) (name : ℕ) (root : List ℕ) (a : Around) (names : Names) (left : ℕ) (e : Entry) (rest u : Trees) : Type 0 where
  first : Trees
  others : Trees
  tree : join first others ≡ u
  grows : GivesAgain (box_grown lib2 root left (inner_of lib2 root left) a e) first names (zeros_in first) (weight first)
  after : AreRebuilt (GrowsAnew lib2 root a names) name left rest others

or_none : (b : Bool) → (b || false) ≡ b
or_none true = refl
or_none false = refl

leaf_first : (lib lib2 : ℕ → Option Answer) (name : ℕ) (root : List ℕ) (left : ℕ) (a : Around) (e : Entry) (w v : Stock) (c : Cell) (rest u : Trees) (names : Names)
    → AnswersAlikeBut name lib lib2 → e.head ≡ c.head → IsNoSub e.head.form → Extends v.names names → IsLibraryOf w.names lib → IsAroundOf w.names a → IsEntryOf w.names e
    → box_grown lib root left (inner_of lib root left) a e w ≡ gives (Leaf c Done) v → AreRebuilt (GrowsAnew lib2 root a names) name left (Leaf c rest) u
    → FirstRebuilt lib2 name root a names left e rest u
leaf_first lib lib2 name root left a e w v c rest u names like same other z l i o h k = record {
  first = k.0;
  others = k.1;
  tree = sym k.2;
  grows = either_again lib lib2 name root left a e w v (Leaf c Done) k.0 names (cell_asks name c) like (or_none (cell_asks name c)) other z l i o h
      (subst (λ y. IsRebuilt (cell_asks name c) (GrowsAnew lib2 root a names left y) (Leaf c Done) k.0) (sym same) k.3);
  after = k.4;
}

object_first : (lib lib2 : ℕ → Option Answer) (name : ℕ) (root : List ℕ) (left : ℕ) (a : Around) (e : Entry) (w v : Stock) (c : Cell) (s : Sheet) (b rest u : Trees) (names : Names)
    → AnswersAlikeBut name lib lib2 → e.head ≡ c.head → e.head.form ≡ Obj → IsNoSub e.head.form → Extends v.names names → IsLibraryOf w.names lib → IsAroundOf w.names a → IsEntryOf w.names e
    → box_grown lib root left (inner_of lib root left) a e w ≡ gives (Holder c s b Done) v → AreRebuilt (GrowsAnew lib2 root a names) name left (Holder c s b rest) u
    → FirstRebuilt lib2 name root a names left e rest u
object_first lib lib2 name root left a e w v c s b rest u names like same f other z l i o h k =
    let asks = cell_asks name c || asks_for name b in
    let IsNew = GrowsAnew lib2 root a names in
    let r : IsHolderRebuilt Obj c s asks (AreRebuilt IsNew name (pred left) b) (IsNew left c.head) (AreRebuilt IsNew name left rest) b u =
    subst (λ y. IsHolderRebuilt y c s asks (AreRebuilt IsNew name (pred left) b) (IsNew left c.head) (AreRebuilt IsNew name left rest) b u) (sym (ap (λ (y : Head). y.form) same) ∙ f) k in
    record {
      first = r.0;
      others = r.1;
      tree = sym r.2;
      grows = either_again lib lib2 name root left a e w v (Holder c s b Done) r.0 names asks like (ap (λ y. cell_asks name c || y) (or_none (asks_for name b))) other z l i o h
          (subst (λ y. IsRebuilt asks (GrowsAnew lib2 root a names left y) (Holder c s b Done) r.0) (sym same) r.3);
      after = r.4;
    }

sub_first : (lib lib2 : ℕ → Option Answer) (name : ℕ) (root : List ℕ) (left : ℕ) (a : Around) (e : Entry) (w between v : Stock) (c : Cell) (s : Sheet) (b rest u : Trees) (names : Names)
    → InnerRebuilt lib lib2 name root a names left → e.head ≡ c.head → e.head.form ≡ Sub → Extends v.names names → IsLibraryOf between.names lib → IsAroundOf between.names a
    → AreEntriesOf between.names (elements_of e.page) → inner_of lib root left a e.page between ≡ gives b v → IsAroundOf w.names a → IsEntryOf w.names e
    → box_grown lib root left (inner_of lib root left) a e w ≡ gives (Holder c s b Done) v → AreRebuilt (GrowsAnew lib2 root a names) name left (Holder c s b rest) u
    → FirstRebuilt lib2 name root a names left e rest u
sub_first lib lib2 name root left a e w between v c s b rest u names g same f z l i es boxes_is i_old o h k =
    let asks = cell_asks name c || asks_for name b in
    let IsNew = GrowsAnew lib2 root a names in
    let r : IsHolderRebuilt Sub c s asks (AreRebuilt IsNew name (pred left) b) (IsNew left c.head) (AreRebuilt IsNew name left rest) b u =
    subst (λ y. IsHolderRebuilt y c s asks (AreRebuilt IsNew name (pred left) b) (IsNew left c.head) (AreRebuilt IsNew name left rest) b u) (sym (ap (λ (y : Head). y.form) same) ∙ f) k in
    record {
      first = Holder c s r.0 Done;
      others = r.1;
      tree = sym r.2;
      grows = subpatch_again lib lib2 root left (inner_of lib root left) (inner_of lib2 root left) a e w v c s b r.0 names (inner_takes lib root left) f z i_old o h
          (g e.page between b v r.0 z l i es boxes_is r.3);
      after = r.4;
    }

object_no_sub : (form : Shape) → form ≡ Obj → IsNoSub form
unfolding is_obj
object_no_sub form f = record { other = λ e. true≢false (sym (ap is_obj f) ∙ ap is_obj e) }

making_first : (lib lib2 : ℕ → Option Answer) (name : ℕ) (root : List ℕ) (left : ℕ) (a : Around) (e : Entry) (text : List Atom) (m : Making) (w named v : Stock) (t rest u : Trees) (names : Names)
    → AnswersAlikeBut name lib lib2 → InnerRebuilt lib lib2 name root a names left → MakesBy e.head.form m → Extends v.names names → Extends w.names named.names
    → IsLibraryOf w.names lib → IsAroundOf w.names a → IsEntryOf w.names e → box_made (inner_of lib root left) a e text m named ≡ gives t v
    → box_grown lib root left (inner_of lib root left) a e w ≡ gives t v → AreRebuilt (GrowsAnew lib2 root a names) name left (join t rest) u
    → FirstRebuilt lib2 name root a names left e rest u
making_first lib lib2 name root left a e text (Plain k fault) w named v t rest u names like g f z up l i o made_is h r =
    let is = gives_same (Leaf (cell_of e.head text k fault) Done) t named v made_is in
    leaf_first lib lib2 name root left a e w v (cell_of e.head text k fault) rest u names like refl f z l i o
    (h ∙ ap (λ y. gives y v) (sym is)) (subst (λ y. AreRebuilt (GrowsAnew lib2 root a names) name left (join y rest) u) (sym is) r)
making_first lib lib2 name root left a e text Subpatch w named v t rest u names like g f z up l i o made_is h r =
    let c = chain (receiver_brought a.is_top text named) (λ _ y. canvas_grown (inner_of lib root left) a e.page e.head text y) t v made_is in
    let up_all = extends_on w.names named.names c.stock.names up (receiver_takes a.is_top text named c.stock c.value c.first).names in
    let held = canvas_went (inner_of lib root left) a e.page e.head text c.stock t v c.next in
    sub_first lib lib2 name root left a e w c.stock v (cell_of e.head text kind.Canvas None) (sheet_of a.zero a.arguments e.page) held.boxes rest u names g refl f z
    (library_more w.names c.stock.names up_all lib l) (around_more w.names c.stock.names up_all a i)
    (entries_of c.stock.names e.page.boxes (texts_more w.names c.stock.names up_all e.page.boxes o.inner)) held.boxes_is i o
    (h ∙ ap (λ y. gives y v) (sym held.tree_is)) (subst (λ y. AreRebuilt (GrowsAnew lib2 root a names) name left (join y rest) u) (sym held.tree_is) r)
making_first lib lib2 name root left a e text (File s p) w named v t rest u names like g f z up l i o made_is h r =
    let args = arguments_of (drop 1 text) in
    let c = chain (numbered named) (λ y d. canvas_grown (inner_of lib root left) (around_instance a y s args) p e.head text d) t v made_is in
    let held = canvas_went (inner_of lib root left) (around_instance a c.value s args) p e.head text c.stock t v c.next in
    object_first lib lib2 name root left a e w v (cell_of e.head text kind.Canvas None) (sheet_of c.value args p) held.boxes rest u names like refl f (object_no_sub e.head.form f) z l i o
    (h ∙ ap (λ y. gives y v) (sym held.tree_is)) (subst (λ y. AreRebuilt (GrowsAnew lib2 root a names) name left (join y rest) u) (sym held.tree_is) r)

first_rest : (lib2 : ℕ → Option Answer) (name : ℕ) (root : List ℕ) (a : Around) (names : Names) (left : ℕ) (e : Entry) (es : List Entry) (rest u : Trees)
    → (d : FirstRebuilt lib2 name root a names left e rest u)
    → GivesAgain (boxes_grown lib2 root left (inner_of lib2 root left) a es) d.others names (zeros_in d.others) (weight d.others)
    → GivesAgain (boxes_grown lib2 root left (inner_of lib2 root left) a (e ∷ es)) u names (zeros_in u) (weight u)
first_rest lib2 name root a names left e es rest u d h =
    let f : Stock → Step Trees = boxes_grown lib2 root left (inner_of lib2 root left) a (e ∷ es) in
    subst (λ y. GivesAgain f y names (zeros_in y) (weight y)) d.tree (first_again (record { lib = lib2; root = root; around = a; names = names }) left e es d.first d.others d.grows h)

boxes_rebuilt : (lib lib2 : ℕ → Option Answer) (name : ℕ) (root : List ℕ) (left : ℕ) (a : Around) (names : Names) (es : List Entry) (w : Stock) (t : Trees) (v : Stock) (u : Trees)
    → AnswersAlikeBut name lib lib2 → InnerRebuilt lib lib2 name root a names left → Extends v.names names → IsLibraryOf w.names lib → IsAroundOf w.names a → AreEntriesOf w.names es
    → boxes_grown lib root left (inner_of lib root left) a es w ≡ gives t v → AreRebuilt (GrowsAnew lib2 root a names) name left t u
    → GivesAgain (boxes_grown lib2 root left (inner_of lib2 root left) a es) u names (zeros_in u) (weight u)
boxes_rebuilt lib lib2 name root left a names [] w t v u like g z l i o h r =
    let none : u ≡ Done = subst (λ y. AreRebuilt (GrowsAnew lib2 root a names) name left y u) (sym (gives_same Done t w v (sym (no_boxes lib root left (inner_of lib root left) a w) ∙ h))) r in
    let f : Stock → Step Trees = boxes_grown lib2 root left (inner_of lib2 root left) a [] in
    subst (λ y. GivesAgain f y names (zeros_in y) (weight y)) (sym none) (nothing_regrows (record { lib = lib2; root = root; around = a; names = names }) left)
boxes_rebuilt lib lib2 name root left a names (e ∷ es) w t v u like g z l i o h r =
    let inner = inner_of lib root left in
    let q = inner_takes lib root left in
    let b = boxes_went lib root left inner a e es w t v h in
    let up = (box_takes lib root left inner a e w b.box b.between q b.box_is).names in
    let on = (boxes_take lib root left inner a es b.between b.rest v q b.rest_is).names in
    let d = box_went lib root left inner a e w b.box b.between b.box_is in
    let up_named = extends_on w.names d.start.names d.named.names (counted_takes w d.start d.counted_is).names (text_takes a e.head d.start d.text d.named d.text_is).names in
    let one = making_first lib lib2 name root left a e d.text d.making w d.named b.between b.box b.rest u names like g
    (made_by lib root left a d.named.names e.head.form d.text d.making d.made_is) (extends_on b.between.names v.names names on z) up_named l i o.0 d.box_is b.box_is
    (subst (λ y. AreRebuilt (GrowsAnew lib2 root a names) name left y u) (sym b.all_is) r) in
    let rest = boxes_rebuilt lib lib2 name root left a names es b.between b.rest v one.others like g z (library_more w.names b.between.names up lib l) (around_more w.names b.between.names up a i)
    (entries_more w.names b.between.names up es o.1) b.rest_is one.after in
    first_rest lib2 name root a names left e es b.rest u one rest

nothing_again : (names : Names) → GivesAgain (λ w. gives Done w) Done names [] 0
nothing_again names names2 more room x = let same : 0 + room ≡ room = omega arith in ap (λ n. gives Done (stock names2 more n)) same

inner_rebuilt : (lib lib2 : ℕ → Option Answer) (name : ℕ) (root : List ℕ) (a : Around) (names : Names) → AnswersAlikeBut name lib lib2 → (left : ℕ)
    → InnerRebuilt lib lib2 name root a names left
inner_rebuilt lib lib2 name root a names like zero p w t v u z l i o h r names2 more room x =
    let none : u ≡ Done = subst (λ y. AreRebuilt (GrowsAnew lib2 root a names) name (pred 0) y u) (sym (gives_same Done t w v h)) r in
    let again : GivesAgain (λ (d : Stock). gives Done d) u names (zeros_in u) (weight u) =
    subst (λ y. GivesAgain (λ (d : Stock). gives Done d) y names (zeros_in y) (weight y)) (sym none) (nothing_again names) in
    again names2 more room x
inner_rebuilt lib lib2 name root a names like (suc n) p w t v u z l i o h r names2 more room x =
    page_is lib2 root n a p (stock names2 (zeros_in u ++ more) (weight u + room))
    ∙ boxes_rebuilt lib lib2 name root n a names (elements_of p) w t v u like (inner_rebuilt lib lib2 name root a names like n) z l i o (sym (page_is lib root n a p w) ∙ h) r
    names2 more room x

pub page_rebuilt : (lib lib2 : ℕ → Option Answer) (name : ℕ) (root : List ℕ) (left : ℕ) (a : Around) (p : Page) (w v : Stock) (t u : Trees) (names : Names) → AnswersAlikeBut name lib lib2
    → Extends v.names names → IsLibraryOf w.names lib → IsAroundOf w.names a → TextsOf w.names p.boxes → page_grown lib root left a p w ≡ gives t v
    → AreRebuilt (GrowsAnew lib2 root a names) name left t u → GivesAgain (page_grown lib2 root left a p) u names (zeros_in u) (weight u)
page_rebuilt lib lib2 name root left a p w v t u names like z l i o h r =
    inner_rebuilt lib lib2 name root a names like (suc left) p w t v u z l i (entries_of w.names p.boxes o) h r

pub patch_rebuilt : (lib lib2 : ℕ → Option Answer) (name : ℕ) (file : List ℕ) (p : Page) (w v : Stock) (t u : Tree) (names : Names) → AnswersAlikeBut name lib lib2
    → Extends v.names names → IsLibraryOf w.names lib → TextsOf w.names p.boxes → grown lib file p w ≡ gives t v → u.sheet ≡ t.sheet
    → AreRebuilt (GrowsAnew lib2 (without_ending file) (around_root t.sheet.zero) names) name 255 t.boxes u.boxes
    → GivesAgain (grown lib2 file p) u names (zeros_of u) (weight u.boxes)
patch_rebuilt lib lib2 name file p w v t u names like z l o h same r names2 more room x =
    let root = without_ending file in
    let g = patch_went lib file p w t v h in
    let up = extends_on w.names g.start.names g.named.names (numbered_takes w g.start g.own g.own_is).names (brought_takes (receiver_bytes file) g.start g.named tt g.name_is).names in
    let on = extends_on v.names names names2 z x in
    let last = extends_on g.named.names v.names names2 (page_takes lib root 255 (around_root g.own) p g.named v g.boxes g.boxes_is).names on in
    let own : g.own ≡ t.sheet.zero = ap (λ (y : Tree). y.sheet.zero) g.tree_is in
    let sheet : sheet_of g.own [] p ≡ u.sheet = ap (λ (y : Tree). y.sheet) g.tree_is ∙ sym same in
    let inside : AreRebuilt (GrowsAnew lib2 root (around_root g.own) names) name 255 g.boxes u.boxes =
    subst (λ y. AreRebuilt (GrowsAnew lib2 root (around_root g.own) names) name 255 y u.boxes) (sym (ap (λ (y : Tree). y.boxes) g.tree_is))
    (subst (λ y. AreRebuilt (GrowsAnew lib2 root (around_root y) names) name 255 t.boxes u.boxes) (sym own) r) in
    let tree : Trees → Tree = λ boxes. record { sheet = sheet_of g.own [] p; boxes = boxes } in
    let zs = zeros_in u.boxes ++ more in
    let n = weight u.boxes + room in
    let after : ℕ → Stock → Step Tree = λ y s. brought (receiver_bytes file) s >>= (λ _ d.
    page_grown lib2 root 255 (around_root y) p d >>= (λ boxes k. gives (record { sheet = sheet_of y [] p; boxes = boxes }) k)) in
    ap (λ y. numbered (stock names2 (y ∷ zs) n) >>= after) (sym (ap (λ (y : Sheet). y.zero) sheet))
    ∙ ap (λ y. y >>= (λ _ d. page_grown lib2 root 255 (around_root g.own) p d >>= (λ boxes s. gives (tree boxes) s)))
    (brought_again (receiver_bytes file) g.start g.named tt names2 zs n last g.name_is)
    ∙ ap (λ y. y >>= (λ boxes s. gives (tree boxes) s))
    (page_rebuilt lib lib2 name root 255 (around_root g.own) p g.named v g.boxes u.boxes names like z (library_more w.names g.named.names up lib l) (record { arguments = tt; inside = tt })
    (texts_more w.names g.named.names up p.boxes o) g.boxes_is inside names2 more room x)
    ∙ ap (λ y. gives (record { sheet = y; boxes = u.boxes }) (stock names2 more room)) sheet

-- ---- where none asks nothing is grown anew

stays : (IsNew : Trees → Type 0) (asks : Bool) (t : Trees) → asks ≡ false → IsRebuilt asks IsNew t t
stays IsNew asks t h = subst (λ y. IsRebuilt y IsNew t t) (sym h) refl

holder_stays : (form : Shape) (c : Cell) (s : Sheet) (asks : Bool) (IsInside IsNew IsRest : Trees → Type 0) (inner rest : Trees) → asks ≡ false → IsInside inner → IsRest rest
    → IsHolderRebuilt form c s asks IsInside IsNew IsRest inner (Holder c s inner rest)
holder_stays Sub c s asks IsInside IsNew IsRest inner rest h i r = (inner, rest, refl, i, r)
holder_stays Obj c s asks IsInside IsNew IsRest inner rest h i r = (Holder c s inner Done, rest, refl, stays IsNew asks (Holder c s inner Done) h, r)
holder_stays Msg c s asks IsInside IsNew IsRest inner rest h i r = (Holder c s inner Done, rest, refl, stays IsNew asks (Holder c s inner Done) h, r)
holder_stays Comment c s asks IsInside IsNew IsRest inner rest h i r = (Holder c s inner Done, rest, refl, stays IsNew asks (Holder c s inner Done) h, r)
holder_stays FloatBox c s asks IsInside IsNew IsRest inner rest h i r = (Holder c s inner Done, rest, refl, stays IsNew asks (Holder c s inner Done) h, r)
holder_stays SymbolBox c s asks IsInside IsNew IsRest inner rest h i r = (Holder c s inner Done, rest, refl, stays IsNew asks (Holder c s inner Done) h, r)
holder_stays (Array values) c s asks IsInside IsNew IsRest inner rest h i r = (Holder c s inner Done, rest, refl, stays IsNew asks (Holder c s inner Done) h, r)
holder_stays (Other k) c s asks IsInside IsNew IsRest inner rest h i r = (Holder c s inner Done, rest, refl, stays IsNew asks (Holder c s inner Done) h, r)

pub unasked_stays : (IsNew : ℕ → Head → Trees → Type 0) (name left : ℕ) (t : Trees) → asks_for name t ≡ false → AreRebuilt IsNew name left t t
unasked_stays IsNew name left Done h = refl
unasked_stays IsNew name left (Leaf c rest) h =
    let parts = or_parts (cell_asks name c) (asks_for name rest) h in
    (Leaf c Done, rest, refl, stays (IsNew left c.head) (cell_asks name c) (Leaf c Done) parts.0, unasked_stays IsNew name left rest parts.1)
unasked_stays IsNew name left (Holder c s inner rest) h =
    let parts = or_parts (cell_asks name c) (asks_for name inner || asks_for name rest) h in
    let both = or_parts (asks_for name inner) (asks_for name rest) parts.1 in
    holder_stays c.head.form c s (cell_asks name c || asks_for name inner) (AreRebuilt IsNew name (pred left) inner) (IsNew left c.head) (AreRebuilt IsNew name left rest) inner rest
    (or_from (cell_asks name c) (asks_for name inner) parts.0 both.0) (unasked_stays IsNew name (pred left) inner both.0) (unasked_stays IsNew name left rest both.1)
