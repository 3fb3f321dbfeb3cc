-- The boxes of a tree that grows from short texts have few channels.
use Rattle.std.proofs.Common.{arith, ◌≡◌, ◌⊎◌, inl, inr, ℕ, zero, suc, ◌+◌, ◌≤◌, ◌==◌, Bool, true, false, cond, List, [], ◌∷◌, length, drop, Option, Some, None, IfSome, Result, Ok, Err, IfOk, refl, sym, ap, subst, ◌∙◌, nat_lt}
use Rattle.std.proofs.lemmas.Option.{none-some, same_Some}
use Rattle.std.specs.List.{AllByRecursion}
use Rattle.pd_atom.specs.declared.Atom.{Atom}
use Rattle.pd_atom.specs.declared.Expanded.{Expanded}
use Rattle.pd_atom.specs.declared.SymbolRefusal.{SymbolRefusal}
use Rattle.pd_atom.specs.Names.{Names, Outcome, given, name_of}
use Rattle.pd_atom.specs.Expansion.{expanded}
use Rattle.pd_object.specs.declared.kinds.Kind.{Kind}
use Rattle.pd_object.specs.declared.kinds.Kind.TheVariants as kind
use Rattle.pd_object.specs.declared.kinds.Named.{Named}
use Rattle.pd_object.specs.declared.kinds.Named.TheVariants as named
use Rattle.pd_naming.specs.Naming.{arguments_of, named_by}
use Rattle.pd_canvas.specs.declared.tree.Doc.{Doc}
use Rattle.pd_canvas.specs.Pages.{Shape, Obj, Msg, Comment, FloatBox, SymbolBox, Sub, Array, Other, Head, Boxes, End, Box, Page, Entry, listed, elements_of}
use Rattle.pd_canvas.specs.Proper.{IsHead, AreBoxes, IsProper, levels}
use Rattle.pd_library.specs.declared.answers.Answer.{Answer}
use Rattle.pd_library.specs.declared.answers.Answer.TheVariants.{Found, Absent, Bad}
use Rattle.pd_library.specs.Files.{answer_in}
use Rattle.pd_gather.specs.Gather.{AreProper, IsProperAnswer}
use Rattle.pd_tree.specs.declared.rows.Fault.{Fault}
use Rattle.pd_tree.specs.declared.rows.Fault.TheVariants.{Unknown, InsideItself, BadFile, TooDeep}
use Rattle.pd_tree.specs.Trees.{Cell, Trees, Done, Leaf, Holder, Tree, join}
use Rattle.pd_growth.specs.declared.growing.Stop.{Stop}
use Rattle.pd_growth.specs.Steps.{Stock, gives, numbered, named_step, outcome_after, outcome_then, text_expanded}
use Rattle.pd_growth.specs.Making.{Around, Making, Plain, Subpatch, File, unmade, is_inside, has_slash, file_made, answer_made, abstraction_made, nothing_made, object_made, made, is_expanded}
use Rattle.pd_growth.specs.Growth.{Inner, cell_of, canvas_grown, receiver_bytes, receiver_brought, around_instance, box_made, own_text, box_grown, boxes_grown, page_grown, without_ending, around_root, grown}
use Rattle.pd_regrowth_law.specs.Regrowth.{inner_of}
use Rattle.pd_regrowth_law.proofs.StepLemmas.{no_boxes, page_is, gives_same, chain, named_went, box_went, boxes_went}
use Rattle.pd_regrowth_law.proofs.TakeLemmas.{canvas_went, patch_went}
use Rattle.pd_grove.specs.declared.nodes.Node.{Node}
use Rattle.pd_grove.specs.Standing.{node_seen, HasCell, NodesOf}
use Rattle.pd_channels_law.specs.Channels.{HasShortTexts, AreShort, HasFewChannels, HaveFewChannels, NodesHaveFew}
use Rattle.pd_channels_law.proofs.WordLemmas.{named_few}

either : {A : Type 0} (P : A → Type 0) (b : Bool) (x y : A) → P x → P y → P (cond b x y)
either P true x y h k = h
either P false x y h k = k

-- documents
record EntryShort (e : Entry) : Type 0 where
  head : length e.head.text ≤ 1024
  inner : HasShortTexts e.page.boxes

abbrev EntriesShort : List Entry → Type 0
EntriesShort es = AllByRecursion EntryShort es

entries_short : (b : Boxes) → HasShortTexts b → EntriesShort (listed b)
entries_short End h = tt
entries_short (Box h f inner rest) k = (record { head = k.0; inner = k.1 }, entries_short rest k.2)

pub sound_short : (names : Names) (b : Boxes) → AreBoxes names b → HasShortTexts b
sound_short names End h = tt
sound_short names (Box h f inner rest) k = let head : IsHead names h = k.0 in (head.text.1, sound_short names inner k.3, sound_short names rest k.4)

found_short : (names : Names) (d : Doc) (a : Answer) → IsProperAnswer names a → a ≡ Found d → HasShortTexts d.root.boxes
found_short names d a h e = let p : IsProper names d.root = subst (IsProperAnswer names) e h in sound_short names d.root.boxes p.sound.1

pub library_short : (names : Names) (files : List (ℕ × Answer)) → AreProper names files → AreShort (answer_in files)
library_short names [] h s d = λ e. absurd (none-some (Found d) e)
library_short names (f ∷ files) h s d =
    either (λ (o : Option Answer). o ≡ Some (Found d) → HasShortTexts d.root.boxes) (f.0 == s) (Some f.1) (answer_in files s)
    (λ e. found_short names d f.1 h.0 (same_Some f.1 (Found d) e)) (library_short names files h.1 s d)

trees_join : (t r : Trees) → HaveFewChannels t → HaveFewChannels r → HaveFewChannels (join t r)
trees_join Done r h k = k
trees_join (Leaf c t) r h k = (h.0, trees_join t r h.1 k)
trees_join (Holder c s inner t) r h k = (h.0, h.1, trees_join t r h.2 k)

-- texts with their dollars replaced
record IsText (n : ℕ) (o : Outcome (List Atom)) : Type 0 where
  ok : IfOk o.answer (λ atoms. length atoms ≤ n)

cons_text : (n : ℕ) (a : Atom) (all : Names) (r : Result (List Atom) SymbolRefusal) → IfOk r (λ atoms. length atoms ≤ n) → IsText (suc n) (outcome_after r all (λ atoms all. given (a ∷ atoms) all))
cons_text n a all (Ok atoms) k = record { ok = omega (arith, k) }
cons_text n a all (Err e) k = record { ok = tt }

then_text : (own : ℕ) (args atoms : List Atom) (more : Names) (r : Result Expanded SymbolRefusal) → IsText (length atoms) (text_expanded own args atoms more)
    → IsText (suc (length atoms)) (outcome_after r more (λ e more. outcome_then (text_expanded own args atoms more) (λ bs all. given (e.atom ∷ bs) all)))
then_text own args atoms more (Ok e) k = cons_text (length atoms) e.atom (text_expanded own args atoms more).names (text_expanded own args atoms more).answer k.ok
then_text own args atoms more (Err e) k = record { ok = tt }

expanded_text : (own : ℕ) (args atoms : List Atom) (names : Names) → IsText (length atoms) (text_expanded own args atoms names)
unfolding text_expanded
expanded_text own args [] names = record { ok = omega arith }
expanded_text own args (a ∷ atoms) names =
    then_text own args atoms (expanded names a own args).names (expanded names a own args).answer (expanded_text own args atoms (expanded names a own args).names)

own_by : (b : Bool) (a : Around) (h : Head) (w v : Stock) (text : List Atom) → length h.text ≤ 1024
    → cond b (named_step (text_expanded a.zero a.arguments h.text w.names) w) (gives h.text w) ≡ gives text v → length text ≤ 1024
own_by true a h w v text k e =
    let o = text_expanded a.zero a.arguments h.text w.names in
    let t : IsText (length h.text) o = expanded_text a.zero a.arguments h.text w.names in
    let l : length text ≤ length h.text = subst (λ (r : Result (List Atom) SymbolRefusal). IfOk r (λ atoms. length atoms ≤ length h.text)) (named_went o w text v e).answer t.ok in
    omega (arith, l, k)
own_by false a h w v text k e = subst (λ (x : List Atom). length x ≤ 1024) (gives_same h.text text w v e) k

text_short : (a : Around) (h : Head) (w v : Stock) (text : List Atom) → length h.text ≤ 1024 → own_text a h w ≡ gives text v → length text ≤ 1024
text_short a h w v text k e = own_by (is_expanded h.form) a h w v text k e

-- what a box makes
MakingFew : Making → Type 0
MakingFew (Plain k fault) = HasFewChannels k
MakingFew Subpatch = Unit {0}
MakingFew (File s p) = HasShortTexts p.boxes

record IsMade (r : Result Making Stop) : Type 0 where
  ok : IfOk r MakingFew

unmade_few : (fault : Fault) → IsMade (Ok (unmade fault))
unfolding MakingFew
unmade_few fault = record { ok = tt }

file_few : (left s : ℕ) (p : Page) → HasShortTexts p.boxes → IsMade (Ok (file_made left s p))
unfolding MakingFew
file_few left s p h = record { ok = either MakingFew (nat_lt left (levels p.boxes + 1)) (unmade TooDeep) (File s p) tt h }

answer_few : (left s : ℕ) (o : Option Answer) → ((d : Doc) → o ≡ Some (Found d) → HasShortTexts d.root.boxes) → IsMade (answer_made left s o)
answer_few left s None h = record { ok = tt }
answer_few left s (Some Absent) h = unmade_few Unknown
answer_few left s (Some (Bad n)) h = unmade_few (BadFile n)
answer_few left s (Some (Found d)) h = file_few left s d.root (h d refl)

abstraction_few : (names : Names) (lib : ℕ → Option Answer) (root : List ℕ) (left : ℕ) (a : Around) (s : ℕ) → AreShort lib → IsMade (abstraction_made lib root left a names s)
abstraction_few names lib root left a s h =
    either IsMade (is_inside root a names s) (Ok (unmade InsideItself)) _ (unmade_few InsideItself)
    (either IsMade (has_slash (name_of names s)) (Ok (unmade Unknown)) _ (unmade_few Unknown) (answer_few left s (lib s) (h s)))

nothing_few : (text : List Atom) → IsMade (Ok (nothing_made text))
unfolding MakingFew
nothing_few [] = record { ok = tt }
nothing_few (a ∷ text) = record { ok = tt }

object_few : (names : Names) (lib : ℕ → Option Answer) (root : List ℕ) (left : ℕ) (a : Around) (text : List Atom) (n : Named) → AreShort lib → ((k : Kind) → n ≡ named.Kind k → HasFewChannels k)
    → IsMade (object_made lib root left a names text n)
unfolding MakingFew
object_few names lib root left a text (named.Kind k) h few = record { ok = few k refl }
object_few names lib root left a text (named.Abstraction s) h few = abstraction_few names lib root left a s h
object_few names lib root left a text named.Nothing h few = nothing_few text

made_few : (names : Names) (lib : ℕ → Option Answer) (root : List ℕ) (left : ℕ) (a : Around) (form : Shape) (text : List Atom) → AreShort lib → length text ≤ 1024 → IsMade (made lib root left a names form text)
unfolding MakingFew
made_few names lib root left a Obj text h k = object_few names lib root left a text (named_by names text) h (λ x e. named_few names text x k e)
made_few names lib root left a Msg text h k = record { ok = tt }
made_few names lib root left a Comment text h k = record { ok = tt }
made_few names lib root left a FloatBox text h k = record { ok = tt }
made_few names lib root left a SymbolBox text h k = record { ok = tt }
made_few names lib root left a Sub text h k = record { ok = tt }
made_few names lib root left a (Array values) text h k = record { ok = tt }
made_few names lib root left a (Other s) text h k = unmade_few Unknown

making_few : (r : Result Making Stop) (m : Making) → r ≡ Ok m → IsMade r → MakingFew m
making_few r m e h = subst (λ (x : Result Making Stop). IfOk x MakingFew) e h.ok

-- growth
abbrev InnerFew : Inner → Type 0
InnerFew inner = (a : Around) (p : Page) (w : Stock) (t : Trees) (v : Stock) → EntriesShort (elements_of p) → inner a p w ≡ gives t v → HaveFewChannels t

canvas_few : (inner : Inner) (a : Around) (p : Page) (h : Head) (text : List Atom) (w : Stock) (t : Trees) (v : Stock) → InnerFew inner → EntriesShort (elements_of p) → canvas_grown inner a p h text w ≡ gives t v → HaveFewChannels t
canvas_few inner a p h text w t v k es e =
    let g = canvas_went inner a p h text w t v e in
    subst HaveFewChannels g.tree_is (tt, k a p w g.boxes v es g.boxes_is, tt)

tree_few : (inner : Inner) (a : Around) (e : Entry) (text : List Atom) (m : Making) (w : Stock) (t : Trees) (v : Stock) → InnerFew inner → HasShortTexts e.page.boxes → MakingFew m → box_made inner a e text m w ≡ gives t v → HaveFewChannels t
unfolding MakingFew
tree_few inner a e text (Plain k fault) w t v g b f h = subst HaveFewChannels (gives_same (Leaf (cell_of e.head text k fault) Done) t w v h) (f, tt)
tree_few inner a e text Subpatch w t v g b f h =
    let c = chain (receiver_brought a.is_top text w) (λ _ u. canvas_grown inner a e.page e.head text u) t v h in
    canvas_few inner a e.page e.head text c.stock t v g (entries_short e.page.boxes b) c.next
tree_few inner a e text (File s p) w t v g b f h =
    let args = arguments_of (drop 1 text) in
    let c = chain (numbered w) (λ z u. canvas_grown inner (around_instance a z s args) p e.head text u) t v h in
    canvas_few inner (around_instance a c.value s args) p e.head text c.stock t v g (entries_short p.boxes f) c.next

box_few : (lib : ℕ → Option Answer) (root : List ℕ) (left : ℕ) (inner : Inner) (a : Around) (e : Entry) (w : Stock) (t : Trees) (v : Stock) → InnerFew inner → AreShort lib → EntryShort e
    → box_grown lib root left inner a e w ≡ gives t v → HaveFewChannels t
box_few lib root left inner a e w t v g l n h =
    let b = box_went lib root left inner a e w t v h in
    let text : length b.text ≤ 1024 = text_short a e.head b.start b.named b.text n.head b.text_is in
    let making : MakingFew b.making = making_few (made lib root left a b.named.names e.head.form b.text) b.making b.made_is (made_few b.named.names lib root left a e.head.form b.text l text) in
    tree_few inner a e b.text b.making b.named t v g n.inner making b.box_is

boxes_few : (lib : ℕ → Option Answer) (root : List ℕ) (left : ℕ) (inner : Inner) (a : Around) (es : List Entry) (w : Stock) (t : Trees) (v : Stock) → InnerFew inner → AreShort lib → EntriesShort es
    → boxes_grown lib root left inner a es w ≡ gives t v → HaveFewChannels t
boxes_few lib root left inner a [] w t v g l n h = subst HaveFewChannels (gives_same Done t w v (sym (no_boxes lib root left inner a w) ∙ h)) tt
boxes_few lib root left inner a (e ∷ es) w t v g l n h =
    let b = boxes_went lib root left inner a e es w t v h in
    subst HaveFewChannels b.all_is (trees_join b.box b.rest (box_few lib root left inner a e w b.box b.between g l n.0 b.box_is) (boxes_few lib root left inner a es b.between b.rest v g l n.1 b.rest_is))

inner_few : (lib : ℕ → Option Answer) (root : List ℕ) (left : ℕ) → AreShort lib → InnerFew (inner_of lib root left)
inner_few lib root zero l a p w t v n h = subst HaveFewChannels (gives_same Done t w v h) tt
inner_few lib root (suc m) l a p w t v n h = boxes_few lib root m (inner_of lib root m) a (elements_of p) w t v (inner_few lib root m l) l n (sym (page_is lib root m a p w) ∙ h)

pub patch_few : (lib : ℕ → Option Answer) (name : List ℕ) (p : Page) (w v : Stock) (t : Tree) → AreShort lib → HasShortTexts p.boxes → grown lib name p w ≡ gives t v → HaveFewChannels t.boxes
patch_few lib name p w v t l b h =
    let g = patch_went lib name p w t v h in
    subst (λ (y : Tree). HaveFewChannels y.boxes) g.tree_is
    (boxes_few lib (without_ending name) 255 (inner_of lib (without_ending name) 255) (around_root g.own) (elements_of p) g.named g.boxes v (inner_few lib (without_ending name) 255 l) l (entries_short p.boxes b)
    (sym (page_is lib (without_ending name) 255 (around_root g.own) p g.named) ∙ g.boxes_is))

-- the boxes of a patch
cell_few : (t : Trees) (x : Cell) → HaveFewChannels t → HasCell t x → HasFewChannels x.kind
cell_few Done x h y = absurd y
cell_few (Leaf c rest) x h y = elim y [ inl e ↦ subst (λ (z : Cell). HasFewChannels z.kind) e h.0 | inr z ↦ cell_few rest x h.1 z ]
cell_few (Holder c s inner rest) x h y =
    elim y [
      | inl e ↦ subst (λ (z : Cell). HasFewChannels z.kind) e h.0
      | inr w ↦ elim w [ inl z ↦ cell_few inner x h.1 z | inr z ↦ cell_few rest x h.2 z ]
    ]

pub nodes_few : (t : Trees) (nodes : ℕ → Option Node) → HaveFewChannels t → NodesOf t nodes → NodesHaveFew nodes
nodes_few t nodes h of k n e = cell_few t (node_seen n).cell h (of k n e)
