-- The boxes of a tree that grows are of kinds in order.
use Rattle.std.proofs.Common.{◌≡◌, ℕ, zero, suc, ◌+◌, ◌≤◌, Bool, true, false, cond, List, [], ◌∷◌, ◌++◌, length, drop, Option, Some, None, Result, Ok, Err, IfOk, refl, sym, subst, ◌∙◌, arith, nat_lt}
use Rattle.std.specs.List.{AllByRecursion}
use Rattle.pd_atom.specs.declared.Atom.{Atom}
use Rattle.pd_atom.specs.declared.Expanded.{Expanded}
use Rattle.pd_atom.specs.declared.SymbolRefusal.{SymbolRefusal}
use Rattle.pd_atom.specs.Names.{Names, Extends, Outcome, given, name_of}
use Rattle.pd_atom.specs.Expansion.{expanded}
use Rattle.pd_atom.proofs.LawLemmas.{settled_number}
use Rattle.pd_object.specs.declared.kinds.Kind.{Kind}
use Rattle.pd_object.specs.declared.kinds.Kind.TheVariants as kind
use Rattle.pd_object.specs.declared.kinds.Named.{Named}
use Rattle.pd_object.specs.declared.kinds.Named.TheVariants as named
use Rattle.pd_kind.specs.States.{start_of}
use Rattle.pd_naming.specs.Naming.{arguments_of, named_by}
use Rattle.pd_canvas.specs.Pages.{Shape, Obj, Msg, Comment, FloatBox, SymbolBox, Sub, Array, Other, Head, Boxes, End, Box, Page, Entry, listed, elements_of}
use Rattle.pd_canvas.specs.Proper.{IsReady, AreReady, FitsForm, IsHead, AreBoxes, levels}
use Rattle.pd_library.specs.declared.answers.Answer.{Answer}
use Rattle.pd_library.specs.declared.answers.Answer.TheVariants.{Found, Absent, Bad}
use Rattle.pd_tree.specs.declared.rows.Fault.{Fault}
use Rattle.pd_tree.specs.declared.rows.Fault.TheVariants.{Unknown, InsideItself, BadFile, TooDeep}
use Rattle.pd_tree.specs.Trees.{Trees, Done, Leaf, Holder, Tree, join}
use Rattle.pd_growth.specs.declared.growing.Stop.{Stop}
use Rattle.pd_growth.specs.Steps.{Stock, gives, numbered, named_step, outcome_after, outcome_then, text_expanded}
use Rattle.pd_growth.specs.Making.{Around, Making, Plain, Subpatch, File, unmade, is_inside, has_slash, file_made, answer_made, abstraction_made, nothing_made, object_made, made, is_expanded}
use Rattle.pd_growth.specs.Growth.{Inner, cell_of, canvas_grown, receiver_bytes, receiver_brought, around_instance, box_made, own_text, box_grown, boxes_grown, page_grown, without_ending, around_root, grown}
use Rattle.pd_regrowth_law.specs.Regrowth.{Takes, inner_of}
use Rattle.pd_regrowth_law.proofs.StepLemmas.{no_boxes, page_is, gives_same, gives_stock, chain, named_went, text_extends, box_went, boxes_went, counted_takes, numbered_takes, brought_takes}
use Rattle.pd_regrowth_law.proofs.TakeLemmas.{text_takes, receiver_takes, canvas_went, InnerTakes, box_takes, boxes_take, inner_takes, patch_went}
use Rattle.pd_guards.specs.Order.{HasFirst, IsAtom, AreAtoms, IsList}
use Rattle.pd_guards.specs.Growing.{IsBorn, AreBorn, ValuesIn, IsHeadIn, BoxesIn, LibraryIn, StockIn}
use Rattle.pd_guards.proofs.FactLemmas.{either, all-weaker}
use Rattle.pd_guards.proofs.BaseLemmas.{no_number}
use Rattle.pd_guards.proofs.MoreLemmas.{longer, first_more, atom_more, atoms_more, list_more, kind_more, kept_more}
use Rattle.pd_guards.proofs.NameLemmas.{IsExpanded, expanded_at}
use Rattle.pd_guards.proofs.NamingLemmas.{arguments_in, named_kind}

record EntryIn (names : Names) (e : Entry) : Type 0 where
  head : IsHeadIn names e.head
  inner : BoxesIn names e.page.boxes

abbrev EntriesIn : Names → List Entry → Type 0
EntriesIn names es = AllByRecursion (EntryIn names) es

-- the arguments around
abbrev AroundIn : Names → Around → Type 0
AroundIn names a = AreAtoms names a.arguments

entries_in : (names : Names) (b : Boxes) → BoxesIn names b → EntriesIn names (listed b)
entries_in names End h = tt
entries_in names (Box h f inner rest) k = (record { head = k.0; inner = k.1 }, entries_in names rest k.2)

-- a sound document
ready_in : (names : Names) (atoms : List Atom) → AreReady names atoms → AreAtoms names atoms
ready_in names atoms h = all-weaker (IsReady names) (IsAtom names) (λ a k. (k.0, settled_number names a k.1)) atoms h

values_in : (names : Names) (form : Shape) (h : Head) → FitsForm names form h → ValuesIn form
values_in names (Array values) h k = k.numbers
values_in names Obj h k = tt
values_in names Msg h k = tt
values_in names Comment h k = tt
values_in names FloatBox h k = tt
values_in names SymbolBox h k = tt
values_in names Sub h k = tt
values_in names (Other s) h k = tt

head_in : (names : Names) (h : Head) → IsHead names h → IsHeadIn names h
head_in names h k = record { text = record { few = k.text.1; all = ready_in names h.text k.text.0 }; values = values_in names h.form h k.form }

pub sound_in : (names : Names) (b : Boxes) → AreBoxes names b → BoxesIn names b
sound_in names End h = tt
sound_in names (Box h f inner rest) k = (head_in names h k.0, sound_in names inner k.3, sound_in names rest k.4)

-- a table that goes on
module _ (old new : Names) (l : length old ≤ length new) where
  born_more : (k : Kind) → IsBorn old k → IsBorn new k
  born_more k h = record { kind = kind_more old new l k h.kind; kept = λ now rate s. kept_more old new l now (start_of k rate) (h.kept now rate s); values = h.values }

  trees_more : (t : Trees) → AreBorn old t → AreBorn new t
  trees_more Done h = tt
  trees_more (Leaf c rest) h = (born_more c.kind h.0, trees_more rest h.1)
  trees_more (Holder c s inner rest) h = (born_more c.kind h.0, trees_more inner h.1, trees_more rest h.2)

  head_more : (h : Head) → IsHeadIn old h → IsHeadIn new h
  head_more h k = record { text = list_more old new l h.text k.text; values = k.values }

  boxes_more : (b : Boxes) → BoxesIn old b → BoxesIn new b
  boxes_more End h = tt
  boxes_more (Box h f inner rest) k = (head_more h k.0, boxes_more inner k.1, boxes_more rest k.2)

  entry_more : (e : Entry) → EntryIn old e → EntryIn new e
  entry_more e h = record { head = head_more e.head h.head; inner = boxes_more e.page.boxes h.inner }

  entries_more : (es : List Entry) → EntriesIn old es → EntriesIn new es
  entries_more es h = all-weaker (EntryIn old) (EntryIn new) entry_more es h

  library_more : (lib : ℕ → Option Answer) → LibraryIn old lib → LibraryIn new lib
  library_more lib h s d e = boxes_more d.root.boxes (h s d e)

  around_more : (a : Around) → AroundIn old a → AroundIn new a
  around_more a h = atoms_more old new l a.arguments h

trees_join : (names : Names) (t r : Trees) → AreBorn names t → AreBorn names r → AreBorn names (join t r)
trees_join names Done r h k = k
trees_join names (Leaf c t) r h k = (h.0, trees_join names t r h.1 k)
trees_join names (Holder c s inner t) r h k = (h.0, h.1, trees_join names t r h.2 k)

all-right : {A : Type 0} (P : A → Type 0) (xs ys : List A) → AllByRecursion P (xs ++ ys) → AllByRecursion P ys
all-right P [] ys h = h
all-right P (x ∷ xs) ys h = all-right P xs ys h.1

abbrev IsZero : ℕ → Type 0
IsZero z = z ≤ 1000000000

stock_more : (w v : Stock) (numbers : List ℕ) (n : ℕ) → Takes w numbers n v → StockIn w → StockIn v
stock_more w v numbers n t h = record {
  first = first_more w.names v.names (longer w.names v.names t.names) h.first;
  zeros = all-right IsZero numbers v.zeros (subst (AllByRecursion IsZero) t.zeros h.zeros);
}

-- texts with their dollars replaced
record IsText (n : ℕ) (o : Outcome (List Atom)) : Type 0 where
  ok : IfOk o.answer (λ atoms. AreAtoms o.names atoms × (length atoms ≤ n))

cons_text : (n : ℕ) (a : Atom) (more all : Names) (r : Result (List Atom) SymbolRefusal) → Extends more all → IsAtom more a → IfOk r (λ atoms. AreAtoms all atoms × (length atoms ≤ n))
    → IsText (suc n) (outcome_after r all (λ atoms all. given (a ∷ atoms) all))
cons_text n a more all (Ok atoms) x h k = record { ok = ((atom_more more all (longer more all x) a h, k.0), let l : length atoms ≤ n = k.1 in omega arith) }
cons_text n a more all (Err e) x h k = record { ok = tt }

then_text : (own : ℕ) (args atoms : List Atom) (more : Names) (r : Result Expanded SymbolRefusal) → IfOk r (λ e. IsAtom more e.atom) → IsText (length atoms) (text_expanded own args atoms more)
    → IsText (suc (length atoms)) (outcome_after r more (λ e more. outcome_then (text_expanded own args atoms more) (λ bs all. given (e.atom ∷ bs) all)))
then_text own args atoms more (Ok e) h k = cons_text (length atoms) e.atom more (text_expanded own args atoms more).names (text_expanded own args atoms more).answer (text_extends own args atoms more) h k.ok
then_text own args atoms more (Err e) h k = record { ok = tt }

expanded_text : (own : ℕ) (args atoms : List Atom) (names : Names) → AreAtoms names args → AreAtoms names atoms → IsText (length atoms) (text_expanded own args atoms names)
unfolding text_expanded
expanded_text own args [] names g h = record { ok = (tt, omega arith) }
expanded_text own args (a ∷ atoms) names g h =
    let o : IsExpanded names (expanded names a own args) = expanded_at names a own args h.0 g in
    let more = (expanded names a own args).names in
    let l : length names ≤ length more = longer names more o.extends in
    then_text own args atoms more (expanded names a own args).answer o.answer (expanded_text own args atoms more (atoms_more names more l args g) (atoms_more names more l atoms h.1))

own_by : (b : Bool) (a : Around) (h : Head) (w v : Stock) (text : List Atom) → AroundIn w.names a → IsList w.names h.text
    → cond b (named_step (text_expanded a.zero a.arguments h.text w.names) w) (gives h.text w) ≡ gives text v → IsList v.names text
own_by true a h w v text i k e =
    let o = text_expanded a.zero a.arguments h.text w.names in
    let g = named_went o w text v e in
    let t : IsText (length h.text) o = expanded_text a.zero a.arguments h.text w.names i k.all in
    let both : AreAtoms o.names text × (length text ≤ length h.text) = subst (λ (r : Result (List Atom) SymbolRefusal). IfOk r (λ atoms. AreAtoms o.names atoms × (length atoms ≤ length h.text))) g.answer t.ok in
    let few : length text ≤ length h.text = both.1 in
    let most : length h.text ≤ 1024 = k.few in
    record { few = omega arith; all = subst (λ (s : Stock). AreAtoms s.names text) g.stock both.0 }
own_by false a h w v text i k e = subst (λ (s : Stock). IsList s.names text) (gives_stock h.text text w v e) (subst (IsList w.names) (gives_same h.text text w v e) k)

text_in : (a : Around) (h : Head) (w v : Stock) (text : List Atom) → AroundIn w.names a → IsList w.names h.text → own_text a h w ≡ gives text v → IsList v.names text
text_in a h w v text i k e = own_by (is_expanded h.form) a h w v text i k e

-- what a box makes
MakingIn : Names → Making → Type 0
MakingIn names (Plain k fault) = IsBorn names k
MakingIn names Subpatch = Unit {0}
MakingIn names (File s p) = BoxesIn names p.boxes

record IsMade (names : Names) (r : Result Making Stop) : Type 0 where
  ok : IfOk r (MakingIn names)

bare_born : (names : Names) → IsBorn names kind.Unmade
bare_born names = record { kind = tt; kept = λ now rate l. tt; values = λ rate. tt }

unmade_in : (names : Names) (fault : Fault) → IsMade names (Ok (unmade fault))
unfolding MakingIn
unmade_in names fault = record { ok = bare_born names }

file_in : (names : Names) (left s : ℕ) (p : Page) → BoxesIn names p.boxes → IsMade names (Ok (file_made left s p))
unfolding MakingIn
file_in names left s p h = record { ok = either (MakingIn names) (nat_lt left (levels p.boxes + 1)) (unmade TooDeep) (File s p) (bare_born names) h }

answer_in : (names : Names) (left s : ℕ) (o : Option Answer) → ((d : _) → o ≡ Some (Found d) → BoxesIn names d.root.boxes) → IsMade names (answer_made left s o)
answer_in names left s None h = record { ok = tt }
answer_in names left s (Some Absent) h = unmade_in names Unknown
answer_in names left s (Some (Bad n)) h = unmade_in names (BadFile n)
answer_in names left s (Some (Found d)) h = file_in names left s d.root (h d refl)

abstraction_in : (names : Names) (lib : ℕ → Option Answer) (root : List ℕ) (left : ℕ) (a : Around) (s : ℕ) → LibraryIn names lib → IsMade names (abstraction_made lib root left a names s)
abstraction_in names lib root left a s h =
    either (IsMade names) (is_inside root a names s) (Ok (unmade InsideItself)) _ (unmade_in names InsideItself)
    (either (IsMade names) (has_slash (name_of names s)) (Ok (unmade Unknown)) _ (unmade_in names Unknown) (answer_in names left s (lib s) (h s)))

nothing_in : (names : Names) (text : List Atom) → IsMade names (Ok (nothing_made text))
unfolding MakingIn
nothing_in names [] = record { ok = bare_born names }
nothing_in names (a ∷ text) = record { ok = bare_born names }

object_in : (names : Names) (lib : ℕ → Option Answer) (root : List ℕ) (left : ℕ) (a : Around) (text : List Atom) (n : Named) → LibraryIn names lib → ((k : Kind) → n ≡ named.Kind k → IsBorn names k)
    → IsMade names (object_made lib root left a names text n)
unfolding MakingIn
object_in names lib root left a text (named.Kind k) h born = record { ok = born k refl }
object_in names lib root left a text (named.Abstraction s) h born = abstraction_in names lib root left a s h
object_in names lib root left a text named.Nothing h born = nothing_in names text

made_in : (names : Names) → HasFirst names → (lib : ℕ → Option Answer) (root : List ℕ) (left : ℕ) (a : Around) (form : Shape) (text : List Atom) → LibraryIn names lib → IsList names text → ValuesIn form
    → IsMade names (made lib root left a names form text)
unfolding MakingIn
made_in names first lib root left a Obj text h k v = object_in names lib root left a text (named_by names text) h (λ x e. named_kind names first text x k e)
made_in names first lib root left a Msg text h k v = record { ok = record { kind = record { small = k.few; words = tt }; kept = λ now rate l. k; values = λ rate. tt } }
made_in names first lib root left a Comment text h k v = record { ok = record { kind = record { small = tt; words = tt }; kept = λ now rate l. tt; values = λ rate. tt } }
made_in names first lib root left a FloatBox text h k v = record { ok = record { kind = record { small = k.few; words = k.all }; kept = λ now rate l. no_number; values = λ rate. tt } }
made_in names first lib root left a SymbolBox text h k v = record { ok = record { kind = record { small = k.few; words = k.all }; kept = λ now rate l. omega (arith, first); values = λ rate. tt } }
made_in names first lib root left a Sub text h k v = record { ok = tt }
made_in names first lib root left a (Array values) text h k v = record { ok = record { kind = record { small = k.few; words = tt }; kept = λ now rate l. record { few = l; numbers = v }; values = λ rate. tt } }
made_in names first lib root left a (Other s) text h k v = unmade_in names Unknown

making_in : (names : Names) (r : Result Making Stop) (m : Making) → r ≡ Ok m → IsMade names r → MakingIn names m
making_in names r m e h = subst (λ (x : Result Making Stop). IfOk x (MakingIn names)) e h.ok

-- growth
abbrev InnerIn : (ℕ → Option Answer) → Inner → Type 0
InnerIn lib inner = (a : Around) (p : Page) (w : Stock) (t : Trees) (v : Stock) → LibraryIn w.names lib → AroundIn w.names a → StockIn w → EntriesIn w.names (elements_of p)
    → inner a p w ≡ gives t v → AreBorn v.names t

canvas_born : (names : Names) → IsBorn names kind.Canvas
canvas_born names = record { kind = tt; kept = λ now rate l. tt; values = λ rate. tt }

canvas_in : (lib : ℕ → Option Answer) (inner : Inner) (a : Around) (p : Page) (h : Head) (text : List Atom) (w : Stock) (t : Trees) (v : Stock) → InnerIn lib inner → LibraryIn w.names lib → AroundIn w.names a
    → StockIn w → EntriesIn w.names (elements_of p) → canvas_grown inner a p h text w ≡ gives t v → AreBorn v.names t
canvas_in lib inner a p h text w t v k l i o es e =
    let g = canvas_went inner a p h text w t v e in
    subst (AreBorn v.names) g.tree_is (canvas_born v.names, k a p w g.boxes v l i o es g.boxes_is, tt)

tree_in : (lib : ℕ → Option Answer) (inner : Inner) (a : Around) (e : Entry) (text : List Atom) (m : Making) (w : Stock) (t : Trees) (v : Stock) → InnerIn lib inner → LibraryIn w.names lib → AroundIn w.names a
    → StockIn w → IsList w.names text → BoxesIn w.names e.page.boxes → MakingIn w.names m → box_made inner a e text m w ≡ gives t v → AreBorn v.names t
unfolding MakingIn
tree_in lib inner a e text (Plain k fault) w t v g l i o x b f h =
    let leaf = Leaf (cell_of e.head text k fault) Done in
    subst (AreBorn v.names) (gives_same leaf t w v h) (subst (λ (s : Stock). IsBorn s.names k) (gives_stock leaf t w v h) f, tt)
tree_in lib inner a e text Subpatch w t v g l i o x b f h =
    let c = chain (receiver_brought a.is_top text w) (λ _ u. canvas_grown inner a e.page e.head text u) t v h in
    let takes = receiver_takes a.is_top text w c.stock c.value c.first in
    let up = longer w.names c.stock.names takes.names in
    canvas_in lib inner a e.page e.head text c.stock t v g (library_more w.names c.stock.names up lib l) (around_more w.names c.stock.names up a i) (stock_more w c.stock [] 0 takes o)
    (entries_in c.stock.names e.page.boxes (boxes_more w.names c.stock.names up e.page.boxes b)) c.next
tree_in lib inner a e text (File s p) w t v g l i o x b f h =
    let args = arguments_of (drop 1 text) in
    let c = chain (numbered w) (λ z u. canvas_grown inner (around_instance a z s args) p e.head text u) t v h in
    let takes = numbered_takes w c.stock c.value c.first in
    let up = longer w.names c.stock.names takes.names in
    let rest : IsList w.names (drop 1 text) = tail_in w.names text x in
    let given : AreAtoms c.stock.names args = atoms_more w.names c.stock.names up args (arguments_in w.names (drop 1 text) rest).all in
    canvas_in lib inner (around_instance a c.value s args) p e.head text c.stock t v g (library_more w.names c.stock.names up lib l)
    given (stock_more w c.stock (c.value ∷ []) 0 takes o)
    (entries_in c.stock.names p.boxes (boxes_more w.names c.stock.names up p.boxes f)) c.next
  where
    tail_in : (names : Names) (atoms : List Atom) → IsList names atoms → IsList names (drop 1 atoms)
    tail_in names [] h = h
    tail_in names (a ∷ atoms) h = let l : length (a ∷ atoms) ≤ 1024 = h.few in record { few = omega arith; all = h.all.1 }

box_in : (lib : ℕ → Option Answer) (root : List ℕ) (left : ℕ) (inner : Inner) (a : Around) (e : Entry) (w : Stock) (t : Trees) (v : Stock) → InnerIn lib inner → LibraryIn w.names lib → AroundIn w.names a
    → StockIn w → EntryIn w.names e → box_grown lib root left inner a e w ≡ gives t v → AreBorn v.names t
box_in lib root left inner a e w t v g l i o n h =
    let b = box_went lib root left inner a e w t v h in
    let first_takes = counted_takes w b.start b.counted_is in
    let next_takes = text_takes a e.head b.start b.text b.named b.text_is in
    let up = longer w.names b.start.names first_takes.names in
    let on = longer b.start.names b.named.names next_takes.names in
    let start : StockIn b.start = stock_more w b.start [] 1 first_takes o in
    let stock : StockIn b.named = stock_more b.start b.named [] 0 next_takes start in
    let a_start = around_more w.names b.start.names up a i in
    let l_named : LibraryIn b.named.names lib = library_more b.start.names b.named.names on lib (library_more w.names b.start.names up lib l) in
    let text : IsList b.named.names b.text = text_in a e.head b.start b.named b.text a_start (list_more w.names b.start.names up e.head.text n.head.text) b.text_is in
    let making : MakingIn b.named.names b.making = making_in b.named.names (made lib root left a b.named.names e.head.form b.text) b.making b.made_is
    (made_in b.named.names stock.first lib root left a e.head.form b.text l_named text n.head.values) in
    tree_in lib inner a e b.text b.making b.named t v g l_named (around_more b.start.names b.named.names on a a_start) stock text
    (boxes_more b.start.names b.named.names on e.page.boxes (boxes_more w.names b.start.names up e.page.boxes n.inner)) making b.box_is

boxes_in : (lib : ℕ → Option Answer) (root : List ℕ) (left : ℕ) (inner : Inner) (a : Around) (es : List Entry) (w : Stock) (t : Trees) (v : Stock) → InnerTakes inner → InnerIn lib inner → LibraryIn w.names lib
    → AroundIn w.names a → StockIn w → EntriesIn w.names es → boxes_grown lib root left inner a es w ≡ gives t v → AreBorn v.names t
boxes_in lib root left inner a [] w t v q g l i o n h = subst (AreBorn v.names) (gives_same Done t w v (sym (no_boxes lib root left inner a w) ∙ h)) tt
boxes_in lib root left inner a (e ∷ es) w t v q g l i o n h =
    let b = boxes_went lib root left inner a e es w t v h in
    let takes = box_takes lib root left inner a e w b.box b.between q b.box_is in
    let up = longer w.names b.between.names takes.names in
    let on = longer b.between.names v.names (boxes_take lib root left inner a es b.between b.rest v q b.rest_is).names in
    subst (AreBorn v.names) b.all_is
    (trees_join v.names b.box b.rest
    (trees_more b.between.names v.names on b.box (box_in lib root left inner a e w b.box b.between g l i o n.0 b.box_is))
    (boxes_in lib root left inner a es b.between b.rest v q g (library_more w.names b.between.names up lib l) (around_more w.names b.between.names up a i) (stock_more w b.between _ _ takes o)
    (entries_more w.names b.between.names up es n.1) b.rest_is))

inner_in : (lib : ℕ → Option Answer) (root : List ℕ) (left : ℕ) → InnerIn lib (inner_of lib root left)
inner_in lib root zero a p w t v l i o n h = subst (AreBorn v.names) (gives_same Done t w v h) tt
inner_in lib root (suc m) a p w t v l i o n h =
    boxes_in lib root m (inner_of lib root m) a (elements_of p) w t v (inner_takes lib root m) (inner_in lib root m) l i o n (sym (page_is lib root m a p w) ∙ h)

-- a box that grows in a canvas, with all that lies in it
pub one_in : (lib : ℕ → Option Answer) (root : List ℕ) (left : ℕ) (a : Around) (e : Entry) (w v : Stock) (t : Trees) → LibraryIn w.names lib → AreAtoms w.names a.arguments → StockIn w
    → IsHeadIn w.names e.head → BoxesIn w.names e.page.boxes → box_grown lib root left (inner_of lib root left) a e w ≡ gives t v → AreBorn v.names t
one_in lib root left a e w v t l i o head boxes h =
    box_in lib root left (inner_of lib root left) a e w t v (inner_in lib root left) l i o (record { head = head; inner = boxes }) h

page_in : (lib : ℕ → Option Answer) (root : List ℕ) (left : ℕ) (a : Around) (p : Page) (w : Stock) (t : Trees) (v : Stock) → LibraryIn w.names lib → AroundIn w.names a → StockIn w → BoxesIn w.names p.boxes
    → page_grown lib root left a p w ≡ gives t v → AreBorn v.names t
page_in lib root left a p w t v l i o b h =
    boxes_in lib root left (inner_of lib root left) a (elements_of p) w t v (inner_takes lib root left) (inner_in lib root left) l i o (entries_in w.names p.boxes b) (sym (page_is lib root left a p w) ∙ h)

pub patch_in : (lib : ℕ → Option Answer) (name : List ℕ) (p : Page) (w v : Stock) (t : Tree) → LibraryIn w.names lib → BoxesIn w.names p.boxes → StockIn w → grown lib name p w ≡ gives t v → AreBorn v.names t.boxes
patch_in lib name p w v t l b o h =
    let g = patch_went lib name p w t v h in
    let takes = numbered_takes w g.start g.own g.own_is in
    let brings = brought_takes (receiver_bytes name) g.start g.named tt g.name_is in
    let up = longer w.names g.start.names takes.names in
    let on = longer g.start.names g.named.names brings.names in
    let stock : StockIn g.named = stock_more g.start g.named [] 0 brings (stock_more w g.start (g.own ∷ []) 0 takes o) in
    subst (λ (y : Tree). AreBorn v.names y.boxes) g.tree_is
    (page_in lib (without_ending name) 255 (around_root g.own) p g.named g.boxes v (library_more g.start.names g.named.names on lib (library_more w.names g.start.names up lib l))
    tt stock
    (boxes_more g.start.names g.named.names on p.boxes (boxes_more w.names g.start.names up p.boxes b)) g.boxes_is)
