-- A toggle with other values.
use Rattle.std.proofs.Common.{◌≡◌, ℕ, zero, suc, ◌+◌, Bool, true, false, ◌&&◌, ◌==◌, ℤ, List, [], ◌∷◌, ◌++◌, length, take, drop, Option, Some, None, option_map, Result, Ok, if◌then◌else◌, nat_lt, bytes_eq, codes, refl, sym, ap, ◌∙◌, subst, arith, true≢false}
use Rattle.std.specs.List.{list_all}
use Rattle.std.proofs.lemmas.Bool.{eqb-true}
use Rattle.pd_atom.specs.declared.Atom.{Atom}
use Rattle.pd_atom.specs.declared.Atom.TheVariants as atom
use Rattle.pd_atom.specs.declared.Expanded.{Expanded}
use Rattle.pd_atom.specs.Names.{Names, Outcome, given, name_of}
use Rattle.pd_atom.specs.Expansion.{expanded}
use Rattle.pd_atom.proofs.NameLemmas.{same_bytes}
use Rattle.pd_atom.proofs.DigitLemmas.{and_left, and_right}
use Rattle.pd_object.specs.declared.kinds.Kind.{Kind}
use Rattle.pd_object.specs.declared.kinds.Kind.TheVariants as kind
use Rattle.pd_object.specs.declared.kinds.Signal.TheVariants as signal
use Rattle.pd_object.specs.declared.kinds.Named.{Named}
use Rattle.pd_object.specs.declared.kinds.Named.TheVariants as named
use Rattle.pd_object.specs.declared.kinds.Panel.{Panel}
use Rattle.pd_object.specs.declared.kinds.Panel.TheVariants as panel
use Rattle.pd_object.specs.declared.kinds.Toggle.{Toggle}
use Rattle.pd_naming.specs.Naming.{first_of, is_argument, arguments_of, arith_named, glue_named, tone_named, signal_named, listed_named, channels_of, is_whole_text, button_of, toggle_of, panel_named, sounding_kind, control_kind, simple_kind, listed_kind, word_kind, kind_or_abstraction, begins_foreign, list_of, list_named, named_by}
use Rattle.pd_canvas.specs.Pages.{Shape, Obj, Head, Page, Entry, empty_page}
use Rattle.pd_canvas.specs.Proper.{levels}
use Rattle.pd_library.specs.declared.answers.Answer.{Answer}
use Rattle.pd_library.specs.declared.answers.Answer.TheVariants.{Found, Absent, Bad}
use Rattle.pd_tree.specs.declared.rows.Fault.{Fault}
use Rattle.pd_tree.specs.declared.rows.Fault.TheVariants.{Unknown, InsideItself, TooDeep}
use Rattle.pd_tree.specs.Trees.{Cell, Trees, Done, Leaf, weight}
use Rattle.pd_growth.specs.declared.growing.Stop.{Stop}
use Rattle.pd_growth.specs.Steps.{Stock, Step, gives, goes_on, ◌>>=◌, named_step, counted, numbered, outcome_then, text_expanded}
use Rattle.pd_growth.specs.Making.{Around, Making, Plain, Subpatch, File, unmade, is_inside, has_slash, answer_made, nothing_made, object_made, made, is_expanded}
use Rattle.pd_growth.specs.Growth.{Inner, cell_of, canvas_grown, receiver_brought, around_instance, box_made, own_text, box_grown}
use Rattle.pd_regrowth_law.specs.Regrowth.{inner_of, stock}
use Rattle.pd_regrowth_law.specs.Canvases.{Site}
use Rattle.pd_regrowth_law.specs.Filling.{LeafFollows, last_two, turned}
use Rattle.pd_regrowth_law.proofs.StepLemmas.{gives_same, gives_stock, chain, box_went, named_went}
use Rattle.pd_regrowth_law.proofs.TakeLemmas.{canvas_went}
use Rattle.pd_regrowth_law.proofs.AgainLemmas.{counted_by}
use Rattle.pd_regrowth_law.proofs.ExpandLemmas.{given_same, text_went}
use Rattle.pd_regrowth_law.proofs.PartLemmas.{same_names, one_listed, one_alone}

-- ---- what `tgl` names

pub toggle_named : (names : Names) (s : ℕ) (atoms : List Atom) → name_of names s ≡ codes "tgl"
    → named_by names (atom.Symbol s ∷ atoms) ≡ named.Kind (kind.Panel (toggle_of names (arguments_of atoms) (is_whole_text atoms)))
unfolding simple_kind listed_kind
toggle_named names s atoms e = ap (λ n. if bytes_eq n (codes "list") then list_named names s atoms else kind_or_abstraction s (word_kind names n atoms)) e

-- ---- what names a toggle

abbrev panel_of : Option Kind → Option Panel
panel_of (Some (kind.Panel p)) = Some p
panel_of _ = None

abbrev panel_in : Named → Option Panel
panel_in (named.Kind (kind.Panel p)) = Some p
panel_in _ = None

abbrev is_there : {A : Type 0} → Option A → Bool
is_there (Some a) = true
is_there None = false

none_never : {A : Type 0} (a : A) → None ≡ Some a → ⊥
none_never {A} a h = true≢false (sym (ap (λ (o : Option A). is_there o) h))

first_none : (o r : Option Kind) → panel_of o ≡ None → panel_of r ≡ None → panel_of (first_of o r) ≡ None
first_none (Some k) r h g = h
first_none None r h g = g

mapped_none : {A : Type 0} (f : A → Kind) (o : Option A) → ((a : A) → panel_of (Some (f a)) ≡ None) → panel_of (option_map f o) ≡ None
mapped_none f (Some a) h = h a
mapped_none f None h = refl

simple_none : (word : List ℕ) (args : List Atom) → panel_of (simple_kind word args) ≡ None
unfolding simple_kind
simple_none word args =
    first_none (option_map (λ a. kind.Arith a) (arith_named word args)) (control_kind word args) (mapped_none (λ a. kind.Arith a) (arith_named word args) (λ a. refl))
    (first_none (option_map (λ g. kind.Glue g) (glue_named word args)) (sounding_kind word args) (mapped_none (λ g. kind.Glue g) (glue_named word args) (λ g. refl))
    (first_none (option_map (λ t. kind.Tone t) (tone_named word args)) (option_map (λ s. kind.Signal s) (signal_named word args))
    (mapped_none (λ t. kind.Tone t) (tone_named word args) (λ t. refl)) (mapped_none (λ s. kind.Signal s) (signal_named word args) (λ s. refl))))

after_none : (o r : Option Kind) (p : Panel) → panel_of o ≡ None → panel_of (first_of o r) ≡ Some p → panel_of r ≡ Some p
after_none (Some k) r p h g = absurd (none_never p (sym h ∙ g))
after_none None r p h g = g

before_none : (o : Option Panel) (r : Option Kind) → panel_of r ≡ None → panel_of (first_of (option_map (λ p. kind.Panel p) o) r) ≡ o
before_none (Some p) r h = refl
before_none None r h = h

choice_none : (b c : Bool) (k l : Kind) (r : Option Kind) → panel_of (Some k) ≡ None → panel_of (Some l) ≡ None → panel_of r ≡ None
    → panel_of (if b then Some k else if c then Some l else r) ≡ None
choice_none true c k l r h g e = h
choice_none false true k l r h g e = g
choice_none false false k l r h g e = e

listed_panel : (names : Names) (word : List ℕ) (args : List Atom) (whole : Bool) → panel_of (listed_kind names word args whole) ≡ panel_named names word args whole
unfolding listed_kind
listed_panel names word args whole =
    before_none (panel_named names word args whole) (if bytes_eq word (codes "vline~") then Some kind.Vline else
    if bytes_eq word (codes "dac~") then Some (kind.Signal (signal.Dac (channels_of args))) else option_map (λ g. kind.Glue g) (listed_named names word args))
    (choice_none (bytes_eq word (codes "vline~")) (bytes_eq word (codes "dac~")) kind.Vline (kind.Signal (signal.Dac (channels_of args)))
    (option_map (λ g. kind.Glue g) (listed_named names word args)) refl refl (mapped_none (λ g. kind.Glue g) (listed_named names word args) (λ g. refl)))

abbrev is_toggle : Panel → Bool
is_toggle (panel.Tgl t) = true
is_toggle _ = false

some_same : {A : Type 0} (a b : A) → Some a ≡ Some b → a ≡ b
some_same {A} a b h = ap (λ (o : Option A). other a o) h
  where
    other : A → Option A → A
    other x (Some y) = y
    other x None = x

-- a text that names a toggle: `tgl`, and what stands behind it
pub record IsToggle (names : Names) (text : List Atom) (t : Toggle) : Type 0 where
  pub s : ℕ
  pub atoms : List Atom
  pub text_is : text ≡ atom.Symbol s ∷ atoms
  pub name : name_of names s ≡ codes "tgl"
  pub toggle : toggle_of names (arguments_of atoms) (is_whole_text atoms) ≡ panel.Tgl t

record ToggleBy (c : Bool) (q : Panel) (t : Toggle) : Type 0 where
  word : c ≡ true
  toggle : q ≡ panel.Tgl t

toggle_by : (b c : Bool) (x q : Panel) (t : Toggle) → is_toggle x ≡ false → (if b then Some x else if c then Some q else None) ≡ Some (panel.Tgl t) → ToggleBy c q t
toggle_by true c x q t e h = absurd (true≢false (sym (ap is_toggle (some_same x (panel.Tgl t) h)) ∙ e))
toggle_by false true x q t e h = record { word = refl; toggle = some_same q (panel.Tgl t) h }
toggle_by false false x q t e h = absurd (none_never (panel.Tgl t) h)

kind_in : (s : ℕ) (o : Option Kind) (p : Panel) → panel_in (kind_or_abstraction s o) ≡ Some p → panel_of o ≡ Some p
kind_in s None p h = absurd (none_never p h)
kind_in s (Some (kind.Panel q)) p h = h
kind_in s (Some k) p h = h

list_never : (foreign word : Bool) (s : ℕ) (k : Kind) (o : Option Kind) (p : Panel) → panel_of (Some k) ≡ None
    → panel_in (if word then (if foreign then named.Abstraction s else named.Kind k) else kind_or_abstraction s o) ≡ Some p → panel_of o ≡ Some p
list_never true true s k o p e h = absurd (none_never p h)
list_never false true s k o p e h = absurd (none_never p (sym (kind_none k e) ∙ h))
  where
    kind_none : (k : Kind) → panel_of (Some k) ≡ None → panel_in (named.Kind k) ≡ None
    kind_none (kind.Panel q) e = e
    kind_none k e = e
list_never foreign false s k o p e h = kind_in s o p h

pub names_toggle : (names : Names) (text : List Atom) (t : Toggle) → named_by names text ≡ named.Kind (kind.Panel (panel.Tgl t)) → IsToggle names text t
names_toggle names (atom.Symbol s ∷ atoms) t h =
    let word = name_of names s in
    let args = arguments_of atoms in
    let whole = is_whole_text atoms in
    let found = list_never (begins_foreign names atoms) (bytes_eq word (codes "list")) s (kind.Glue (list_of names args)) (word_kind names word atoms) (panel.Tgl t) refl (ap panel_in h) in
    let listed = after_none (simple_kind word args) (listed_kind names word args whole) (panel.Tgl t) (simple_none word args) found in
    let g = toggle_by (bytes_eq word (codes "bng")) (bytes_eq word (codes "tgl")) (button_of names args) (toggle_of names args whole) t refl
    (sym (listed_panel names word args whole) ∙ listed) in
    record { s = s; atoms = atoms; text_is = refl; name = same_bytes word (codes "tgl") g.word; toggle = g.toggle }
names_toggle names [] t h = absurd (none_never (panel.Tgl t) (ap panel_in h))
names_toggle names (atom.Number z ∷ atoms) t h = absurd (none_never (panel.Tgl t) (ap panel_in h))
names_toggle names (atom.Dollar n ∷ atoms) t h = absurd (none_never (panel.Tgl t) (ap panel_in h))
names_toggle names (atom.DollarSymbol s ∷ atoms) t h = absurd (none_never (panel.Tgl t) (ap panel_in h))
names_toggle names (atom.Comma ∷ atoms) t h = absurd (none_never (panel.Tgl t) (ap panel_in h))
names_toggle names (atom.Semi ∷ atoms) t h = absurd (none_never (panel.Tgl t) (ap panel_in h))

-- ---- a whole text with other values

abbrev panel_turned : ℤ → ℤ → Panel → Panel
panel_turned v o (panel.Tgl t) = panel.Tgl (turned v o t)
panel_turned v o p = p

abbrev head_of : List Atom → Atom
head_of [] = atom.Comma
head_of (a ∷ l) = a

-- the first so many, one by one
abbrev spread : ℕ → List Atom → List Atom
spread zero l = []
spread (suc n) l = head_of l ∷ spread n (drop 1 l)

spread_all : (n : ℕ) (l : List Atom) → length l ≡ n → spread n l ≡ l
spread_all zero [] h = refl
spread_all zero (a ∷ l) h = absurd (some (length l) h)
  where
    some : (k : ℕ) → suc k ≡ zero → ⊥
    some k h = omega (arith, h)
spread_all (suc n) [] h = absurd (none n h)
  where
    none : (k : ℕ) → zero ≡ suc k → ⊥
    none k h = omega (arith, h)
spread_all (suc n) (a ∷ l) h = ap (λ y. a ∷ y) (spread_all n l (less (length l) n h))
  where
    less : (j k : ℕ) → suc j ≡ suc k → j ≡ k
    less j k h = omega (arith, h)

all_kept : (l : List Atom) → list_all is_argument l ≡ true → arguments_of l ≡ l
all_kept [] h = refl
all_kept (atom.Number z ∷ l) h = ap (λ y. atom.Number z ∷ y) (all_kept l h)
all_kept (atom.Symbol s ∷ l) h = ap (λ y. atom.Symbol s ∷ y) (all_kept l h)
all_kept (atom.Dollar n ∷ l) h = ap (λ y. atom.Dollar n ∷ y) (all_kept l h)
all_kept (atom.DollarSymbol s ∷ l) h = ap (λ y. atom.DollarSymbol s ∷ y) (all_kept l h)
all_kept (atom.Comma ∷ l) h = absurd (true≢false (sym h))
all_kept (atom.Semi ∷ l) h = absurd (true≢false (sym h))

all_turned : (n : ℕ) (l : List Atom) (v o : ℤ) → list_all is_argument l ≡ true → list_all is_argument (take n l ++ last_two v o) ≡ true
all_turned zero l v o h = refl
all_turned (suc n) [] v o h = refl
all_turned (suc n) (a ∷ l) v o h =
    ap (λ b. b && list_all is_argument (take n l ++ last_two v o)) (and_left (is_argument a) (list_all is_argument l) h)
    ∙ all_turned n l v o (and_right (is_argument a) (list_all is_argument l) h)

count_is : (n k : ℕ) → (n == k) ≡ true → n ≡ k
count_is n k h = eqb-true n k h

pub toggle_turned : (names : Names) (atoms : List Atom) (v o : ℤ) → is_whole_text atoms ≡ true
    → toggle_of names (arguments_of (take 12 atoms ++ last_two v o)) (is_whole_text (take 12 atoms ++ last_two v o))
    ≡ panel_turned v o (toggle_of names (arguments_of atoms) (is_whole_text atoms))
toggle_turned names atoms v o whole =
    let all = and_left (list_all is_argument atoms) (length atoms == 14) whole in
    let long : length atoms ≡ 14 = count_is (length atoms) 14 (and_right (list_all is_argument atoms) (length atoms == 14) whole) in
    let still = all_turned 12 atoms v o all in
    let same = spread_all 14 atoms long in
    let count : (length (take 12 atoms ++ last_two v o) == 14) ≡ true =
    subst (λ l. (length (take 12 l ++ last_two v o) == 14) ≡ true) same refl in
    ap (λ l. toggle_of names l (is_whole_text (take 12 atoms ++ last_two v o))) (all_kept (take 12 atoms ++ last_two v o) still)
    ∙ ap (λ b. toggle_of names (take 12 atoms ++ last_two v o) (b && (length (take 12 atoms ++ last_two v o) == 14))) still
    ∙ ap (λ b. toggle_of names (take 12 atoms ++ last_two v o) b) count
    ∙ subst (λ l. toggle_of names (take 12 l ++ last_two v o) true ≡ panel_turned v o (toggle_of names l true)) same refl
    ∙ ap (λ b. panel_turned v o (toggle_of names atoms b)) (sym whole)
    ∙ ap (λ l. panel_turned v o (toggle_of names l (is_whole_text atoms))) (sym (all_kept atoms all))

abbrev whole_in : Panel → Bool
whole_in (panel.Tgl t) = t.is_whole
whole_in _ = false

-- a text that names a toggle, with another value and another other value, names the toggle that has those
pub turned_named : (names : Names) (text : List Atom) (t : Toggle) (v o : ℤ) → t.is_whole ≡ true → named_by names text ≡ named.Kind (kind.Panel (panel.Tgl t))
    → named_by names (take 13 text ++ last_two v o) ≡ named.Kind (kind.Panel (panel.Tgl (turned v o t)))
turned_named names text t v o whole h =
    let g = names_toggle names text t h in
    ap (λ l. named_by names (take 13 l ++ last_two v o)) g.text_is
    ∙ toggle_named names g.s (take 12 g.atoms ++ last_two v o) g.name
    ∙ ap (λ p. named.Kind (kind.Panel p)) (toggle_turned names g.atoms v o (ap whole_in g.toggle ∙ whole) ∙ ap (panel_turned v o) g.toggle)

-- ---- its expansion

pub text_turned : (own : ℕ) (args : List Atom) (n : ℕ) (l : List Atom) (names : Names) (text : List Atom) (v o : ℤ) → text_expanded own args l names ≡ given text names
    → text_expanded own args (take n l ++ last_two v o) names ≡ given (take n text ++ last_two v o) names
unfolding text_expanded expanded
text_turned own args zero l names text v o h = refl
text_turned own args (suc n) [] names text v o h = ap (λ y. given (take (suc n) y ++ last_two v o) names) (given_same [] text names names h)
text_turned own args (suc n) (a ∷ l) names text v o h =
    let t = text_went own args a l names text names h in
    let same : t.between ≡ names = same_names names t.between t.extends t.onward in
    let one : expanded names a own args ≡ given t.one names = t.one_is ∙ ap (given t.one) same in
    let rest : text_expanded own args l names ≡ given t.rest names = subst (λ y. text_expanded own args l y ≡ given t.rest names) same t.rest_is in
    ap (λ (y : Outcome Expanded). outcome_then y (λ e more. outcome_then (text_expanded own args (take n l ++ last_two v o) more) (λ bs all. given (e.atom ∷ bs) all))) one
    ∙ ap (λ (y : Outcome (List Atom)). outcome_then y (λ bs all. given (t.one.atom ∷ bs) all)) (text_turned own args n l names t.rest v o rest)
    ∙ ap (λ y. given (take (suc n) y ++ last_two v o) names) t.all_is

-- ---- what makes a toggle

abbrev kind_made : Result Making Stop → Option Kind
kind_made (Ok (Plain k fault)) = Some k
kind_made _ = None

file_none : (b : Bool) (s : ℕ) (p : Page) → panel_of (kind_made (Ok (if b then unmade TooDeep else File s p))) ≡ None
file_none true s p = refl
file_none false s p = refl

answer_none : (left s : ℕ) (o : Option Answer) → panel_of (kind_made (answer_made left s o)) ≡ None
answer_none left s None = refl
answer_none left s (Some Absent) = refl
answer_none left s (Some (Bad n)) = refl
answer_none left s (Some (Found d)) = file_none (nat_lt left (levels d.root.boxes + 1)) s d.root

abstraction_none : (b c : Bool) (m n : Making) (r : Result Making Stop) → panel_of (kind_made (Ok m)) ≡ None → panel_of (kind_made (Ok n)) ≡ None → panel_of (kind_made r) ≡ None
    → panel_of (kind_made (if b then Ok m else if c then Ok n else r)) ≡ None
abstraction_none true c m n r h g e = h
abstraction_none false true m n r h g e = g
abstraction_none false false m n r h g e = e

nothing_none : (text : List Atom) → panel_of (kind_made (Ok (nothing_made text))) ≡ None
nothing_none [] = refl
nothing_none (a ∷ text) = refl

object_panel : (lib : ℕ → Option Answer) (root : List ℕ) (left : ℕ) (a : Around) (names : Names) (text : List Atom) (n : Named) (p : Panel) (fault : Option Fault)
    → object_made lib root left a names text n ≡ Ok (Plain (kind.Panel p) fault) → n ≡ named.Kind (kind.Panel p)
object_panel lib root left a names text (named.Kind k) p fault h = ap named.Kind (some_same k (kind.Panel p) (ap kind_made h))
object_panel lib root left a names text (named.Abstraction s) p fault h =
    absurd (none_never p (sym (abstraction_none (is_inside root a names s) (has_slash (name_of names s)) (unmade InsideItself) (unmade Unknown) (answer_made left s (lib s))
    refl refl (answer_none left s (lib s))) ∙ ap (λ r. panel_of (kind_made r)) h))
object_panel lib root left a names text named.Nothing p fault h =
    absurd (none_never p (sym (nothing_none text) ∙ ap (λ r. panel_of (kind_made r)) h))

-- ---- a toggle grows again

abbrev is_leaf : Trees → Bool
is_leaf (Leaf c rest) = true
is_leaf _ = false

abbrev leaf_cell : Cell → Trees → Cell
leaf_cell d (Leaf c rest) = c
leaf_cell d _ = d

record LeafMade (text : List Atom) (m : Making) (w : Stock) (c : Cell) (v : Stock) : Type 0 where
  text_is : text ≡ c.text
  making : m ≡ Plain c.kind c.fault
  stays : w ≡ v

leaf_made : (inner : Inner) (a : Around) (e : Entry) (text : List Atom) (m : Making) (w : Stock) (c : Cell) (v : Stock)
    → box_made inner a e text m w ≡ gives (Leaf c Done) v → LeafMade text m w c v
leaf_made inner a e text (Plain k fault) w c v h =
    let box = Leaf (cell_of e.head text k fault) Done in
    let is : cell_of e.head text k fault ≡ c = ap (leaf_cell c) (gives_same box (Leaf c Done) w v h) in
    record {
      text_is = ap (λ (y : Cell). y.text) is;
      making = ap (λ (y : Cell). Plain y.kind y.fault) is;
      stays = gives_stock box (Leaf c Done) w v h;
    }
leaf_made inner a e text Subpatch w c v h =
    let g = chain (receiver_brought a.is_top text w) (λ _ u. canvas_grown inner a e.page e.head text u) (Leaf c Done) v h in
    absurd (true≢false (sym (ap is_leaf (canvas_went inner a e.page e.head text g.stock (Leaf c Done) v g.next).tree_is)))
leaf_made inner a e text (File s p) w c v h =
    let args = arguments_of (drop 1 text) in
    let g = chain (numbered w) (λ z u. canvas_grown inner (around_instance a z s args) p e.head text u) (Leaf c Done) v h in
    absurd (true≢false (sym (ap is_leaf (canvas_went inner (around_instance a g.value s args) p e.head text g.stock (Leaf c Done) v g.next).tree_is)))

-- a step that gives this and brings no name
outcome_is : (o : Outcome (List Atom)) (w : Stock) (text : List Atom) → named_step o w ≡ gives text w → o ≡ given text w.names
outcome_is o w text h =
    let g = named_went o w text w h in
    ap (λ r. record { answer = r; names = o.names }) g.answer ∙ ap (given text) (ap (λ (y : Stock). y.names) g.stock)

-- what an object that holds no canvas went through
record LeafWent (lib : ℕ → Option Answer) (root : List ℕ) (left : ℕ) (a : Around) (c : Cell) (v : Stock) : Type 0 where
  text_is : text_expanded a.zero a.arguments c.head.text v.names ≡ given c.text v.names
  made_is : object_made lib root left a v.names c.text (named_by v.names c.text) ≡ Ok (Plain c.kind c.fault)

leaf_went : (lib : ℕ → Option Answer) (root : List ℕ) (left : ℕ) (inner : Inner) (a : Around) (c : Cell) (w v : Stock) → c.head.form ≡ Obj → counted w ≡ gives tt v
    → box_grown lib root left inner a (record { head = c.head; page = empty_page }) w ≡ gives (Leaf c Done) v → LeafWent lib root left a c v
leaf_went lib root left inner a c w v is counted_is h =
    let e : Entry = record { head = c.head; page = empty_page } in
    let b = box_went lib root left inner a e w (Leaf c Done) v h in
    let start : b.start ≡ v = gives_stock tt tt b.start v (sym b.counted_is ∙ counted_is) in
    let m = leaf_made inner a e b.text b.making b.named c v b.box_is in
    record {
      text_is = outcome_is (text_expanded a.zero a.arguments c.head.text v.names) v c.text
          (ap (λ f. if is_expanded f then named_step (text_expanded a.zero a.arguments c.head.text v.names) v else gives c.head.text v) (sym is)
          ∙ ap (own_text a c.head) (sym start) ∙ b.text_is ∙ ap (λ y. gives y b.named) m.text_is ∙ ap (gives c.text) m.stays);
      made_is = ap (λ f. made lib root left a v.names f c.text) (sym is) ∙ ap (λ y. made lib root left a v.names c.head.form y) (sym m.text_is)
          ∙ ap (λ (y : Stock). made lib root left a y.names c.head.form b.text) (sym m.stays) ∙ b.made_is ∙ ap (λ y. Ok y) m.making;
    }

pub toggle_regrows : (s : Site) (c : Cell) (k : Head) (t : Toggle) (v o : ℤ) → c.head.form ≡ Obj → k.form ≡ Obj → c.kind ≡ kind.Panel (panel.Tgl t)
    → t.is_whole ≡ true → k.text ≡ take 13 c.head.text ++ last_two v o
    → LeafFollows s c (cell_of k (take 13 c.text ++ last_two v o) (kind.Panel (panel.Tgl (turned v o t))) None)
toggle_regrows s c k t v o is other kind_is whole text left h =
    let a = s.around in
    let inner = inner_of s.lib s.root left in
    let e : Entry = record { head = c.head; page = empty_page } in
    let d : Entry = record { head = k; page = empty_page } in
    let new = take 13 c.text ++ last_two v o in
    let one = one_alone s left e (Leaf c Done) h in
    one_listed s left d (Leaf (cell_of k new (kind.Panel (panel.Tgl (turned v o t))) None) Done) (λ names2 more room x.
    let n = weight (Leaf c Done) + room in
    let w = stock names2 more n in
    let v0 = stock names2 more room in
    let counted_is : counted w ≡ gives tt v0 = counted_by names2 more n room (omega arith) in
    let g = leaf_went s.lib s.root left inner a c w v0 is counted_is (one names2 more room x) in
    let named_is = object_panel s.lib s.root left a names2 c.text (named_by names2 c.text) (panel.Tgl t) c.fault (g.made_is ∙ ap (λ y. Ok (Plain y c.fault)) kind_is) in
    let new_named = turned_named names2 c.text t v o whole named_is in
    let after : Shape → List Atom → Stock → Step Trees = λ f l u. goes_on (made s.lib s.root left a u.names f l) u (λ y z. box_made inner a d l y z) in
    ap (λ y. y >>= (λ _ u. own_text a k u >>= after k.form)) counted_is
    ∙ ap (λ f. (if is_expanded f then named_step (text_expanded a.zero a.arguments k.text names2) v0 else gives k.text v0) >>= after f) other
    ∙ ap (λ l. named_step (text_expanded a.zero a.arguments l names2) v0 >>= after Obj) text
    ∙ ap (λ y. named_step y v0 >>= after Obj) (text_turned a.zero a.arguments 13 c.head.text names2 c.text v o g.text_is)
    ∙ ap (λ y. goes_on (object_made s.lib s.root left a names2 new y) v0 (λ m z. box_made inner a d new m z)) new_named)
