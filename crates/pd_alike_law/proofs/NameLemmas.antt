-- What grows owns the same names in each table that goes on.
use Rattle.std.proofs.Common.{◌≡◌, ℕ, zero, suc, ◌+◌, ◌<◌, Bool, true, false, ◌&&◌, List, [], ◌∷◌, ◌++◌, drop, length, slice_get, Option, Some, None, IfSome, Result, Ok, Err, cond, if◌then◌else◌, nat_lt, bytes_eq, codes, refl, sym, ap, ◌∙◌, subst}
use Rattle.std.specs.Prelude.{option_map, option_and_then, position}
use Rattle.std.specs.List.{AllByRecursion}
use Rattle.pd_atom.specs.declared.Atom.{Atom}
use Rattle.pd_atom.specs.declared.Atom.TheVariants as atom
use Rattle.pd_atom.specs.Atoms.{IsOf}
use Rattle.pd_atom.specs.Names.{Names, given, name_of, Extends, longest, interned}
use Rattle.pd_name.specs.declared.Class.TheVariants.{Receiver}
use Rattle.pd_object.specs.declared.kinds.Kind.{Kind}
use Rattle.pd_object.specs.declared.kinds.Kind.TheVariants as kind
use Rattle.pd_object.specs.declared.kinds.Glue.{Glue}
use Rattle.pd_object.specs.declared.kinds.Signal.TheVariants as signal
use Rattle.pd_object.specs.declared.kinds.Named.{Named}
use Rattle.pd_object.specs.declared.kinds.Named.TheVariants as named
use Rattle.pd_naming.specs.Naming.{first_of, symbol_in, name_at, arguments_of, plain_named, timed_named, addressed_named, listed_named, glue_named, arith_named, tone_named, signal_named, sounding_kind, control_kind, panel_named, simple_kind, listed_kind, word_kind, is_whole_text, channels_of, kind_or_abstraction, begins_foreign, list_of_word, list_of, list_named, named_by}
use Rattle.pd_canvas.specs.Pages.{Shape, Obj, Msg, Comment, FloatBox, SymbolBox, Sub, Array, Other, Head, Page, Entry, elements_of}
use Rattle.pd_canvas.specs.Proper.{levels}
use Rattle.pd_library.specs.declared.answers.Answer.{Answer}
use Rattle.pd_library.specs.declared.answers.Answer.TheVariants.{Found, Absent, Bad}
use Rattle.pd_tree.specs.declared.rows.Fault.TheVariants.{Unknown, InsideItself, TooDeep}
use Rattle.pd_tree.specs.declared.rows.Sheet.{Sheet}
use Rattle.pd_tree.specs.Trees.{Cell, Trees, Done, Leaf, Holder, Tree, join}
use Rattle.pd_grove.specs.TextOrder.{is_sub, placed_in_order}
use Rattle.pd_bind.specs.Naming.{owned, symbol_named, unless_dash, receive_name, glue_owned, canvas_symbol, first_symbol, subpatch_symbol, owned_by_kind, owned_by}
use Rattle.pd_growth.specs.declared.growing.Stop.{Stop}
use Rattle.pd_growth.specs.Steps.{Stock, Step, gives, numbered, brought, ◌>>=◌, named_step}
use Rattle.pd_growth.specs.Making.{Around, Making, Plain, Subpatch, File, unmade, is_inside, has_slash, answer_made, nothing_made, object_made, made}
use Rattle.pd_growth.specs.Growth.{Inner, cell_of, canvas_grown, receiver_bytes, second_named, receiver_named, brought_if, receiver_brought, around_instance, box_made, box_grown, boxes_grown, without_ending, around_root, grown}
use Rattle.pd_regrowth_law.specs.Regrowth.{inner_of}
use Rattle.pd_regrowth_law.specs.Suits.{AreOf, TextsOf, IsEntryOf, AreEntriesOf, IsLibraryOf, IsAroundOf}
use Rattle.pd_regrowth_law.proofs.StepLemmas.{no_boxes, page_is, gives_same, gives_stock, chain, box_went, boxes_went, named_went, extends_on, counted_takes, numbered_takes, brought_takes}
use Rattle.pd_regrowth_law.proofs.TakeLemmas.{text_takes, receiver_takes, canvas_went, InnerTakes, box_takes, boxes_take, inner_takes, page_takes, patch_went}
use Rattle.pd_regrowth_law.proofs.ExpandLemmas.{name_stays, below_more, are_of_more, place_stays, has_place}
use Rattle.pd_regrowth_law.proofs.NamingLemmas.{arguments_are_of}
use Rattle.pd_regrowth_law.proofs.AgainLemmas.{texts_more, entries_more, entries_of, library_more, around_more, around_of, IsFileOf, made_of, own_text_of}
use Rattle.pd_alike_law.specs.Alike.{OwnAlike}
use Rattle.pd_alike_law.proofs.SoundLemmas.{no_canvas}

-- ---- kinds that own the same whatever the table

-- what holds of a value, where there is one
record Holds {X : Type 0} (P : X → Type 0) (o : Option X) : Type 0 where
  is : IfSome o P

none : {X : Type 0} {P : X → Type 0} → Holds P None
none = record { is = tt }

some : {X : Type 0} {P : X → Type 0} (x : X) → P x → Holds P (Some x)
some x h = record { is = h }

if_one : {X : Type 0} (P : X → Type 0) (b : Bool) (x y : X) → P x → P y → P (cond b x y)
if_one P true x y h k = h
if_one P false x y h k = k

pick : {X : Type 0} {P : X → Type 0} (word w : List ℕ) (x : X) (rest : Option X) → P x → Holds P rest → Holds P (cond (bytes_eq word w) (Some x) rest)
pick {X} {P} word w x rest h k = if_one (Holds P) (bytes_eq word w) (Some x) rest (some x h) k

first_in : {X : Type 0} {P : X → Type 0} (x y : Option X) → Holds P x → Holds P y → Holds P (first_of x y)
first_in (Some a) y h k = h
first_in None y h k = k

any_mapped : {X Y : Type 0} {Q : Y → Type 0} (f : X → Y) (o : Option X) → ((x : X) → Q (f x)) → Holds Q (option_map f o)
any_mapped f None h = record { is = tt }
any_mapped f (Some x) h = some (f x) (h x)

mapped : {X Y : Type 0} {P : X → Type 0} {Q : Y → Type 0} (f : X → Y) (o : Option X) → ((x : X) → P x → Q (f x)) → Holds P o → Holds Q (option_map f o)
mapped f None h k = record { is = tt }
mapped f (Some x) h k = some (f x) (h x k.is)

record SteadyGlue (g : Glue) : Type 0 where
  is : (a b : Names) → glue_owned a g ≡ glue_owned b g

record SteadyKind (k : Kind) : Type 0 where
  is : (a b : Names) (top : Bool) (c : Cell) → owned_by_kind a top c k ≡ owned_by_kind b top c k

module _ (w : List ℕ) (args : List Atom) where
  plain_steady : Holds SteadyGlue (plain_named w args)
  plain_steady =
      (pick w (codes "bang") _ _ (record { is = λ a b. refl })
      (pick w (codes "b") _ _ (record { is = λ a b. refl })
      (pick w (codes "float") _ _ (record { is = λ a b. refl })
      (pick w (codes "f") _ _ (record { is = λ a b. refl })
      (pick w (codes "int") _ _ (record { is = λ a b. refl })
      (pick w (codes "i") _ _ (record { is = λ a b. refl })
      (pick w (codes "moses") _ _ (record { is = λ a b. refl })
      (pick w (codes "spigot") _ _ (record { is = λ a b. refl })
      (pick w (codes "swap") _ _ (record { is = λ a b. refl })
      (pick w (codes "change") _ _ (record { is = λ a b. refl }) none))))))))))

  timed_steady : Holds SteadyGlue (timed_named w args)
  timed_steady =
      (pick w (codes "until") _ _ (record { is = λ a b. refl })
      (pick w (codes "loadbang") _ _ (record { is = λ a b. refl })
      (pick w (codes "metro") _ _ (record { is = λ a b. refl })
      (pick w (codes "delay") _ _ (record { is = λ a b. refl })
      (pick w (codes "del") _ _ (record { is = λ a b. refl })
      (pick w (codes "timer") _ _ (record { is = λ a b. refl })
      (pick w (codes "random") _ _ (record { is = λ a b. refl })
      (pick w (codes "inlet") _ _ (record { is = λ a b. refl })
      (pick w (codes "outlet") _ _ (record { is = λ a b. refl }) none)))))))))

  addressed_steady : Holds SteadyGlue (addressed_named w args)
  addressed_steady =
      (pick w (codes "symbol") _ _ (record { is = λ a b. refl })
      (pick w (codes "send") _ _ (record { is = λ a b. refl })
      (pick w (codes "s") _ _ (record { is = λ a b. refl })
      (pick w (codes "receive") _ _ (record { is = λ a b. refl })
      (pick w (codes "r") _ _ (record { is = λ a b. refl })
      (pick w (codes "table") _ _ (record { is = λ a b. refl })
      (pick w (codes "tabread") _ _ (record { is = λ a b. refl })
      (pick w (codes "tabwrite") _ _ (record { is = λ a b. refl }) none))))))))

  listed_steady : (names : Names) → Holds SteadyGlue (listed_named names w args)
  listed_steady names =
      (pick w (codes "trigger") _ _ (record { is = λ a b. refl })
      (pick w (codes "t") _ _ (record { is = λ a b. refl })
      (pick w (codes "pack") _ _ (record { is = λ a b. refl })
      (pick w (codes "unpack") _ _ (record { is = λ a b. refl })
      (pick w (codes "route") _ _ (record { is = λ a b. refl })
      (pick w (codes "select") _ _ (record { is = λ a b. refl })
      (pick w (codes "sel") _ _ (record { is = λ a b. refl })
      (pick w (codes "print") _ _ (record { is = λ a b. refl }) none))))))))

  of_glue : (o : Option Glue) → Holds SteadyGlue o → Holds SteadyKind (option_map (λ g. kind.Glue g) o)
  of_glue o h = mapped (λ g. kind.Glue g) o (λ g k. record { is = λ a b top c. k.is a b }) h

  glue_steady : Holds SteadyGlue (glue_named w args)
  glue_steady =
      first_in (plain_named w args) (first_of (timed_named w args) (addressed_named w args)) plain_steady
      (first_in (timed_named w args) (addressed_named w args) timed_steady addressed_steady)

  sounds_steady : Holds SteadyKind (sounding_kind w args)
  sounds_steady =
      first_in (option_map (λ t. kind.Tone t) (tone_named w args)) (option_map (λ s. kind.Signal s) (signal_named w args))
      (any_mapped (λ t. kind.Tone t) (tone_named w args) (λ x. record { is = λ a b top c. refl }))
      (any_mapped (λ s. kind.Signal s) (signal_named w args) (λ x. record { is = λ a b top c. refl }))

  simple_steady : Holds SteadyKind (simple_kind w args)
  unfolding simple_kind
  simple_steady =
      first_in (option_map (λ x. kind.Arith x) (arith_named w args)) (control_kind w args)
      (any_mapped (λ x. kind.Arith x) (arith_named w args) (λ x. record { is = λ a b top c. refl }))
      (first_in (option_map (λ g. kind.Glue g) (glue_named w args)) (sounding_kind w args) (of_glue (glue_named w args) glue_steady) sounds_steady)

  behind_steady : (names : Names) (whole : Bool) → Holds SteadyKind (listed_kind names w args whole)
  unfolding listed_kind
  behind_steady names whole =
      first_in (option_map (λ p. kind.Panel p) (panel_named names w args whole))
      (cond (bytes_eq w (codes "vline~")) (Some kind.Vline) (cond (bytes_eq w (codes "dac~")) (Some (kind.Signal (signal.Dac (channels_of args))))
      (option_map (λ g. kind.Glue g) (listed_named names w args))))
      (any_mapped (λ p. kind.Panel p) (panel_named names w args whole) (λ x. record { is = λ a b top c. refl }))
      (pick w (codes "vline~") kind.Vline _ (record { is = λ a b top c. refl })
      (pick w (codes "dac~") (kind.Signal (signal.Dac (channels_of args))) _ (record { is = λ a b top c. refl }) (of_glue (listed_named names w args) (listed_steady names))))

NamedSteady : Named → Type 0
NamedSteady (named.Kind k) = SteadyKind k
NamedSteady (named.Abstraction s) = Unit {0}
NamedSteady named.Nothing = Unit {0}

of_kind : (k : Kind) → SteadyKind k → NamedSteady (named.Kind k)
unfolding NamedSteady
of_kind k h = h

of_file : (s : ℕ) → NamedSteady (named.Abstraction s)
unfolding NamedSteady
of_file s = tt

of_nothing : NamedSteady named.Nothing
unfolding NamedSteady
of_nothing = tt

kind_from : (k : Kind) → NamedSteady (named.Kind k) → SteadyKind k
unfolding NamedSteady
kind_from k h = h

kind_steady : (s : ℕ) (o : Option Kind) → Holds SteadyKind o → NamedSteady (kind_or_abstraction s o)
kind_steady s None h = of_file s
kind_steady s (Some k) h = of_kind k h.is

pick_one : (word w : List ℕ) (g rest : Glue) → SteadyGlue g → SteadyGlue rest → SteadyGlue (cond (bytes_eq word w) g rest)
pick_one word w g rest h k = if_one SteadyGlue (bytes_eq word w) g rest h k

list_word_steady : (w : List ℕ) (args all : List Atom) → SteadyGlue (list_of_word w args all)
list_word_steady w args all =
    pick_one w (codes "append") _ _ (record { is = λ a b. refl })
    (pick_one w (codes "prepend") _ _ (record { is = λ a b. refl })
    (pick_one w (codes "split") _ _ (record { is = λ a b. refl })
    (pick_one w (codes "trim") _ _ (record { is = λ a b. refl })
    (pick_one w (codes "length") _ _ (record { is = λ a b. refl }) (record { is = λ a b. refl })))))

list_steady : (names : Names) (args : List Atom) → SteadyGlue (list_of names args)
list_steady names (atom.Symbol s ∷ args) = list_word_steady (name_of names s) args (atom.Symbol s ∷ args)
list_steady names [] = record { is = λ a b. refl }
list_steady names (atom.Number z ∷ args) = record { is = λ a b. refl }
list_steady names (atom.Dollar n ∷ args) = record { is = λ a b. refl }
list_steady names (atom.DollarSymbol s ∷ args) = record { is = λ a b. refl }
list_steady names (atom.Comma ∷ args) = record { is = λ a b. refl }
list_steady names (atom.Semi ∷ args) = record { is = λ a b. refl }

lists_steady : (names : Names) (s : ℕ) (atoms : List Atom) → NamedSteady (list_named names s atoms)
lists_steady names s atoms =
    let k = kind.Glue (list_of names (arguments_of atoms)) in
    if_one NamedSteady (begins_foreign names atoms) (named.Abstraction s) (named.Kind k) (of_file s)
    (of_kind k (record { is = λ a b top c. (list_steady names (arguments_of atoms)).is a b }))

words_steady : (names : Names) (s : ℕ) (atoms : List Atom) → NamedSteady (kind_or_abstraction s (word_kind names (name_of names s) atoms))
words_steady names s atoms =
    let w = name_of names s in
    let args = arguments_of atoms in
    kind_steady s (word_kind names w atoms)
    (first_in (simple_kind w args) (listed_kind names w args (is_whole_text atoms)) (simple_steady w args) (behind_steady w args names (is_whole_text atoms)))

named_steady : (names : Names) (text : List Atom) → NamedSteady (named_by names text)
named_steady names (atom.Symbol s ∷ atoms) =
    if_one NamedSteady (bytes_eq (name_of names s) (codes "list")) (list_named names s atoms) (kind_or_abstraction s (word_kind names (name_of names s) atoms))
    (lists_steady names s atoms) (words_steady names s atoms)
named_steady names [] = of_nothing
named_steady names (atom.Number z ∷ args) = of_nothing
named_steady names (atom.Dollar n ∷ args) = of_nothing
named_steady names (atom.DollarSymbol s ∷ args) = of_nothing
named_steady names (atom.Comma ∷ args) = of_nothing
named_steady names (atom.Semi ∷ args) = of_nothing

abbrev OfSome : {X : Type 0} → (X → Type 0) → Option X → Type 0
OfSome P None = Unit {0}
OfSome P (Some x) = P x

-- ---- receive names

symbol_of : (names : Names) (o : Option Atom) → OfSome (IsOf names) o → OfSome (λ s. s < length names) (symbol_in o)
symbol_of names None h = tt
symbol_of names (Some (atom.Symbol s)) h = h
symbol_of names (Some (atom.Number z)) h = tt
symbol_of names (Some (atom.Dollar n)) h = tt
symbol_of names (Some (atom.DollarSymbol s)) h = tt
symbol_of names (Some atom.Comma) h = tt
symbol_of names (Some atom.Semi) h = tt

atom_at : (names : Names) (args : List Atom) (i : ℕ) → AreOf names args → OfSome (IsOf names) (slice_get args i)
atom_at names [] i h = tt
atom_at names (a ∷ args) zero h = h.0
atom_at names (a ∷ args) (suc i) h = atom_at names args i h.1

dash_stays : (names more : Names) (o : Option ℕ) → Extends names more → OfSome (λ s. s < length names) o → unless_dash more o ≡ unless_dash names o
dash_stays names more None x h = refl
dash_stays names more (Some s) x h = ap (λ n. if bytes_eq n (codes "-") then None else Some s) (name_stays names more x s h)

receive_stays : (names more : Names) (text : List Atom) → Extends names more → AreOf names text → receive_name more text ≡ receive_name names text
receive_stays names more text x h =
    dash_stays names more (name_at (arguments_of text) 5) x
    (symbol_of names (slice_get (arguments_of text) 5) (atom_at names (arguments_of text) 5 (arguments_are_of names text h)))

-- ---- what a box makes

-- a box owns the same in each table that goes on
abbrev pub Steady : Names → Bool → Cell → Type 0
Steady names top c = (more : Names) → Extends names more → owned_by more top c ≡ owned_by names top c

steady_more : (names names2 : Names) (top : Bool) (c : Cell) → Extends names names2 → Steady names top c → Steady names2 top c
steady_more names names2 top c x h = λ more y. h more (extends_on names names2 more x y) ∙ sym (h names2 x)

abbrev MakingSteady : Names → Bool → Head → List Atom → Making → Type 0
MakingSteady names top h text (Plain k fault) = Steady names top (cell_of h text k fault)
MakingSteady names top h text Subpatch = is_sub h.form ≡ true
MakingSteady names top h text (File s p) = is_sub h.form ≡ false

abbrev OkAnd : (Making → Type 0) → Result Making Stop → Type 0
OkAnd P (Ok m) = P m
OkAnd P (Err e) = Unit {0}

module _ (lib : ℕ → Option Answer) (root : List ℕ) (left : ℕ) (a : Around) (names : Names) (h : Head) (text : List Atom) where
  abbrev Good : Making → Type 0
  Good m = MakingSteady names a.is_top h text m

  file_steady : (b : Bool) (s : ℕ) (p : Page) → is_sub h.form ≡ false → Good (if b then unmade TooDeep else File s p)
  file_steady true s p e = λ more x. refl
  file_steady false s p e = e

  answer_steady : (s : ℕ) (o : Option Answer) → is_sub h.form ≡ false → OkAnd Good (answer_made left s o)
  answer_steady s None e = tt
  answer_steady s (Some Absent) e = λ more x. refl
  answer_steady s (Some (Bad n)) e = λ more x. refl
  answer_steady s (Some (Found d)) e = file_steady (nat_lt left (levels d.root.boxes + 1)) s d.root e

  nothing_steady : (l : List Atom) → Good (nothing_made l)
  nothing_steady [] = λ more x. refl
  nothing_steady (y ∷ l) = λ more x. refl

  object_steady : (n : Named) → NamedSteady n → is_sub h.form ≡ false → OkAnd Good (object_made lib root left a names text n)
  object_steady (named.Kind k) s e = λ more x. (kind_from k s).is more names a.is_top (cell_of h text k None)
  object_steady (named.Abstraction s) n e =
      if_one (OkAnd Good) (is_inside root a names s) (Ok (unmade InsideItself))
      (cond (has_slash (name_of names s)) (Ok (unmade Unknown)) (answer_made left s (lib s))) (λ more x. refl)
      (if_one (OkAnd Good) (has_slash (name_of names s)) (Ok (unmade Unknown)) (answer_made left s (lib s)) (λ more x. refl) (answer_steady s (lib s) e))
  object_steady named.Nothing n e = nothing_steady text

  made_steady : (f : Shape) → h.form ≡ f → AreOf names text → OkAnd Good (made lib root left a names f text)
  made_steady Obj e o = object_steady (named_by names text) (named_steady names text) (ap is_sub e)
  made_steady Msg e o = λ more x. refl
  made_steady Comment e o = λ more x. refl
  made_steady FloatBox e o = λ more x. ap (owned Receiver) (receive_stays names more text x o)
  made_steady SymbolBox e o = λ more x. ap (owned Receiver) (receive_stays names more text x o)
  made_steady Sub e o = ap is_sub e
  made_steady (Array values) e o = λ more x. refl
  made_steady (Other s) e o = λ more x. refl

-- ---- the receivers of subpatches

second_stays : (names names2 : Names) → Extends names names2 → (text : List Atom) → AreOf names text → second_named names2 text ≡ second_named names text
second_stays names names2 x [] h = refl
second_stays names names2 x (atom.Symbol s ∷ text) h = ap (λ n. Some (receiver_bytes n)) (name_stays names names2 x s h.0)
second_stays names names2 x (atom.Number z ∷ text) h = refl
second_stays names names2 x (atom.Dollar n ∷ text) h = refl
second_stays names names2 x (atom.DollarSymbol s ∷ text) h = refl
second_stays names names2 x (atom.Comma ∷ text) h = refl
second_stays names names2 x (atom.Semi ∷ text) h = refl

receiver_stays : (names names2 : Names) → Extends names names2 → (text : List Atom) → AreOf names text → receiver_named names2 text ≡ receiver_named names text
receiver_stays names names2 x [] h = refl
receiver_stays names names2 x (atom.Symbol s ∷ text) h =
    ap (λ n. if bytes_eq n (codes "pd") then second_named names2 text else None) (name_stays names names2 x s h.0)
    ∙ ap (λ o. if bytes_eq (name_of names s) (codes "pd") then o else None) (second_stays names names2 x text h.1)
receiver_stays names names2 x (atom.Number z ∷ text) h = refl
receiver_stays names names2 x (atom.Dollar n ∷ text) h = refl
receiver_stays names names2 x (atom.DollarSymbol s ∷ text) h = refl
receiver_stays names names2 x (atom.Comma ∷ text) h = refl
receiver_stays names names2 x (atom.Semi ∷ text) h = refl

second_symbol : (names : Names) (atoms : List Atom)
    → option_and_then (λ s. canvas_symbol names (name_of names s)) (first_symbol atoms) ≡ option_and_then (symbol_named names) (second_named names atoms)
second_symbol names [] = refl
second_symbol names (atom.Symbol s ∷ text) = refl
second_symbol names (atom.Number z ∷ text) = refl
second_symbol names (atom.Dollar n ∷ text) = refl
second_symbol names (atom.DollarSymbol s ∷ text) = refl
second_symbol names (atom.Comma ∷ text) = refl
second_symbol names (atom.Semi ∷ text) = refl

-- a subpatch hears at the receiver that growth names
sub_symbol : (names : Names) (text : List Atom) → subpatch_symbol names text ≡ option_and_then (symbol_named names) (receiver_named names text)
sub_symbol names [] = refl
sub_symbol names (atom.Symbol s ∷ text) = by (bytes_eq (name_of names s) (codes "pd"))
  where
    by : (b : Bool) → option_and_then (λ r. canvas_symbol names (name_of names r)) (if b then first_symbol text else None)
        ≡ option_and_then (symbol_named names) (if b then second_named names text else None)
    by true = second_symbol names text
    by false = refl
sub_symbol names (atom.Number z ∷ text) = refl
sub_symbol names (atom.Dollar n ∷ text) = refl
sub_symbol names (atom.DollarSymbol s ∷ text) = refl
sub_symbol names (atom.Comma ∷ text) = refl
sub_symbol names (atom.Semi ∷ text) = refl

abbrev symbol_if : Bool → Names → List ℕ → Option ℕ
symbol_if long names name = if long then None else position (bytes_eq name) names

abbrev brought_short : Bool → List ℕ → Stock → Step (Unit {0})
brought_short long name w = if long then gives tt w else (named_step (interned w.names name) w >>= (λ _ u. gives tt u))

-- a name that was brought is found
found_by : (long : Bool) (name : List ℕ) (w v : Stock) (y : Unit {0}) (names more : Names) → Extends v.names names → Extends names more
    → brought_short long name w ≡ gives y v → symbol_if long more name ≡ symbol_if long names name
found_by true name w v y names more x z e = refl
found_by false name w v y names more x z e =
    let c = chain (named_step (interned w.names name) w) (λ _ u. gives tt u) y v e in
    let o = interned w.names name in
    let g = named_went o w c.value c.stock c.first in
    let names_is : o.names ≡ v.names = ap (λ (s : Stock). s.names) (g.stock ∙ gives_stock tt y c.stock v c.next) in
    let whole : o ≡ given c.value v.names = ap (λ r. record { answer = r; names = o.names }) g.answer ∙ ap (given c.value) names_is in
    let at = has_place w.names name c.value v.names whole in
    let here : position (bytes_eq name) names ≡ Some c.value = place_stays v.names names name c.value x at.place in
    place_stays names more name c.value z here ∙ sym here

found : (name : List ℕ) (w v : Stock) (y : Unit {0}) (names more : Names) → Extends v.names names → Extends names more → brought name w ≡ gives y v
    → symbol_named more name ≡ symbol_named names name
found name w v y names more x z e = found_by (nat_lt longest (length name)) name w v y names more x z e

found_if : (o : Option (List ℕ)) (w v : Stock) (y : Unit {0}) (names more : Names) → Extends v.names names → Extends names more → brought_if o w ≡ gives y v
    → option_and_then (symbol_named more) o ≡ option_and_then (symbol_named names) o
found_if None w v y names more x z e = refl
found_if (Some name) w v y names more x z e = found name w v y names more x z e

-- a subpatch owns the same once its receiver was brought
sub_steady : (top : Bool) (h : Head) (text : List Atom) (w v : Stock) (y : Unit {0}) (names : Names) → AreOf w.names text → Extends w.names names → Extends v.names names
    → receiver_brought top text w ≡ gives y v → Steady names top (cell_of h text kind.Canvas None)
sub_steady false h text w v y names o u x e = λ more z. refl
sub_steady true h text w v y names o u x e = λ more z.
    ap (λ s. if is_sub h.form then owned Receiver s else None)
    (sub_symbol more text ∙ ap (option_and_then (symbol_named more)) (receiver_stays w.names more (extends_on w.names names more u z) text o)
    ∙ found_if (receiver_named w.names text) w v y names more x z e
    ∙ sym (sub_symbol names text ∙ ap (option_and_then (symbol_named names)) (receiver_stays w.names names u text o)))

-- ---- growth

abbrev AreSteady : Names → Bool → Trees → Type 0
AreSteady names top Done = Unit {0}
AreSteady names top (Leaf c rest) = Steady names top c × AreSteady names top rest
AreSteady names top (Holder c s inner rest) = Steady names top c × AreSteady names (top && is_sub c.head.form) inner × AreSteady names top rest

trees_steady : (names names2 : Names) (top : Bool) → Extends names names2 → (t : Trees) → AreSteady names top t → AreSteady names2 top t
trees_steady names names2 top x Done h = tt
trees_steady names names2 top x (Leaf c rest) h = (steady_more names names2 top c x h.0, trees_steady names names2 top x rest h.1)
trees_steady names names2 top x (Holder c s inner rest) h =
    (steady_more names names2 top c x h.0, trees_steady names names2 (top && is_sub c.head.form) x inner h.1, trees_steady names names2 top x rest h.2)

join_steady : (names : Names) (top : Bool) (t r : Trees) → AreSteady names top t → AreSteady names top r → AreSteady names top (join t r)
join_steady names top Done r h k = k
join_steady names top (Leaf c t) r h k = (h.0, join_steady names top t r h.1 k)
join_steady names top (Holder c s inner t) r h k = (h.0, h.1, join_steady names top t r h.2 k)

and_true : (b : Bool) → (b && true) ≡ b
and_true true = refl
and_true false = refl

and_false : (b : Bool) → (b && false) ≡ false
and_false true = refl
and_false false = refl

abbrev InnerSteady : (ℕ → Option Answer) → Inner → Type 0
InnerSteady lib inner = (a : Around) (p : Page) (w : Stock) (t : Trees) (v : Stock) → IsLibraryOf w.names lib → IsAroundOf w.names a
    → AreEntriesOf w.names (elements_of p) → inner a p w ≡ gives t v → AreSteady v.names a.is_top t

-- a box that holds a canvas, which is grown under what is around its own boxes
canvas_steady : (lib : ℕ → Option Answer) (inner : Inner) (top : Bool) (a : Around) (p : Page) (h : Head) (text : List Atom) (w : Stock) (t : Trees) (v : Stock)
    → InnerSteady lib inner → IsLibraryOf w.names lib → IsAroundOf w.names a → AreEntriesOf w.names (elements_of p) → (top && is_sub h.form) ≡ a.is_top
    → Steady v.names top (cell_of h text kind.Canvas None) → canvas_grown inner a p h text w ≡ gives t v → AreSteady v.names top t
canvas_steady lib inner top a p h text w t v k l i es same own e =
    let g = canvas_went inner a p h text w t v e in
    subst (AreSteady v.names top) g.tree_is (own, subst (λ b. AreSteady v.names b g.boxes) (sym same) (k a p w g.boxes v l i es g.boxes_is), tt)

making_steady : (lib : ℕ → Option Answer) (inner : Inner) (a : Around) (e : Entry) (text : List Atom) (m : Making) (w : Stock) (t : Trees) (v : Stock) → InnerTakes inner
    → InnerSteady lib inner → IsLibraryOf w.names lib → IsAroundOf w.names a → AreOf w.names text → TextsOf w.names e.page.boxes → IsFileOf w.names m
    → MakingSteady w.names a.is_top e.head text m → box_made inner a e text m w ≡ gives t v → AreSteady v.names a.is_top t
making_steady lib inner a e text (Plain k fault) w t v q g l i o b f s h =
    let leaf = Leaf (cell_of e.head text k fault) Done in
    subst (AreSteady v.names a.is_top) (gives_same leaf t w v h)
    (subst (λ (x : Stock). Steady x.names a.is_top (cell_of e.head text k fault)) (gives_stock leaf t w v h) s, tt)
making_steady lib inner a e text Subpatch w t v q g l i o b f s h =
    let c = chain (receiver_brought a.is_top text w) (λ _ u. canvas_grown inner a e.page e.head text u) t v h in
    let up = (receiver_takes a.is_top text w c.stock c.value c.first).names in
    let went = canvas_went inner a e.page e.head text c.stock t v c.next in
    let on = (q a e.page c.stock went.boxes v went.boxes_is).names in
    canvas_steady lib inner a.is_top a e.page e.head text c.stock t v g (library_more w.names c.stock.names up lib l) (around_more w.names c.stock.names up a i)
    (entries_of c.stock.names e.page.boxes (texts_more w.names c.stock.names up e.page.boxes b)) (ap (λ x. a.is_top && x) s ∙ and_true a.is_top)
    (sub_steady a.is_top e.head text w c.stock c.value v.names o (extends_on w.names c.stock.names v.names up on) on c.first) c.next
making_steady lib inner a e text (File n p) w t v q g l i o b f s h =
    let args = arguments_of (drop 1 text) in
    let c = chain (numbered w) (λ z u. canvas_grown inner (around_instance a z n args) p e.head text u) t v h in
    let up = (numbered_takes w c.stock c.value c.first).names in
    let text_is = are_of_more w.names c.stock.names up text o in
    canvas_steady lib inner a.is_top (around_instance a c.value n args) p e.head text c.stock t v g (library_more w.names c.stock.names up lib l)
    (around_of c.stock.names a c.value n text (around_more w.names c.stock.names up a i) (below_more w.names c.stock.names up n f.0) text_is)
    (entries_of c.stock.names p.boxes (texts_more w.names c.stock.names up p.boxes f.1)) (ap (λ x. a.is_top && x) s ∙ and_false a.is_top)
    (λ more x. no_canvas more a.is_top (cell_of e.head text kind.Canvas None) s ∙ sym (no_canvas v.names a.is_top (cell_of e.head text kind.Canvas None) s)) c.next

box_steady : (lib : ℕ → Option Answer) (root : List ℕ) (left : ℕ) (inner : Inner) (a : Around) (e : Entry) (w : Stock) (t : Trees) (v : Stock) → InnerTakes inner
    → InnerSteady lib inner → IsLibraryOf w.names lib → IsAroundOf w.names a → IsEntryOf w.names e → box_grown lib root left inner a e w ≡ gives t v
    → AreSteady v.names a.is_top t
box_steady lib root left inner a e w t v q g l i o h =
    let b = box_went lib root left inner a e w t v h in
    let up_start = (counted_takes w b.start b.counted_is).names in
    let up = extends_on w.names b.start.names b.named.names up_start (text_takes a e.head b.start b.text b.named b.text_is).names in
    let l_named = library_more w.names b.named.names up lib l in
    let text = own_text_of a e.head b.start b.named b.text (around_more w.names b.start.names up_start a i) (are_of_more w.names b.start.names up_start e.head.text o.text) b.text_is in
    making_steady lib inner a e b.text b.making b.named t v q g l_named (around_more w.names b.named.names up a i) text (texts_more w.names b.named.names up e.page.boxes o.inner)
    (made_of lib root left a b.named.names e.head.form b.text b.making l_named text b.made_is)
    (subst (OkAnd (MakingSteady b.named.names a.is_top e.head b.text)) b.made_is (made_steady lib root left a b.named.names e.head b.text e.head.form refl text)) b.box_is

boxes_steady : (lib : ℕ → Option Answer) (root : List ℕ) (left : ℕ) (inner : Inner) (a : Around) (es : List Entry) (w : Stock) (t : Trees) (v : Stock) → InnerTakes inner
    → InnerSteady lib inner → IsLibraryOf w.names lib → IsAroundOf w.names a → AreEntriesOf w.names es → boxes_grown lib root left inner a es w ≡ gives t v
    → AreSteady v.names a.is_top t
boxes_steady lib root left inner a [] w t v q g l i o h =
    subst (AreSteady v.names a.is_top) (gives_same Done t w v (sym (no_boxes lib root left inner a w) ∙ h)) tt
boxes_steady lib root left inner a (e ∷ es) w t v q g l i o h =
    let b = boxes_went lib root left inner a e es w t v h in
    let up = (box_takes lib root left inner a e w b.box b.between q b.box_is).names in
    let on = (boxes_take lib root left inner a es b.between b.rest v q b.rest_is).names in
    subst (AreSteady v.names a.is_top) b.all_is
    (join_steady v.names a.is_top b.box b.rest
    (trees_steady b.between.names v.names a.is_top on b.box (box_steady lib root left inner a e w b.box b.between q g l i o.0 b.box_is))
    (boxes_steady lib root left inner a es b.between b.rest v q g (library_more w.names b.between.names up lib l) (around_more w.names b.between.names up a i)
    (entries_more w.names b.between.names up es o.1) b.rest_is))

inner_steady : (lib : ℕ → Option Answer) (root : List ℕ) (left : ℕ) → InnerSteady lib (inner_of lib root left)
inner_steady lib root zero a p w t v l i o h = subst (AreSteady v.names a.is_top) (gives_same Done t w v h) tt
inner_steady lib root (suc n) a p w t v l i o h =
    boxes_steady lib root n (inner_of lib root n) a (elements_of p) w t v (inner_takes lib root n) (inner_steady lib root n) l i o (sym (page_is lib root n a p w) ∙ h)

all_append : {X : Type 0} (P : X → Type 0) (xs ys : List X) → AllByRecursion P xs → AllByRecursion P ys → AllByRecursion P (xs ++ ys)
all_append P [] ys h k = k
all_append P (x ∷ xs) ys h k = (h.0, all_append P xs ys h.1 k)

all_alike : (names more : Names) (top : Bool) (t : Trees) → Extends names more → AreSteady names top t
    → AllByRecursion (λ p. owned_by more p.is_top p.cell ≡ owned_by names p.is_top p.cell) (placed_in_order top t)
all_alike names more top Done x h = tt
all_alike names more top (Leaf c rest) x h = (h.0 more x, all_alike names more top rest x h.1)
all_alike names more top (Holder c s inner rest) x h = (
  h.0 more x,
  all_append (λ p. owned_by more p.is_top p.cell ≡ owned_by names p.is_top p.cell) (placed_in_order (top && is_sub c.head.form) inner) (placed_in_order top rest)
      (all_alike names more (top && is_sub c.head.form) inner x h.1) (all_alike names more top rest x h.2),
)

pub grown_alike : (lib : ℕ → Option Answer) (name : List ℕ) (p : Page) (w v : Stock) (t : Tree) (more : Names) → IsLibraryOf w.names lib → TextsOf w.names p.boxes
    → grown lib name p w ≡ gives t v → Extends v.names more → OwnAlike v.names more name t.boxes
grown_alike lib name p w v t more l o h x =
    let g = patch_went lib name p w t v h in
    let up = extends_on w.names g.start.names g.named.names (numbered_takes w g.start g.own g.own_is).names (brought_takes (receiver_bytes name) g.start g.named tt g.name_is).names in
    let on = (page_takes lib (without_ending name) 255 (around_root g.own) p g.named v g.boxes g.boxes_is).names in
    let steady : AreSteady v.names true g.boxes =
    boxes_steady lib (without_ending name) 255 (inner_of lib (without_ending name) 255) (around_root g.own) (elements_of p) g.named g.boxes v
    (inner_takes lib (without_ending name) 255) (inner_steady lib (without_ending name) 255) (library_more w.names g.named.names up lib l)
    (record { arguments = tt; inside = tt }) (entries_of g.named.names p.boxes (texts_more w.names g.named.names up p.boxes o))
    (sym (page_is lib (without_ending name) 255 (around_root g.own) p g.named) ∙ g.boxes_is) in
    record {
      root = found (receiver_bytes name) g.start g.named tt v.names more on x g.name_is;
      boxes = subst (λ (y : Tree). AllByRecursion (λ q. owned_by more q.is_top q.cell ≡ owned_by v.names q.is_top q.cell) (placed_in_order true y.boxes)) g.tree_is
          (all_alike v.names more true g.boxes x steady);
    }

-- a box that grew in a canvas, with all that lies in it, owns the same in each table that goes on
pub box_alike : (lib : ℕ → Option Answer) (root : List ℕ) (left : ℕ) (a : Around) (e : Entry) (w v : Stock) (t : Trees) (more : Names) → IsLibraryOf w.names lib → IsAroundOf w.names a
    → IsEntryOf w.names e → box_grown lib root left (inner_of lib root left) a e w ≡ gives t v → Extends v.names more
    → AllByRecursion (λ p. owned_by more p.is_top p.cell ≡ owned_by v.names p.is_top p.cell) (placed_in_order a.is_top t)
box_alike lib root left a e w v t more l i o h x =
    all_alike v.names more a.is_top t x (box_steady lib root left (inner_of lib root left) a e w t v (inner_takes lib root left) (inner_steady lib root left) l i o h)

-- ---- one box without a canvas

is_leaf : Trees → Bool
is_leaf (Leaf c rest) = true
is_leaf _ = false

no_leaf : (c : Cell) (s : Sheet) (inner rest : Trees) (d : Cell) → Holder c s inner rest ≡ Leaf d Done → ⊥
unfolding is_leaf
no_leaf c s inner rest d e = let never : false ≡ true = ap is_leaf e in (cc)

cell_in : Cell → Trees → Cell
cell_in d (Leaf c rest) = c
cell_in d _ = d

leaf_same : (c d : Cell) → Leaf c Done ≡ Leaf d Done → c ≡ d
unfolding cell_in
leaf_same c d e = ap (cell_in d) e

leaf_made : (lib : ℕ → Option Answer) (root : List ℕ) (left : ℕ) (inner : Inner) (a : Around) (e : Entry) (text : List Atom) (m : Making) (w v : Stock) (c : Cell)
    → made lib root left a w.names e.head.form text ≡ Ok m → AreOf v.names c.text → box_made inner a e text m w ≡ gives (Leaf c Done) v → Steady v.names a.is_top c
leaf_made lib root left inner a e text (Plain k fault) w v c is o h =
    let leaf = Leaf (cell_of e.head text k fault) Done in
    let cell : cell_of e.head text k fault ≡ c = leaf_same (cell_of e.head text k fault) c (gives_same leaf (Leaf c Done) w v h) in
    let stock : w ≡ v = gives_stock leaf (Leaf c Done) w v h in
    let own : AreOf w.names text = subst (λ (x : Stock). AreOf x.names text) (sym stock) (subst (λ (x : Cell). AreOf v.names x.text) (sym cell) o) in
    let steady : MakingSteady w.names a.is_top e.head text (Plain k fault) =
    subst (OkAnd (MakingSteady w.names a.is_top e.head text)) is (made_steady lib root left a w.names e.head text e.head.form refl own) in
    subst (λ (x : Cell). Steady v.names a.is_top x) cell (subst (λ (x : Stock). Steady x.names a.is_top (cell_of e.head text k fault)) stock steady)
leaf_made lib root left inner a e text Subpatch w v c is o h =
    let x = chain (receiver_brought a.is_top text w) (λ _ u. canvas_grown inner a e.page e.head text u) (Leaf c Done) v h in
    let went = canvas_went inner a e.page e.head text x.stock (Leaf c Done) v x.next in
    absurd (no_leaf _ _ _ _ c went.tree_is)
leaf_made lib root left inner a e text (File n p) w v c is o h =
    let args = arguments_of (drop 1 text) in
    let x = chain (numbered w) (λ z u. canvas_grown inner (around_instance a z n args) p e.head text u) (Leaf c Done) v h in
    let went = canvas_went inner (around_instance a x.value n args) p e.head text x.stock (Leaf c Done) v x.next in
    absurd (no_leaf _ _ _ _ c went.tree_is)

-- such a box owns the same in each table that goes on, where its text is of the table
pub leaf_steady : (lib : ℕ → Option Answer) (root : List ℕ) (left : ℕ) (inner : Inner) (a : Around) (e : Entry) (w v : Stock) (c : Cell)
    → AreOf v.names c.text → box_grown lib root left inner a e w ≡ gives (Leaf c Done) v → Steady v.names a.is_top c
leaf_steady lib root left inner a e w v c o h =
    let b = box_went lib root left inner a e w (Leaf c Done) v h in
    leaf_made lib root left inner a e b.text b.making b.named v c b.made_is o b.box_is
