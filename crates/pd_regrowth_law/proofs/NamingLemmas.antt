-- What a text names, and what a box makes, is the same in a table that goes on.
use Rattle.std.proofs.Common.{◌≡◌, ℕ, zero, suc, ◌<◌, Bool, true, false, List, [], ◌∷◌, length, map, Option, Some, None, option_map, if◌then◌else◌, bytes_eq, codes, refl, ap, ◌∙◌, subst, true≢false}
use Rattle.pd_atom.specs.declared.Atom.{Atom}
use Rattle.pd_atom.specs.declared.Atom.TheVariants as atom
use Rattle.pd_atom.specs.Names.{Names, name_of, Extends}
use Rattle.pd_atom.specs.Atoms.{IsOf}
use Rattle.pd_object.specs.declared.kinds.Kind.{Kind}
use Rattle.pd_object.specs.declared.kinds.Kind.TheVariants as kind
use Rattle.pd_object.specs.declared.kinds.Named.{Named}
use Rattle.pd_object.specs.declared.kinds.Named.TheVariants as named
use Rattle.pd_object.specs.declared.kinds.Glue.{Glue}
use Rattle.pd_object.specs.declared.kinds.Glue.TheVariants as glue
use Rattle.pd_object.specs.declared.kinds.Panel.{Panel}
use Rattle.pd_object.specs.declared.kinds.Signal.TheVariants as signal
use Rattle.pd_object.specs.declared.kinds.Spelling.TheVariants.{Whole, Short}
use Rattle.pd_object.specs.declared.kinds.Slot.{Slot}
use Rattle.pd_object.specs.declared.kinds.Slot.TheVariants as slot
use Rattle.pd_object.specs.declared.kinds.Trigger.{Trigger}
use Rattle.pd_object.specs.declared.kinds.Trigger.TheVariants as trigger
use Rattle.std.specs.Prelude.{pos, ◌==◌}
use Rattle.std.proofs.lemmas.Bool.{eq-eqb}
use Rattle.pd_regrowth_law.specs.Asking.{begins_with, is_canvas}
use Rattle.pd_naming.specs.Naming.{arith_named, tone_named, signal_named, sounding_kind, control_kind, glue_named, channels_of, panel_named, listed_named, first_of, simple_kind, listed_kind, is_whole_text, arguments_of, trigger_letter, first_letter, trigger_of, slot_of, or_default, triggers_of, slots_of, choices_of, panel_name, button_of, toggle_of, word_kind, kind_or_abstraction, is_foreign_word, begins_foreign, list_of_word, list_of, list_named, object_named, named_by}
use Rattle.pd_regrowth_law.specs.Suits.{AreOf}
use Rattle.pd_regrowth_law.proofs.ExpandLemmas.{name_stays}

-- ---- lists of what the arguments stand for

abbrev Stays : {A : Type 0} → (Names → Atom → A) → Type 0
Stays f = (names names2 : Names) → Extends names names2 → (a : Atom) → IsOf names a → f names2 a ≡ f names a

all_stay : {A : Type 0} (f : Names → Atom → A) → Stays f → (names names2 : Names) → Extends names names2 → (args : List Atom) → AreOf names args
    → map (f names2) args ≡ map (f names) args
all_stay f k names names2 x [] h = refl
all_stay f k names names2 x (a ∷ args) h =
    ap (λ y. y ∷ map (f names2) args) (k names names2 x a h.0) ∙ ap (λ ys. f names a ∷ ys) (all_stay f k names names2 x args h.1)

trigger_stays : Stays trigger_of
trigger_stays names names2 x (atom.Number z) h = refl
trigger_stays names names2 x (atom.Symbol s) h = ap (λ n. trigger_letter (first_letter n)) (name_stays names names2 x s h)
trigger_stays names names2 x (atom.Dollar n) h = refl
trigger_stays names names2 x (atom.DollarSymbol s) h = refl
trigger_stays names names2 x atom.Comma h = refl
trigger_stays names names2 x atom.Semi h = refl

slot_stays : Stays slot_of
slot_stays names names2 x (atom.Number z) h = refl
slot_stays names names2 x (atom.Symbol s) h =
    ap (λ n. if first_letter n == 115 then slot.Symbol else slot.Number (pos 0)) (name_stays names names2 x s h)
slot_stays names names2 x (atom.Dollar n) h = refl
slot_stays names names2 x (atom.DollarSymbol s) h = refl
slot_stays names names2 x atom.Comma h = refl
slot_stays names names2 x atom.Semi h = refl

pub arguments_are_of : (names : Names) (atoms : List Atom) → AreOf names atoms → AreOf names (arguments_of atoms)
arguments_are_of names [] h = tt
arguments_are_of names (atom.Number z ∷ atoms) h = (h.0, arguments_are_of names atoms h.1)
arguments_are_of names (atom.Symbol s ∷ atoms) h = (h.0, arguments_are_of names atoms h.1)
arguments_are_of names (atom.Dollar n ∷ atoms) h = (h.0, arguments_are_of names atoms h.1)
arguments_are_of names (atom.DollarSymbol s ∷ atoms) h = (h.0, arguments_are_of names atoms h.1)
arguments_are_of names (atom.Comma ∷ atoms) h = arguments_are_of names atoms h.1
arguments_are_of names (atom.Semi ∷ atoms) h = arguments_are_of names atoms h.1

-- ---- names of panels

unless_stays : (names names2 : Names) → Extends names names2 → (args : List Atom) (i : ℕ) → AreOf names args → panel_name names2 args i ≡ panel_name names args i
unless_stays names names2 x [] i h = refl
unless_stays names names2 x (atom.Symbol s ∷ args) zero h =
    ap (λ n. if bytes_eq n (codes "empty") then None else Some s) (name_stays names names2 x s h.0)
unless_stays names names2 x (atom.Number z ∷ args) zero h = refl
unless_stays names names2 x (atom.Dollar n ∷ args) zero h = refl
unless_stays names names2 x (atom.DollarSymbol s ∷ args) zero h = refl
unless_stays names names2 x (atom.Comma ∷ args) zero h = refl
unless_stays names names2 x (atom.Semi ∷ args) zero h = refl
unless_stays names names2 x (a ∷ args) (suc i) h = unless_stays names names2 x args i h.1

button_stays : (names names2 : Names) → Extends names names2 → (args : List Atom) → AreOf names args → button_of names2 args ≡ button_of names args
button_stays names names2 x args h = rw (unless_stays names names2 x args 4 h, unless_stays names names2 x args 5 h, unless_stays names names2 x args 6 h) refl

toggle_stays : (names names2 : Names) → Extends names names2 → (args : List Atom) (whole : Bool) → AreOf names args → toggle_of names2 args whole ≡ toggle_of names args whole
toggle_stays names names2 x args whole h = rw (unless_stays names names2 x args 2 h, unless_stays names names2 x args 3 h, unless_stays names names2 x args 4 h) refl

panel_stays : (names names2 : Names) → Extends names names2 → (word : List ℕ) (args : List Atom) (whole : Bool) → AreOf names args
    → panel_named names2 word args whole ≡ panel_named names word args whole
panel_stays names names2 x word args whole h =
    ap (λ y. if bytes_eq word (codes "bng") then Some y else if bytes_eq word (codes "tgl") then Some (toggle_of names2 args whole) else None) (button_stays names names2 x args h)
    ∙ ap (λ y. if bytes_eq word (codes "bng") then Some (button_of names args) else if bytes_eq word (codes "tgl") then Some y else None) (toggle_stays names names2 x args whole h)

-- ---- kinds that keep lists

abbrev listed_by : List (Trigger) → List Slot → List ℕ → List Atom → Option Glue
listed_by triggers slots word args =
    if bytes_eq word (codes "trigger") then Some (glue.Trigger Whole triggers) else
    if bytes_eq word (codes "t") then Some (glue.Trigger Short triggers) else
    if bytes_eq word (codes "pack") then Some (glue.Pack slots) else
    if bytes_eq word (codes "unpack") then Some (glue.Unpack slots) else
    if bytes_eq word (codes "route") then Some (glue.Route (choices_of args)) else
    if bytes_eq word (codes "select") then Some (glue.Select Whole (choices_of args)) else
    if bytes_eq word (codes "sel") then Some (glue.Select Short (choices_of args)) else
    if bytes_eq word (codes "print") then Some (glue.Print args) else None

glue_stays : (names names2 : Names) → Extends names names2 → (word : List ℕ) (args : List Atom) → AreOf names args
    → listed_named names2 word args ≡ listed_named names word args
glue_stays names names2 x word args h =
    ap (λ ts. listed_by (or_default (trigger.Bang ∷ trigger.Bang ∷ []) ts) (slots_of names2 args) word args) (all_stay trigger_of trigger_stays names names2 x args h)
    ∙ ap (λ ss. listed_by (triggers_of names args) (or_default (slot.Number (pos 0) ∷ slot.Number (pos 0) ∷ []) ss) word args) (all_stay slot_of slot_stays names names2 x args h)

abbrev kind_by : Option Panel → Option Glue → List ℕ → List Atom → Option Kind
kind_by p g word args =
    first_of (option_map (λ y. kind.Panel y) p) (
    if bytes_eq word (codes "vline~") then Some kind.Vline else
    if bytes_eq word (codes "dac~") then Some (kind.Signal (signal.Dac (channels_of args))) else
    option_map (λ y. kind.Glue y) g)

listed_stays : (names names2 : Names) → Extends names names2 → (word : List ℕ) (args : List Atom) (whole : Bool) → AreOf names args
    → listed_kind names2 word args whole ≡ listed_kind names word args whole
unfolding listed_kind
listed_stays names names2 x word args whole h =
    ap (λ p. kind_by p (listed_named names2 word args) word args) (panel_stays names names2 x word args whole h)
    ∙ ap (λ g. kind_by (panel_named names word args whole) g word args) (glue_stays names names2 x word args h)

word_stays : (names names2 : Names) → Extends names names2 → (word : List ℕ) (atoms : List Atom) → AreOf names atoms
    → word_kind names2 word atoms ≡ word_kind names word atoms
word_stays names names2 x word atoms h =
    ap (first_of (simple_kind word (arguments_of atoms)))
    (listed_stays names names2 x word (arguments_of atoms) (is_whole_text atoms) (arguments_are_of names atoms h))

-- ---- `list`

foreign_stays : (names names2 : Names) → Extends names names2 → (atoms : List Atom) → AreOf names atoms → begins_foreign names2 atoms ≡ begins_foreign names atoms
foreign_stays names names2 x [] h = refl
foreign_stays names names2 x (atom.Symbol s ∷ atoms) h = ap is_foreign_word (name_stays names names2 x s h.0)
foreign_stays names names2 x (atom.Number z ∷ atoms) h = refl
foreign_stays names names2 x (atom.Dollar n ∷ atoms) h = refl
foreign_stays names names2 x (atom.DollarSymbol s ∷ atoms) h = refl
foreign_stays names names2 x (atom.Comma ∷ atoms) h = refl
foreign_stays names names2 x (atom.Semi ∷ atoms) h = refl

list_stays : (names names2 : Names) → Extends names names2 → (args : List Atom) → AreOf names args → list_of names2 args ≡ list_of names args
list_stays names names2 x [] h = refl
list_stays names names2 x (atom.Symbol s ∷ args) h = ap (λ n. list_of_word n args (atom.Symbol s ∷ args)) (name_stays names names2 x s h.0)
list_stays names names2 x (atom.Number z ∷ args) h = refl
list_stays names names2 x (atom.Dollar n ∷ args) h = refl
list_stays names names2 x (atom.DollarSymbol s ∷ args) h = refl
list_stays names names2 x (atom.Comma ∷ args) h = refl
list_stays names names2 x (atom.Semi ∷ args) h = refl

list_named_stays : (names names2 : Names) → Extends names names2 → (s : ℕ) (atoms : List Atom) → AreOf names atoms → list_named names2 s atoms ≡ list_named names s atoms
list_named_stays names names2 x s atoms h =
    ap (λ b. if b then named.Abstraction s else named.Kind (kind.Glue (list_of names2 (arguments_of atoms)))) (foreign_stays names names2 x atoms h)
    ∙ ap (λ g. if begins_foreign names atoms then named.Abstraction s else named.Kind (kind.Glue g))
    (list_stays names names2 x (arguments_of atoms) (arguments_are_of names atoms h))

-- ---- what a text names

object_stays : (names names2 : Names) → Extends names names2 → (s : ℕ) (atoms : List Atom) → s < length names → AreOf names atoms
    → object_named names2 s atoms ≡ object_named names s atoms
object_stays names names2 x s atoms low h =
    ap (λ n. if bytes_eq n (codes "list") then list_named names2 s atoms else kind_or_abstraction s (word_kind names2 n atoms)) (name_stays names names2 x s low)
    ∙ ap (λ y. if bytes_eq (name_of names s) (codes "list") then y else kind_or_abstraction s (word_kind names2 (name_of names s) atoms)) (list_named_stays names names2 x s atoms h)
    ∙ ap (λ k. if bytes_eq (name_of names s) (codes "list") then list_named names s atoms else kind_or_abstraction s k) (word_stays names names2 x (name_of names s) atoms h)

pub named_again : (names names2 : Names) → Extends names names2 → (text : List Atom) → AreOf names text → named_by names2 text ≡ named_by names text
named_again names names2 x [] h = refl
named_again names names2 x (atom.Symbol s ∷ atoms) h = object_stays names names2 x s atoms h.0 h.1
named_again names names2 x (atom.Number z ∷ atoms) h = refl
named_again names names2 x (atom.Dollar n ∷ atoms) h = refl
named_again names names2 x (atom.DollarSymbol s ∷ atoms) h = refl
named_again names names2 x (atom.Comma ∷ atoms) h = refl
named_again names names2 x (atom.Semi ∷ atoms) h = refl

-- no kind of an object is that of a box that holds a canvas
abbrev IsNoCanvas : Option Kind → Type 0
IsNoCanvas (Some k) = is_canvas k ≡ false
IsNoCanvas None = Unit {0}

first_no_canvas : (o p : Option Kind) → IsNoCanvas o → IsNoCanvas p → IsNoCanvas (first_of o p)
first_no_canvas (Some k) p h g = h
first_no_canvas None p h g = g

map_no_canvas : {X : Type 0} (f : X → Kind) → ((x : X) → is_canvas (f x) ≡ false) → (o : Option X) → IsNoCanvas (option_map f o)
map_no_canvas f h (Some x) = h x
map_no_canvas f h None = tt

if_no_canvas : (b : Bool) (k : Kind) (o : Option Kind) → is_canvas k ≡ false → IsNoCanvas o → IsNoCanvas (if b then Some k else o)
if_no_canvas true k o h g = h
if_no_canvas false k o h g = g

simple_no_canvas : (word : List ℕ) (args : List Atom) → IsNoCanvas (simple_kind word args)
unfolding simple_kind
simple_no_canvas word args =
    let signal = map_no_canvas (λ s. kind.Signal s) (λ s. refl) (signal_named word args) in
    let sounding = first_no_canvas (option_map (λ t. kind.Tone t) (tone_named word args)) (option_map (λ s. kind.Signal s) (signal_named word args))
    (map_no_canvas (λ t. kind.Tone t) (λ t. refl) (tone_named word args)) signal in
    let control = first_no_canvas (option_map (λ g. kind.Glue g) (glue_named word args)) (sounding_kind word args)
    (map_no_canvas (λ g. kind.Glue g) (λ g. refl) (glue_named word args)) sounding in
    first_no_canvas (option_map (λ a. kind.Arith a) (arith_named word args)) (control_kind word args)
    (map_no_canvas (λ a. kind.Arith a) (λ a. refl) (arith_named word args)) control

listed_no_canvas : (names : Names) (word : List ℕ) (args : List Atom) (whole : Bool) → IsNoCanvas (listed_kind names word args whole)
unfolding listed_kind
listed_no_canvas names word args whole =
    let glue = option_map (λ g. kind.Glue g) (listed_named names word args) in
    let dac = if bytes_eq word (codes "dac~") then Some (kind.Signal (signal.Dac (channels_of args))) else glue in
    first_no_canvas (option_map (λ p. kind.Panel p) (panel_named names word args whole)) (if bytes_eq word (codes "vline~") then Some kind.Vline else dac)
    (map_no_canvas (λ p. kind.Panel p) (λ p. refl) (panel_named names word args whole))
    (if_no_canvas (bytes_eq word (codes "vline~")) kind.Vline dac refl
    (if_no_canvas (bytes_eq word (codes "dac~")) (kind.Signal (signal.Dac (channels_of args))) glue refl
    (map_no_canvas (λ g. kind.Glue g) (λ g. refl) (listed_named names word args))))

-- a text that begins with a symbol names a kind of an object, or the abstraction of that name
abbrev NamesOnly : ℕ → Named → Type 0
NamesOnly s (named.Kind k) = is_canvas k ≡ false
NamesOnly s (named.Abstraction t) = s ≡ t
NamesOnly s named.Nothing = ⊥

kind_only : (s : ℕ) (o : Option Kind) → IsNoCanvas o → NamesOnly s (kind_or_abstraction s o)
kind_only s (Some k) h = h
kind_only s None h = refl

list_only : (s : ℕ) (b : Bool) (g : Glue) → NamesOnly s (if b then named.Abstraction s else named.Kind (kind.Glue g))
list_only s true g = refl
list_only s false g = refl

either_only : (s : ℕ) (b : Bool) (n m : Named) → NamesOnly s n → NamesOnly s m → NamesOnly s (if b then n else m)
either_only s true n m p q = p
either_only s false n m p q = q

object_only : (names : Names) (s : ℕ) (atoms : List Atom) → NamesOnly s (object_named names s atoms)
object_only names s atoms =
    let word = name_of names s in
    either_only s (bytes_eq word (codes "list")) (list_named names s atoms) (kind_or_abstraction s (word_kind names word atoms))
    (list_only s (begins_foreign names atoms) (list_of names (arguments_of atoms)))
    (kind_only s (word_kind names word atoms)
    (first_no_canvas (simple_kind word (arguments_of atoms)) (listed_kind names word (arguments_of atoms) (is_whole_text atoms))
    (simple_no_canvas word (arguments_of atoms)) (listed_no_canvas names word (arguments_of atoms) (is_whole_text atoms))))

nothing_never : (s : ℕ) → named.Nothing ≡ named.Abstraction s → ⊥
nothing_never s h = true≢false (ap is_nothing h)
  where
    is_nothing : Named → Bool
    is_nothing named.Nothing = true
    is_nothing _ = false

pub named_below : (names : Names) (text : List Atom) (s : ℕ) → AreOf names text → named_by names text ≡ named.Abstraction s → s < length names
named_below names [] s h e = absurd (nothing_never s e)
named_below names (atom.Symbol t ∷ atoms) s h e = subst (λ k. k < length names) (subst (NamesOnly t) e (object_only names t atoms)) h.0
named_below names (atom.Number z ∷ atoms) s h e = absurd (nothing_never s e)
named_below names (atom.Dollar n ∷ atoms) s h e = absurd (nothing_never s e)
named_below names (atom.DollarSymbol t ∷ atoms) s h e = absurd (nothing_never s e)
named_below names (atom.Comma ∷ atoms) s h e = absurd (nothing_never s e)
named_below names (atom.Semi ∷ atoms) s h e = absurd (nothing_never s e)

-- what a text names, and the name with which it begins
abbrev pub NamesBy : List Atom → Named → Type 0
NamesBy text (named.Kind k) = is_canvas k ≡ false
NamesBy text (named.Abstraction s) = begins_with s text ≡ true
NamesBy text named.Nothing = (name : ℕ) → begins_with name text ≡ false

only_by : (s : ℕ) (atoms : List Atom) (n : Named) → NamesOnly s n → NamesBy (atom.Symbol s ∷ atoms) n
only_by s atoms (named.Kind k) h = h
only_by s atoms (named.Abstraction t) h = eq-eqb s t h
only_by s atoms named.Nothing h = absurd h

pub names_by : (names : Names) (text : List Atom) → NamesBy text (named_by names text)
names_by names [] = λ name. refl
names_by names (atom.Symbol s ∷ atoms) = only_by s atoms (object_named names s atoms) (object_only names s atoms)
names_by names (atom.Number z ∷ atoms) = λ name. refl
names_by names (atom.Dollar n ∷ atoms) = λ name. refl
names_by names (atom.DollarSymbol t ∷ atoms) = λ name. refl
names_by names (atom.Comma ∷ atoms) = λ name. refl
names_by names (atom.Semi ∷ atoms) = λ name. refl
