-- A `dac~` that a text names has at most 1,024 channels, where the text has at most so many atoms.
use Rattle.std.proofs.Common.{arith, ◌≡◌, ℕ, pos, zero, suc, ◌+◌, ◌≤◌, ◌==◌, Bool, true, false, cond, List, [], ◌∷◌, length, map, filter, Option, Some, None, IfSome, option_map, refl, sym, ap, subst, ◌∙◌, bytes_eq, codes}
use Rattle.std.proofs.lemmas.List.{length-map}
use Rattle.pd_atom.specs.declared.Atom.{Atom}
use Rattle.pd_atom.specs.declared.Atom.TheVariants as atom
use Rattle.pd_atom.specs.Names.{Names, name_of}
use Rattle.pd_object.specs.declared.kinds.Channel.{Channel}
use Rattle.pd_object.specs.declared.kinds.Channel.TheVariants as channel
use Rattle.pd_object.specs.declared.kinds.Glue.{Glue}
use Rattle.pd_object.specs.declared.kinds.Kind.{Kind}
use Rattle.pd_object.specs.declared.kinds.Kind.TheVariants as kind
use Rattle.pd_object.specs.declared.kinds.Named.{Named}
use Rattle.pd_object.specs.declared.kinds.Named.TheVariants as named
use Rattle.pd_object.specs.declared.kinds.Signal.{Signal}
use Rattle.pd_object.specs.declared.kinds.Signal.TheVariants as signal
use Rattle.pd_object.specs.Ports.{IsSmallSignal}
use Rattle.pd_naming.specs.Naming.{first_of, is_argument, arguments_of, arith_named, glue_named, tone_named, signal_named, mixed_named, shaped_named, shared_named, or_default, channel_of, channels_of, sounding_kind, control_kind, simple_kind, panel_named, listed_named, listed_kind, word_kind, is_whole_text, kind_or_abstraction, begins_foreign, list_of, list_named, object_named, named_by}
use Rattle.pd_channels_law.specs.Channels.{HasFewChannels}

-- what holds of a value, where there is one
record Holds {A : Type 0} (P : A → Type 0) (o : Option A) : Type 0 where
  is : IfSome o P

none : {A : Type 0} {P : A → Type 0} → Holds P None
none = record { is = tt }

some : {A : Type 0} {P : A → Type 0} (x : A) → P x → Holds P (Some x)
some x h = record { is = h }

either : {A : Type 0} (P : A → Type 0) (b : Bool) (x y : A) → P x → P y → P (cond b x y)
either P true x y h k = h
either P false x y h k = k

pick : {A : Type 0} {P : A → Type 0} (word w : List ℕ) (x : A) (rest : Option A) → P x → Holds P rest → Holds P (cond (bytes_eq word w) (Some x) rest)
pick {A} {P} word w x rest h k = either (Holds P) (bytes_eq word w) (Some x) rest (some x h) k

first_in : {A : Type 0} {P : A → Type 0} (x y : Option A) → Holds P x → Holds P y → Holds P (first_of x y)
first_in (Some a) y h k = h
first_in None y h k = k

-- kinds that are no signal objects
each : {A : Type 0} {Q : Kind → Type 0} (f : A → Kind) (o : Option A) → ((x : A) → Q (f x)) → Holds Q (option_map f o)
each f None k = record { is = tt }
each f (Some x) k = some (f x) (k x)

mapped : {A : Type 0} {P : A → Type 0} {Q : Kind → Type 0} (f : A → Kind) (o : Option A) → ((x : A) → P x → Q (f x)) → Holds P o → Holds Q (option_map f o)
mapped f None k h = record { is = tt }
mapped f (Some x) k h = some (f x) (k x h.is)

-- arguments
filter_less : (p : Atom → Bool) (xs : List Atom) → length (filter p xs) ≤ length xs
filter_less p [] = omega arith
filter_less p (x ∷ xs) = let rest = filter_less p xs in less (p x) rest
  where
    less : (b : Bool) → length (filter p xs) ≤ length xs → length (cond b (x ∷ filter p xs) (filter p xs)) ≤ suc (length xs)
    less true h = omega (arith, h)
    less false h = omega (arith, h)

few_given : (n : ℕ) → 2 ≤ n → (cs : List Channel) → length cs ≤ n → length (or_default (channel.Left ∷ channel.Right ∷ []) cs) ≤ n
few_given n l [] h = l
few_given n l (c ∷ cs) h = h

pub few_channels : (args : List Atom) → length args ≤ 1024 → length (channels_of args) ≤ 1024
few_channels args h = let same = length-map args channel_of in few_given 1024 (omega arith) (map channel_of args) (omega (arith, same, h))

pub few_arguments : (atoms : List Atom) → length atoms ≤ 1024 → length (arguments_of atoms) ≤ 1024
few_arguments atoms h = let less = filter_less is_argument atoms in omega (arith, less, h)

module _ (names : Names) (word : List ℕ) (args : List Atom) (few : length args ≤ 1024) where
  mixed : Holds IsSmallSignal (mixed_named word args)
  mixed =
      (pick word (codes "+~") _ _ tt
      (pick word (codes "-~") _ _ tt
      (pick word (codes "*~") _ _ tt
      (pick word (codes "/~") _ _ tt
      (pick word (codes "max~") _ _ tt
      (pick word (codes "min~") _ _ tt
      (pick word (codes "abs~") _ _ tt
      (pick word (codes "wrap~") _ _ tt none))))))))

  shaped : Holds IsSmallSignal (shaped_named word args)
  shaped =
      (pick word (codes "sig~") _ _ tt
      (pick word (codes "clip~") _ _ tt
      (pick word (codes "line~") _ _ tt
      (pick word (codes "samphold~") _ _ tt
      (pick word (codes "lop~") _ _ tt
      (pick word (codes "hip~") _ _ tt
      (pick word (codes "snapshot~") _ _ tt
      (pick word (codes "inlet~") _ _ tt
      (pick word (codes "outlet~") _ _ tt none)))))))))

  shared : Holds IsSmallSignal (shared_named word args)
  shared =
      (pick word (codes "delwrite~") _ _ tt
      (pick word (codes "delread~") _ _ tt
      (pick word (codes "send~") _ _ tt
      (pick word (codes "s~") _ _ tt
      (pick word (codes "receive~") _ _ tt
      (pick word (codes "r~") _ _ tt
      (pick word (codes "throw~") _ _ tt
      (pick word (codes "catch~") _ _ tt
      (pick word (codes "tabread~") _ _ tt none)))))))))

  signals : Holds IsSmallSignal (signal_named word args)
  signals = first_in (mixed_named word args) (first_of (shaped_named word args) (shared_named word args)) mixed (first_in (shaped_named word args) (shared_named word args) shaped shared)

  simple_few : Holds HasFewChannels (simple_kind word args)
  unfolding simple_kind
  simple_few =
      first_in (option_map (λ a. kind.Arith a) (arith_named word args)) (control_kind word args) (each (λ a. kind.Arith a) (arith_named word args) (λ a. tt))
      (first_in (option_map (λ g. kind.Glue g) (glue_named word args)) (sounding_kind word args) (each (λ g. kind.Glue g) (glue_named word args) (λ g. tt))
      (first_in (option_map (λ t. kind.Tone t) (tone_named word args)) (option_map (λ s. kind.Signal s) (signal_named word args)) (each (λ t. kind.Tone t) (tone_named word args) (λ t. tt))
      (mapped (λ s. kind.Signal s) (signal_named word args) (λ s h. h) signals)))

  listed_few : (whole : Bool) → Holds HasFewChannels (listed_kind names word args whole)
  unfolding listed_kind
  listed_few whole =
      first_in (option_map (λ p. kind.Panel p) (panel_named names word args whole)) _ (each (λ p. kind.Panel p) (panel_named names word args whole) (λ p. tt))
      (pick word (codes "vline~") kind.Vline _ tt
      (pick word (codes "dac~") (kind.Signal (signal.Dac (channels_of args))) _ (few_channels args few)
      (each (λ g. kind.Glue g) (listed_named names word args) (λ g. tt))))

NamedFew : Named → Type 0
NamedFew (named.Kind k) = HasFewChannels k
NamedFew (named.Abstraction s) = Unit {0}
NamedFew named.Nothing = Unit {0}

found_few : (s : ℕ) (o : Option Kind) → Holds HasFewChannels o → NamedFew (kind_or_abstraction s o)
unfolding NamedFew
found_few s (Some k) h = h.is
found_few s None h = tt

object_few : (names : Names) (s : ℕ) (atoms : List Atom) → length atoms ≤ 1024 → NamedFew (object_named names s atoms)
unfolding NamedFew
object_few names s atoms h =
    let few : length (arguments_of atoms) ≤ 1024 = few_arguments atoms h in
    let word = name_of names s in
    either NamedFew (bytes_eq word (codes "list")) (list_named names s atoms) (kind_or_abstraction s (word_kind names word atoms))
    (either NamedFew (begins_foreign names atoms) (named.Abstraction s) (named.Kind (kind.Glue (list_of names (arguments_of atoms)))) tt tt)
    (found_few s (word_kind names word atoms)
    (first_in (simple_kind word (arguments_of atoms)) (listed_kind names word (arguments_of atoms) (is_whole_text atoms))
    (simple_few names word (arguments_of atoms) few) (listed_few names word (arguments_of atoms) few (is_whole_text atoms))))

named_all : (names : Names) (text : List Atom) → length text ≤ 1024 → NamedFew (named_by names text)
unfolding NamedFew
named_all names [] h = tt
named_all names (atom.Symbol s ∷ atoms) h = object_few names s atoms (omega (arith, h))
named_all names (a ∷ atoms) h = tt

pub named_few : (names : Names) (text : List Atom) (k : Kind) → length text ≤ 1024 → named_by names text ≡ named.Kind k → HasFewChannels k
unfolding NamedFew
named_few names text k h e = subst NamedFew e (named_all names text h)
