-- The kind that a text names is in order, and so is what a box of it keeps at first.
use Rattle.std.proofs.Common.{◌≡◌, ℕ, ℤ, pos, zero, suc, ◌+◌, ◌<◌, ◌≤◌, ◌^◌, Bool, cond, ◌==◌, List, [], ◌∷◌, length, map, replicate, slice_get, Option, Some, None, IfSome, option_map, codes, bytes_eq, subst, arith, rules}
use Rattle.std.proofs.lemmas.List.{length-replicate, length-map}
use Rattle.pd_object.specs.declared.kinds.Spelling.{Spelling}
use Rattle.pd_object.specs.declared.kinds.Spelling.TheVariants.{Whole, Short}
use Rattle.std.specs.List.{filter}
use Rattle.std.specs.List.{AllByRecursion}
use Rattle.pd_atom.specs.Names.{Names, name_of}
use Rattle.pd_atom.specs.declared.Atom.{Atom}
use Rattle.pd_atom.specs.declared.Atom.TheVariants as atom
use Rattle.pd_clock.specs.declared.times.Rate.{Rate}
use Rattle.pd_object.specs.declared.kinds.Kind.{Kind}
use Rattle.pd_object.specs.declared.kinds.Kind.TheVariants as kind
use Rattle.pd_object.specs.declared.kinds.Named.{Named}
use Rattle.pd_object.specs.declared.kinds.Named.TheVariants as named
use Rattle.pd_object.specs.declared.kinds.Arith.{Arith}
use Rattle.pd_object.specs.declared.kinds.Arith.TheVariants as arith
use Rattle.pd_object.specs.declared.kinds.Glue.{Glue}
use Rattle.pd_object.specs.declared.kinds.Glue.TheVariants as glue
use Rattle.pd_object.specs.declared.kinds.Slot.{Slot}
use Rattle.pd_object.specs.declared.kinds.Slot.TheVariants as slot
use Rattle.pd_object.specs.declared.kinds.Trigger.TheVariants as trigger
use Rattle.pd_object.specs.declared.kinds.Tone.{Tone}
use Rattle.pd_object.specs.declared.kinds.Tone.TheVariants as tone
use Rattle.pd_object.specs.declared.kinds.Signal.{Signal}
use Rattle.pd_object.specs.declared.kinds.Signal.TheVariants as signal
use Rattle.pd_object.specs.declared.kinds.Panel.{Panel}
use Rattle.pd_object.specs.declared.kinds.Panel.TheVariants as panel
use Rattle.pd_kind.specs.declared.messages.Sort.TheVariants as sort
use Rattle.pd_kind.specs.declared.states.State.{State}
use Rattle.pd_kind.specs.declared.states.State.TheVariants as state
use Rattle.pd_object.specs.Ports.{IsSmallGlue}
use Rattle.pd_kind.specs.Tables.{started}
use Rattle.pd_kind.specs.States.{table_size, slot_start, or_one, or_zero, line_length, arith_start, glue_start, tone_start, signal_start, panel_start, glue_size}
use Rattle.pd_naming.specs.Naming.{first_of, is_argument, arguments_of, number_at, name_at, symbol_in, operation_named, comparison_named, division_named, arith_named, plain_named, timed_named, or_symbol, addressed_named, trigger_letter, first_letter, trigger_of, slot_of, or_default, triggers_of, slots_of, choices_of, listed_named, tone_named, number_in, first_number, mixed_named, shaped_named, shared_named, signal_named, unless_empty, panel_name, panel_named, glue_named, sounding_kind, control_kind, simple_kind, listed_kind, is_whole_text, word_kind, kind_or_abstraction, begins_foreign, list_of_word, list_of, list_named, object_named, named_by, channels_of}
use Rattle.pd_guards.specs.Order.{IsNumber, HasFirst, IsName, IsAtom, AreAtoms, IsList, IsTable, IsKept, IsConstant, HasWords, IsGlue, IsPanel}
use Rattle.pd_guards.specs.Growing.{IsBorn}
use Rattle.pd_guards.specs.Sounds.{IsValue, HasValues}
use Rattle.pd_guards.proofs.FactLemmas.{either, all-at, all-map}
use Rattle.pd_guards.proofs.NumberLemmas.{near_pos, whole_in, least_in}
use Rattle.pd_guards.proofs.BaseLemmas.{no_number, stored_in, list_tail}
use Rattle.pd_guards.proofs.SignalLemmas.{zero_value, all-same, silent_values, circle_positive}

-- what holds of a value, where there is one
record Holds {A : Type 0} (P : A → Type 0) (o : Option A) : Type 0 where
  is : IfSome o P

none : {A : Type 0} {P : A → Type 0} → Holds P None
none = record { is = tt }

some : {A : Type 0} {P : A → Type 0} (x : A) → P x → Holds P (Some x)
some x h = record { is = h }

pick : {A : Type 0} {P : A → Type 0} (word w : List ℕ) (x : A) (rest : Option A) → P x → Holds P rest → Holds P (cond (bytes_eq word w) (Some x) rest)
pick {A} {P} word w x rest h k = either (Holds P) (bytes_eq word w) (Some x) rest (some x h) k

first_in : {A : Type 0} {P : A → Type 0} (x y : Option A) → Holds P x → Holds P y → Holds P (first_of x y)
first_in (Some a) y h k = h
first_in None y h k = k

mapped : {A B : Type 0} {P : A → Type 0} {Q : B → Type 0} (f : A → B) (o : Option A) → ((x : A) → P x → Q (f x)) → Holds P o → Holds Q (option_map f o)
mapped f None k h = record { is = tt }
mapped f (Some x) k h = some (f x) (k x h.is)

-- a control object's kind is in order, and what its box keeps at first too
record IsGlueBorn (names : Names) (g : Glue) : Type 0 where
  glue : IsGlue names g
  kept : (now : ℕ) (rate : Rate) → glue_size g < 2 ^ 32 → IsKept names now (glue_start g rate)

IsArithBorn : Names → Arith → Type 0
IsArithBorn names a = IsKept names 0 (arith_start a)

record IsPanelBorn (names : Names) (p : Panel) : Type 0 where
  panel : IsPanel names p
  kept : IsKept names 0 (panel_start p)

-- what these keep at first doesn't depend on the time
any_arith : (names : Names) (now : ℕ) (a : Arith) → IsKept names 0 (arith_start a) → IsKept names now (arith_start a)
any_arith names now (arith.Operation o z) h = h
any_arith names now (arith.Comparison c z) h = h
any_arith names now (arith.Division d z) h = h
any_arith names now (arith.Function f) h = h
any_arith names now (arith.Clip low high) h = h

any_panel : (names : Names) (now : ℕ) (p : Panel) → IsKept names 0 (panel_start p) → IsKept names now (panel_start p)
any_panel names now (panel.Bng button) h = h
any_panel names now (panel.Tgl toggle) h = h

-- control objects have no values of signals
pub glue_values : (g : Glue) (rate : Rate) → HasValues (glue_start g rate)
glue_values (glue.Message text) rate = tt
glue_values g rate = tt

arith_values : (a : Arith) → HasValues (arith_start a)
arith_values (arith.Function f) = tt
arith_values a = tt

panel_values : (p : Panel) → HasValues (panel_start p)
panel_values (panel.Bng button) = tt
panel_values (panel.Tgl toggle) = tt

glue_born : (names : Names) (g : Glue) → IsGlueBorn names g → IsBorn names (kind.Glue g)
glue_born names g h = record { kind = h.glue; kept = h.kept; values = glue_values g }

arith_born : (names : Names) (a : Arith) → IsArithBorn names a → IsBorn names (kind.Arith a)
unfolding IsArithBorn
arith_born names a h = record { kind = tt; kept = λ now rate l. any_arith names now a h; values = λ rate. arith_values a }

panel_born : (names : Names) (p : Panel) → IsPanelBorn names p → IsBorn names (kind.Panel p)
panel_born names p h = record { kind = h.panel; kept = λ now rate l. any_panel names now p h.kept; values = λ rate. panel_values p }

tone_kept : (names : Names) (now : ℕ) (t : Tone) (rate : Rate) → IsKept names now (tone_start t rate)
tone_kept names now (tone.Phasor z) rate = tt
tone_kept names now (tone.Osc z) rate = tt
tone_kept names now tone.Noise rate = tt

signal_kept : (names : Names) (now : ℕ) (s : Signal) (rate : Rate) → IsKept names now (signal_start s rate)
signal_kept names now signal.Snapshot rate = (search rules, search rules)
signal_kept names now s rate = tt

-- what a box of a signal object keeps at first is in range
IsToneBorn : Tone → Type 0
IsToneBorn t = (rate : Rate) → HasValues (tone_start t rate)

IsSignalBorn : Signal → Type 0
IsSignalBorn s = (rate : Rate) → HasValues (signal_start s rate)

tone_born : (names : Names) (t : Tone) → IsToneBorn t → IsBorn names (kind.Tone t)
unfolding IsToneBorn
tone_born names t h = record { kind = tt; kept = λ now rate l. tone_kept names now t rate; values = h }

signal_born : (names : Names) (s : Signal) → IsSignalBorn s → IsBorn names (kind.Signal s)
unfolding IsSignalBorn
signal_born names s h = record { kind = tt; kept = λ now rate l. signal_kept names now s rate; values = h }

filter_less : (p : Atom → Bool) (xs : List Atom) → length (filter p xs) ≤ length xs
filter_less p [] = omega arith
filter_less p (x ∷ xs) =
    let l : length (filter p xs) ≤ length xs = filter_less p xs in
    either (λ (ys : List Atom). length ys ≤ suc (length xs)) (p x) (x ∷ filter p xs) (filter p xs) (omega arith) (omega arith)

filter_in : (names : Names) (p : Atom → Bool) (xs : List Atom) → AreAtoms names xs → AreAtoms names (filter p xs)
filter_in names p [] h = tt
filter_in names p (x ∷ xs) h = either (AreAtoms names) (p x) (x ∷ filter p xs) (filter p xs) (h.0, filter_in names p xs h.1) (filter_in names p xs h.1)

pub arguments_in : (names : Names) (atoms : List Atom) → IsList names atoms → IsList names (arguments_of atoms)
arguments_in names atoms h = let l : length atoms ≤ 1024 = h.few in record { few = omega (arith, filter_less is_argument atoms); all = filter_in names is_argument atoms h.all }

all_same : (n : ℕ) → AllByRecursion IsNumber (replicate n (pos 0))
all_same zero = tt
all_same (suc n) = (no_number, all_same n)

-- slots and outlets
SlotIn : Slot → Type 0
SlotIn (slot.Number z) = IsNumber z
SlotIn slot.Symbol = Unit {0}

module _ (names : Names) (first : HasFirst names) where
  slot_in : (a : Atom) → IsAtom names a → SlotIn (slot_of names a)
  unfolding SlotIn
  slot_in (atom.Number z) h = h.1
  slot_in (atom.Symbol s) h = either SlotIn (first_letter (name_of names s) == 115) slot.Symbol (slot.Number (pos 0)) tt no_number
  slot_in (atom.Dollar n) h = no_number
  slot_in (atom.DollarSymbol s) h = no_number
  slot_in atom.Comma h = no_number
  slot_in atom.Semi h = no_number

  slot_begins : (s : Slot) → SlotIn s → IsAtom names (slot_start s)
  unfolding SlotIn
  slot_begins (slot.Number z) h = (tt, h)
  slot_begins slot.Symbol h = (omega (arith, first), tt)

  letter_in : (l : ℕ) → IsConstant (trigger_letter l)
  letter_in l = either IsConstant (l == 98) _ _ tt (either IsConstant (l == 115) _ _ tt (either IsConstant (l == 108) _ _ tt (either IsConstant (l == 97) trigger.Anything trigger.Float tt tt)))

  trigger_in : (a : Atom) → IsAtom names a → IsConstant (trigger_of names a)
  trigger_in (atom.Number z) h = h.1
  trigger_in (atom.Symbol s) h = letter_in (first_letter (name_of names s))
  trigger_in (atom.Dollar n) h = tt
  trigger_in (atom.DollarSymbol s) h = tt
  trigger_in atom.Comma h = tt
  trigger_in atom.Semi h = tt

  default_all : {A : Type 0} (P : A → Type 0) (d xs : List A) → AllByRecursion P d → AllByRecursion P xs → AllByRecursion P (or_default d xs)
  default_all P d [] h k = h
  default_all P d (x ∷ xs) h k = k

  default_few : {A : Type 0} (d xs : List A) → length d ≤ 1024 → length xs ≤ 1024 → length (or_default d xs) ≤ 1024
  default_few d [] h k = h
  default_few d (x ∷ xs) h k = k

  module _ (word : List ℕ) (args : List Atom) (given : IsList names args) where
    num : (i : ℕ) (d : ℤ) → IsNumber d → IsNumber (number_at args i d)
    num i d h = stored_in names first sort.List args i d given.all h

    num0 : IsNumber (number_at args 0 (pos 0))
    num0 = num 0 (pos 0) no_number

    symbol_there : (o : Option Atom) → IfSome o (IsAtom names) → IfSome (symbol_in o) (IsName names)
    symbol_there None h = tt
    symbol_there (Some (atom.Symbol s)) h = h.0
    symbol_there (Some a) h = tt

    name_there : (i : ℕ) → IfSome (name_at args i) (IsName names)
    name_there i = symbol_there (slot_at i) (all-at (IsAtom names) args i given.all)
      where
        slot_at : ℕ → Option Atom
        slot_at i = slice_get args i

    or_symbol-in : (o : Option ℕ) → IfSome o (IsName names) → IsName names (or_symbol o)
    or_symbol-in None h = omega (arith, first)
    or_symbol-in (Some s) h = h

    -- the arithmetic objects
    two : IsKept names 0 (state.Operation (pos 0) (number_at args 0 (pos 0)))
    two = (no_number, num0)

    ariths : Holds (IsArithBorn names) (arith_named word args)
    unfolding IsArithBorn
    ariths = first_in (operation_named word args) (first_of (comparison_named word args) (division_named word args))
        (pick word (codes "+") _ _ (no_number, num0)
        (pick word (codes "-") _ _ (no_number, num0)
        (pick word (codes "*") _ _ (no_number, num0)
        (pick word (codes "/") _ _ (no_number, num0)
        (pick word (codes "min") _ _ (no_number, num0)
        (pick word (codes "max") _ _ (no_number, num0) none))))))
        (first_in (comparison_named word args) (division_named word args)
        (pick word (codes "==") _ _ (no_number, num0)
        (pick word (codes "!=") _ _ (no_number, num0)
        (pick word (codes ">") _ _ (no_number, num0)
        (pick word (codes "<") _ _ (no_number, num0)
        (pick word (codes ">=") _ _ (no_number, num0)
        (pick word (codes "<=") _ _ (no_number, num0)
        (pick word (codes "&&") _ _ (no_number, num0)
        (pick word (codes "||") _ _ (no_number, num0) none))))))))
        (pick word (codes "%") _ _ (no_number, num0)
        (pick word (codes "mod") _ _ (no_number, num0)
        (pick word (codes "div") _ _ (no_number, num0)
        (pick word (codes "abs") _ _ tt
        (pick word (codes "mtof") _ _ tt
        (pick word (codes "clip") _ _ (num0, num 1 (pos 0) no_number) none)))))))

    -- the control objects
    plain_kept : (g : Glue) → IsSmallGlue g → HasWords names g → ((now : ℕ) (rate : Rate) → glue_size g < 2 ^ 32 → IsKept names now (glue_start g rate)) → IsGlueBorn names g
    plain_kept g s w k = record { glue = record { small = s; words = w }; kept = k }

    plains : Holds (IsGlueBorn names) (plain_named word args)
    plains =
        (pick word (codes "bang") _ _ (plain_kept _ tt tt (λ now rate l. tt))
        (pick word (codes "b") _ _ (plain_kept _ tt tt (λ now rate l. tt))
        (pick word (codes "float") _ _ (plain_kept _ tt tt (λ now rate l. num0))
        (pick word (codes "f") _ _ (plain_kept _ tt tt (λ now rate l. num0))
        (pick word (codes "int") _ _ (plain_kept _ tt tt (λ now rate l. whole_in _ num0))
        (pick word (codes "i") _ _ (plain_kept _ tt tt (λ now rate l. whole_in _ num0))
        (pick word (codes "moses") _ _ (plain_kept _ tt tt (λ now rate l. tt))
        (pick word (codes "spigot") _ _ (plain_kept _ tt tt (λ now rate l. tt))
        (pick word (codes "swap") _ _ (plain_kept _ tt tt (λ now rate l. (no_number, num0)))
        (pick word (codes "change") _ _ (plain_kept _ tt tt (λ now rate l. num0)) none))))))))))

    timed : Holds (IsGlueBorn names) (timed_named word args)
    timed =
        (pick word (codes "until") _ _ (plain_kept _ tt tt (λ now rate l. tt))
        (pick word (codes "loadbang") _ _ (plain_kept _ tt tt (λ now rate l. tt))
        (pick word (codes "metro") _ _ (plain_kept _ tt tt (λ now rate l. tt))
        (pick word (codes "delay") _ _ (plain_kept _ tt tt (λ now rate l. tt))
        (pick word (codes "del") _ _ (plain_kept _ tt tt (λ now rate l. tt))
        (pick word (codes "timer") _ _ (plain_kept _ tt tt (λ now rate l. tt))
        (pick word (codes "random") _ _ (plain_kept _ tt tt (λ now rate l. (omega arith, least_in 1 _ (omega arith) (num 0 (pos 1000000) (near_pos 1000000 (omega arith))))))
        (pick word (codes "inlet") _ _ (plain_kept _ tt tt (λ now rate l. tt))
        (pick word (codes "outlet") _ _ (plain_kept _ tt tt (λ now rate l. tt)) none)))))))))

    table_born : (n : ℕ) → n < 2 ^ 32 → IsTable (replicate n (pos 0))
    table_born n l = record { few = omega (arith, length-replicate n (pos 0)); numbers = all_same n }

    addressed : Holds (IsGlueBorn names) (addressed_named word args)
    addressed =
        (pick word (codes "symbol") _ _ (plain_kept _ tt tt (λ now rate l. or_symbol-in (name_at args 0) (name_there 0)))
        (pick word (codes "send") _ _ (plain_kept _ tt tt (λ now rate l. name_there 0))
        (pick word (codes "s") _ _ (plain_kept _ tt tt (λ now rate l. name_there 0))
        (pick word (codes "receive") _ _ (plain_kept _ tt tt (λ now rate l. tt))
        (pick word (codes "r") _ _ (plain_kept _ tt tt (λ now rate l. tt))
        (pick word (codes "table") _ _ (plain_kept _ tt tt (λ now rate l. table_born (table_size (number_at args 1 (pos 100000000))) l))
        (pick word (codes "tabread") _ _ (plain_kept _ tt tt (λ now rate l. tt))
        (pick word (codes "tabwrite") _ _ (plain_kept _ tt tt (λ now rate l. tt)) none))))))))

    triggers_few : length (triggers_of names args) ≤ 1024
    triggers_few = let l : length args ≤ 1024 = given.few in default_few (trigger.Bang ∷ trigger.Bang ∷ []) (map (trigger_of names) args) (omega arith) (omega (arith, length-map args (trigger_of names)))

    triggers_all : AllByRecursion IsConstant (triggers_of names args)
    triggers_all = default_all IsConstant (trigger.Bang ∷ trigger.Bang ∷ []) (map (trigger_of names) args) (tt, (tt, tt)) (all-map (IsAtom names) IsConstant (trigger_of names) trigger_in args given.all)

    slots_few : length (slots_of names args) ≤ 1024
    slots_few = let l : length args ≤ 1024 = given.few in default_few (slot.Number (pos 0) ∷ slot.Number (pos 0) ∷ []) (map (slot_of names) args) (omega arith) (omega (arith, length-map args (slot_of names)))

    slots_all : AllByRecursion SlotIn (slots_of names args)
    unfolding SlotIn
    slots_all = default_all SlotIn (slot.Number (pos 0) ∷ slot.Number (pos 0) ∷ []) (map (slot_of names) args) (no_number, (no_number, tt)) (all-map (IsAtom names) SlotIn (slot_of names) slot_in args given.all)

    slots_kept : IsList names (map slot_start (slots_of names args))
    slots_kept = let l : length (slots_of names args) ≤ 1024 = slots_few in record { few = omega (arith, length-map (slots_of names args) slot_start); all = all-map SlotIn (IsAtom names) slot_start slot_begins (slots_of names args) slots_all }

    choices_in : IsList names (choices_of args)
    choices_in = record { few = default_few (atom.Number (pos 0) ∷ []) args (omega arith) given.few; all = default_all (IsAtom names) (atom.Number (pos 0) ∷ []) args ((tt, no_number), tt) given.all }

    trigger_born : (w : Spelling) → IsGlueBorn names (glue.Trigger w (triggers_of names args))
    trigger_born w = plain_kept (glue.Trigger w (triggers_of names args)) triggers_few triggers_all (λ now rate l. tt)

    select_born : (w : Spelling) → IsGlueBorn names (glue.Select w (choices_of args))
    select_born w = plain_kept (glue.Select w (choices_of args)) choices_in.few tt (λ now rate l. choices_in)

    lists : Holds (IsGlueBorn names) (listed_named names word args)
    lists =
        (pick word (codes "trigger") _ _ (trigger_born Whole)
        (pick word (codes "t") _ _ (trigger_born Short)
        (pick word (codes "pack") _ _ (plain_kept _ slots_few tt (λ now rate l. slots_kept))
        (pick word (codes "unpack") _ _ (plain_kept _ slots_few tt (λ now rate l. tt))
        (pick word (codes "route") _ _ (plain_kept _ choices_in.few tt (λ now rate l. choices_in))
        (pick word (codes "select") _ _ (select_born Whole)
        (pick word (codes "sel") _ _ (select_born Short)
        (pick word (codes "print") _ _ (plain_kept _ given.few given.all (λ now rate l. tt)) none))))))))

    -- the signal objects
    tones : Holds IsToneBorn (tone_named word args)
    unfolding IsToneBorn
    tones =
        (pick word (codes "phasor~") _ _ (λ rate. (num0, circle_positive rate))
        (pick word (codes "osc~") _ _ (λ rate. num0)
        (pick word (codes "noise~") _ _ (λ rate. tt) none)))

    or_zero-in : (o : Option Atom) → IfSome o (IsAtom names) → IsNumber (or_zero (number_in o))
    or_zero-in None h = no_number
    or_zero-in (Some (atom.Number z)) h = h.1
    or_zero-in (Some a) h = no_number

    right_in : IsNumber (or_zero (first_number args))
    right_in = or_zero-in (slice_get args 0) (all-at (IsAtom names) args 0 given.all)

    mixed : Holds IsSignalBorn (mixed_named word args)
    unfolding IsSignalBorn
    mixed =
        (pick word (codes "+~") _ _ (λ rate. (no_number, right_in))
        (pick word (codes "-~") _ _ (λ rate. (no_number, right_in))
        (pick word (codes "*~") _ _ (λ rate. (no_number, right_in))
        (pick word (codes "/~") _ _ (λ rate. (no_number, right_in))
        (pick word (codes "max~") _ _ (λ rate. (no_number, right_in))
        (pick word (codes "min~") _ _ (λ rate. (no_number, right_in))
        (pick word (codes "abs~") _ _ (λ rate. no_number)
        (pick word (codes "wrap~") _ _ (λ rate. no_number) none))))))))

    shaped : Holds IsSignalBorn (shaped_named word args)
    unfolding IsSignalBorn
    shaped =
        (pick word (codes "sig~") _ _ (λ rate. num0)
        (pick word (codes "clip~") _ _ (λ rate. (no_number, num0, num 1 (pos 0) no_number))
        (pick word (codes "line~") _ _ (λ rate. (zero_value, zero_value))
        (pick word (codes "samphold~") _ _ (λ rate. (no_number, no_number, zero_value, zero_value))
        (pick word (codes "lop~") _ _ (λ rate. (no_number, zero_value))
        (pick word (codes "hip~") _ _ (λ rate. (no_number, zero_value))
        (pick word (codes "snapshot~") _ _ (λ rate. no_number)
        (pick word (codes "inlet~") _ _ (λ rate. no_number)
        (pick word (codes "outlet~") _ _ (λ rate. no_number) none)))))))))

    shared : Holds IsSignalBorn (shared_named word args)
    unfolding IsSignalBorn
    shared =
        (pick word (codes "delwrite~") _ _ (λ rate. (no_number, all-same IsValue (line_length rate (number_at args 1 (pos 0)) + 64) (pos 0) zero_value))
        (pick word (codes "delread~") _ _ (λ rate. tt)
        (pick word (codes "send~") _ _ (λ rate. (no_number, silent_values))
        (pick word (codes "s~") _ _ (λ rate. (no_number, silent_values))
        (pick word (codes "receive~") _ _ (λ rate. tt)
        (pick word (codes "r~") _ _ (λ rate. tt)
        (pick word (codes "throw~") _ _ (λ rate. no_number)
        (pick word (codes "catch~") _ _ (λ rate. silent_values)
        (pick word (codes "tabread~") _ _ (λ rate. no_number) none)))))))))

    signals : Holds IsSignalBorn (signal_named word args)
    signals = first_in (mixed_named word args) (first_of (shaped_named word args) (shared_named word args)) mixed (first_in (shaped_named word args) (shared_named word args) shaped shared)

    dac_in : IsSignalBorn (signal.Dac (channels_of args))
    unfolding IsSignalBorn
    dac_in rate = all_same (length (channels_of args))

    -- `bng` and `tgl`
    unless_empty-in : (o : Option ℕ) → IfSome o (IsName names) → IfSome (unless_empty names o) (IsName names)
    unless_empty-in None h = tt
    unless_empty-in (Some s) h = either (λ (o : Option ℕ). IfSome o (IsName names)) (bytes_eq (name_of names s) (codes "empty")) None (Some s) tt h

    panel_there : (i : ℕ) → IfSome (panel_name names args i) (IsName names)
    panel_there i = unless_empty-in (name_at args i) (name_there i)

    or_one-in : (z : ℤ) → IsNumber z → IsNumber (or_one z)
    or_one-in z h = either IsNumber _ (pos 1000000) z (near_pos 1000000 (omega arith)) h

    panels : (whole : Bool) → Holds (IsPanelBorn names) (panel_named names word args whole)
    panels whole =
        (pick word (codes "bng") _ _ (record { panel = panel_there 4; kept = tt })
        (pick word (codes "tgl") _ _ (record { panel = panel_there 2; kept = (num 12 (pos 0) no_number, or_one-in (number_at args 13 (pos 0)) (num 13 (pos 0) no_number)) }) none))

    simple_in : Holds (IsBorn names) (simple_kind word args)
    unfolding simple_kind
    simple_in =
        first_in (option_map (λ a. kind.Arith a) (arith_named word args)) (control_kind word args) (mapped (λ a. kind.Arith a) (arith_named word args) (arith_born names) ariths)
        (first_in (option_map (λ g. kind.Glue g) (glue_named word args)) (sounding_kind word args)
        (mapped (λ g. kind.Glue g) (glue_named word args) (glue_born names) (first_in (plain_named word args) (first_of (timed_named word args) (addressed_named word args)) plains (first_in (timed_named word args) (addressed_named word args) timed addressed)))
        (first_in (option_map (λ t. kind.Tone t) (tone_named word args)) (option_map (λ s. kind.Signal s) (signal_named word args)) (mapped (λ t. kind.Tone t) (tone_named word args) (tone_born names) tones) (mapped (λ s. kind.Signal s) (signal_named word args) (signal_born names) signals)))

    listed_in : (whole : Bool) → Holds (IsBorn names) (listed_kind names word args whole)
    unfolding listed_kind
    listed_in whole =
        first_in (option_map (λ p. kind.Panel p) (panel_named names word args whole)) _ (mapped (λ p. kind.Panel p) (panel_named names word args whole) (panel_born names) (panels whole))
        (pick word (codes "vline~") kind.Vline _ (record { kind = tt; kept = λ now rate l. omega arith; values = λ rate. record { base = tt; ramps = tt } })
        (pick word (codes "dac~") (kind.Signal (signal.Dac (channels_of args))) _ (signal_born names (signal.Dac (channels_of args)) dac_in)
        (mapped (λ g. kind.Glue g) (listed_named names word args) (glue_born names) lists)))

  -- `list` and a second word
  append_born : (w : Spelling) (args : List Atom) → IsList names args → IsGlueBorn names (glue.ListAppend w args)
  append_born w args h = record { glue = record { small = h.few; words = tt }; kept = λ now rate l. h }

  word_list : (word : List ℕ) (args all : List Atom) → IsList names args → IsList names all → IsGlueBorn names (list_of_word word args all)
  word_list word args all h k =
      let P = IsGlueBorn names in
      either P (bytes_eq word (codes "append")) _ _ (append_born Whole args h)
      (either P (bytes_eq word (codes "prepend")) _ _ (record { glue = record { small = h.few; words = tt }; kept = λ now rate l. h })
      (either P (bytes_eq word (codes "split")) (glue.ListSplit (number_at args 0 (pos 0))) _ (record { glue = record { small = tt; words = tt }; kept = λ now rate l. tt })
      (either P (bytes_eq word (codes "trim")) glue.ListTrim _ (record { glue = record { small = tt; words = tt }; kept = λ now rate l. tt })
      (either P (bytes_eq word (codes "length")) glue.ListLength _ (record { glue = record { small = tt; words = tt }; kept = λ now rate l. tt })
      (append_born Short all k)))))

  list_in : (args : List Atom) → IsList names args → IsGlueBorn names (list_of names args)
  list_in [] h = append_born Short [] h
  list_in (atom.Symbol s ∷ args) h = word_list (name_of names s) args (atom.Symbol s ∷ args) (list_tail names first (atom.Symbol s) args h) h
  list_in (a ∷ args) h = append_born Short (a ∷ args) h

  NamedIn : Named → Type 0
  NamedIn (named.Kind k) = IsBorn names k
  NamedIn (named.Abstraction s) = IsName names s
  NamedIn named.Nothing = Unit {0}

  found_in : (s : ℕ) (o : Option Kind) → IsName names s → Holds (IsBorn names) o → NamedIn (kind_or_abstraction s o)
  unfolding NamedIn
  found_in s (Some k) n h = h.is
  found_in s None n h = n

  object_in : (s : ℕ) (atoms : List Atom) → IsName names s → IsList names atoms → NamedIn (object_named names s atoms)
  unfolding NamedIn
  object_in s atoms n h =
      let args : IsList names (arguments_of atoms) = arguments_in names atoms h in
      let word = name_of names s in
      either NamedIn (bytes_eq word (codes "list")) (list_named names s atoms) (kind_or_abstraction s (word_kind names word atoms))
      (either NamedIn (begins_foreign names atoms) (named.Abstraction s) (named.Kind (kind.Glue (list_of names (arguments_of atoms)))) n (glue_born names (list_of names (arguments_of atoms)) (list_in (arguments_of atoms) args)))
      (found_in s (word_kind names word atoms) n (first_in (simple_kind word (arguments_of atoms)) (listed_kind names word (arguments_of atoms) (is_whole_text atoms)) (simple_in word (arguments_of atoms) args) (listed_in word (arguments_of atoms) args (is_whole_text atoms))))

  named_all : (text : List Atom) → IsList names text → NamedIn (named_by names text)
  unfolding NamedIn
  named_all [] h = tt
  named_all (atom.Symbol s ∷ atoms) h = object_in s atoms h.all.0.0 (list_tail names first (atom.Symbol s) atoms h)
  named_all (a ∷ atoms) h = tt

pub named_kind : (names : Names) (first : HasFirst names) (text : List Atom) (k : Kind) → IsList names text → named_by names text ≡ named.Kind k → IsBorn names k
unfolding NamedIn
named_kind names first text k h e = subst (NamedIn names first) e (named_all names first text h)

pub started_in : (names : Names) (now : ℕ) (s : State) → IsKept names now s → IsKept names now (started s 0)
started_in names now (state.Timer reset rate) h = tt
started_in names now s h = h

pub started_values : (s : State) → HasValues s → HasValues (started s 0)
started_values (state.Timer reset rate) h = tt
started_values s h = h
