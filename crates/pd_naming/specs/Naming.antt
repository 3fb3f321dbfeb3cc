-- What an object's text names.
use Rattle.std.specs.Prelude.{ℕ, ℤ, pos, Bool, true, false, ◌==◌, ◌&&◌, ◌||◌, List, [], ◌∷◌, length, map, slice_get, Option, Some, None, option_map, if◌then◌else◌, codes, bytes_eq}
use Rattle.std.specs.List.{filter, list_all}
use Rattle.pd_atom.specs.declared.Atom.{Atom}
use Rattle.pd_atom.specs.declared.Atom.TheVariants as atom
use Rattle.pd_atom.specs.Names.{Names, name_of}
use Rattle.pd_object.specs.declared.kinds.Kind.{Kind}
use Rattle.pd_object.specs.declared.kinds.Kind.TheVariants as kind
use Rattle.pd_object.specs.declared.kinds.Named.{Named}
use Rattle.pd_object.specs.declared.kinds.Named.TheVariants as named
use Rattle.pd_object.specs.declared.kinds.Spelling.TheVariants.{Whole, Short}
use Rattle.pd_object.specs.declared.kinds.Arith.{Arith}
use Rattle.pd_object.specs.declared.kinds.Arith.TheVariants as arith
use Rattle.pd_object.specs.declared.kinds.Operation.TheVariants as operation
use Rattle.pd_object.specs.declared.kinds.Comparison.TheVariants as comparison
use Rattle.pd_object.specs.declared.kinds.Division.TheVariants as division
use Rattle.pd_object.specs.declared.kinds.Function.TheVariants as function
use Rattle.pd_object.specs.declared.kinds.Glue.{Glue}
use Rattle.pd_object.specs.declared.kinds.Glue.TheVariants as glue
use Rattle.pd_object.specs.declared.kinds.Trigger.{Trigger}
use Rattle.pd_object.specs.declared.kinds.Trigger.TheVariants as trigger
use Rattle.pd_object.specs.declared.kinds.Slot.{Slot}
use Rattle.pd_object.specs.declared.kinds.Slot.TheVariants as slot
use Rattle.pd_object.specs.declared.kinds.Side.TheVariants as side
use Rattle.pd_object.specs.declared.kinds.Tone.{Tone}
use Rattle.pd_object.specs.declared.kinds.Tone.TheVariants as tone
use Rattle.pd_object.specs.declared.kinds.Signal.{Signal}
use Rattle.pd_object.specs.declared.kinds.Signal.TheVariants as signal
use Rattle.pd_object.specs.declared.kinds.SignalOperation.TheVariants as signal_operation
use Rattle.pd_object.specs.declared.kinds.SignalFunction.TheVariants as signal_function
use Rattle.pd_object.specs.declared.kinds.Channel.{Channel}
use Rattle.pd_object.specs.declared.kinds.Channel.TheVariants as channel
use Rattle.pd_object.specs.declared.kinds.Panel.{Panel}
use Rattle.pd_object.specs.declared.kinds.Panel.TheVariants as panel

-- the first that is there
abbrev pub first_of : {X : Type 0} → Option X → Option X → Option X
first_of (Some a) rest = Some a
first_of None rest = rest

-- commas and semicolons are left out of the arguments
abbrev pub is_argument : Atom → Bool
is_argument atom.Comma = false
is_argument atom.Semi = false
is_argument _ = true

abbrev pub arguments_of : List Atom → List Atom
arguments_of atoms = filter is_argument atoms

-- the number at a place of the arguments, and the default where none is there
abbrev pub number_or : ℤ → Option Atom → ℤ
number_or default (Some (atom.Number z)) = z
number_or default _ = default

abbrev pub number_at : List Atom → ℕ → ℤ → ℤ
number_at args i default = number_or default (slice_get args i)

-- the symbol at a place of the arguments, where one is there
abbrev pub symbol_in : Option Atom → Option ℕ
symbol_in (Some (atom.Symbol s)) = Some s
symbol_in _ = None

abbrev pub name_at : List Atom → ℕ → Option ℕ
name_at args i = symbol_in (slice_get args i)

-- `+ - * / min max`, `== != > < >= <= && ||`, `% mod div`, `abs mtof`, `clip`
abbrev pub operation_named : List ℕ → List Atom → Option Arith
operation_named word args =
    if bytes_eq word (codes "+") then Some (arith.Operation operation.Add (number_at args 0 (pos 0))) else
    if bytes_eq word (codes "-") then Some (arith.Operation operation.Subtract (number_at args 0 (pos 0))) else
    if bytes_eq word (codes "*") then Some (arith.Operation operation.Multiply (number_at args 0 (pos 0))) else
    if bytes_eq word (codes "/") then Some (arith.Operation operation.Divide (number_at args 0 (pos 0))) else
    if bytes_eq word (codes "min") then Some (arith.Operation operation.Least (number_at args 0 (pos 0))) else
    if bytes_eq word (codes "max") then Some (arith.Operation operation.Greatest (number_at args 0 (pos 0))) else None

abbrev pub comparison_named : List ℕ → List Atom → Option Arith
comparison_named word args =
    if bytes_eq word (codes "==") then Some (arith.Comparison comparison.Equal (number_at args 0 (pos 0))) else
    if bytes_eq word (codes "!=") then Some (arith.Comparison comparison.Unequal (number_at args 0 (pos 0))) else
    if bytes_eq word (codes ">") then Some (arith.Comparison comparison.Above (number_at args 0 (pos 0))) else
    if bytes_eq word (codes "<") then Some (arith.Comparison comparison.Below (number_at args 0 (pos 0))) else
    if bytes_eq word (codes ">=") then Some (arith.Comparison comparison.NotBelow (number_at args 0 (pos 0))) else
    if bytes_eq word (codes "<=") then Some (arith.Comparison comparison.NotAbove (number_at args 0 (pos 0))) else
    if bytes_eq word (codes "&&") then Some (arith.Comparison comparison.Both (number_at args 0 (pos 0))) else
    if bytes_eq word (codes "||") then Some (arith.Comparison comparison.Either (number_at args 0 (pos 0))) else None

abbrev pub division_named : List ℕ → List Atom → Option Arith
division_named word args =
    if bytes_eq word (codes "%") then Some (arith.Division division.Remainder (number_at args 0 (pos 0))) else
    if bytes_eq word (codes "mod") then Some (arith.Division division.Modulo (number_at args 0 (pos 0))) else
    if bytes_eq word (codes "div") then Some (arith.Division division.Quotient (number_at args 0 (pos 0))) else
    if bytes_eq word (codes "abs") then Some (arith.Function function.Magnitude) else
    if bytes_eq word (codes "mtof") then Some (arith.Function function.Frequency) else
    if bytes_eq word (codes "clip") then Some (arith.Clip (number_at args 0 (pos 0)) (number_at args 1 (pos 0))) else None

abbrev pub arith_named : List ℕ → List Atom → Option Arith
arith_named word args = first_of (operation_named word args) (first_of (comparison_named word args) (division_named word args))

-- the control objects whose arguments are numbers
abbrev pub plain_named : List ℕ → List Atom → Option Glue
plain_named word args =
    if bytes_eq word (codes "bang") then Some (glue.Bang Whole) else
    if bytes_eq word (codes "b") then Some (glue.Bang Short) else
    if bytes_eq word (codes "float") then Some (glue.Float Whole (number_at args 0 (pos 0))) else
    if bytes_eq word (codes "f") then Some (glue.Float Short (number_at args 0 (pos 0))) else
    if bytes_eq word (codes "int") then Some (glue.Int Whole (number_at args 0 (pos 0))) else
    if bytes_eq word (codes "i") then Some (glue.Int Short (number_at args 0 (pos 0))) else
    if bytes_eq word (codes "moses") then Some (glue.Moses (number_at args 0 (pos 0))) else
    if bytes_eq word (codes "spigot") then Some (glue.Spigot (number_at args 0 (pos 0))) else
    if bytes_eq word (codes "swap") then Some (glue.Swap (number_at args 0 (pos 0))) else
    if bytes_eq word (codes "change") then Some (glue.Change (number_at args 0 (pos 0))) else None

-- the ones of time, of chance and of the patch's ports
abbrev pub timed_named : List ℕ → List Atom → Option Glue
timed_named word args =
    if bytes_eq word (codes "until") then Some glue.Until else
    if bytes_eq word (codes "loadbang") then Some glue.Loadbang else
    if bytes_eq word (codes "metro") then Some (glue.Metro (number_at args 0 (pos 1000000))) else
    if bytes_eq word (codes "delay") then Some (glue.Delay Whole (number_at args 0 (pos 0))) else
    if bytes_eq word (codes "del") then Some (glue.Delay Short (number_at args 0 (pos 0))) else
    if bytes_eq word (codes "timer") then Some glue.Timer else
    if bytes_eq word (codes "random") then Some (glue.Random (number_at args 0 (pos 1000000))) else
    if bytes_eq word (codes "inlet") then Some (glue.Port side.Inlet) else
    if bytes_eq word (codes "outlet") then Some (glue.Port side.Outlet) else None

-- the symbol, or `symbol` where none is there
abbrev pub or_symbol : Option ℕ → ℕ
or_symbol (Some s) = s
or_symbol None = 2

-- the ones whose arguments are names
abbrev pub addressed_named : List ℕ → List Atom → Option Glue
addressed_named word args =
    if bytes_eq word (codes "symbol") then Some (glue.Symbol (or_symbol (name_at args 0))) else
    if bytes_eq word (codes "send") then Some (glue.Send Whole (name_at args 0)) else
    if bytes_eq word (codes "s") then Some (glue.Send Short (name_at args 0)) else
    if bytes_eq word (codes "receive") then Some (glue.Receive Whole (name_at args 0)) else
    if bytes_eq word (codes "r") then Some (glue.Receive Short (name_at args 0)) else
    if bytes_eq word (codes "table") then Some (glue.Table (name_at args 0) (number_at args 1 (pos 100000000))) else
    if bytes_eq word (codes "tabread") then Some (glue.Tabread (name_at args 0)) else
    if bytes_eq word (codes "tabwrite") then Some (glue.Tabwrite (name_at args 0)) else None

-- what an outlet of a `trigger` sends, by the first letter of its word
abbrev pub trigger_letter : ℕ → Trigger
trigger_letter letter =
    if letter == 98 then trigger.Bang else
    if letter == 115 then trigger.Symbol else
    if letter == 108 then trigger.List else
    if letter == 97 then trigger.Anything else trigger.Float

abbrev pub first_letter : List ℕ → ℕ
first_letter [] = 0
first_letter (b ∷ bs) = b

abbrev pub trigger_of : Names → Atom → Trigger
trigger_of names (atom.Number z) = trigger.Constant z
trigger_of names (atom.Symbol s) = trigger_letter (first_letter (name_of names s))
trigger_of names _ = trigger.Float

-- a word that begins with `s` makes a symbol slot, every other word a number slot
abbrev pub slot_of : Names → Atom → Slot
slot_of names (atom.Number z) = slot.Number z
slot_of names (atom.Symbol s) = if first_letter (name_of names s) == 115 then slot.Symbol else slot.Number (pos 0)
slot_of names _ = slot.Number (pos 0)

-- 1 is the left channel and 2 the right one
abbrev pub channel_of : Atom → Channel
channel_of (atom.Number (pos n)) = if n == 1000000 then channel.Left else if n == 2000000 then channel.Right else channel.Neither
channel_of _ = channel.Neither

-- the list, and the default where it is empty
abbrev pub or_default : {X : Type 0} → List X → List X → List X
or_default default [] = default
or_default default (x ∷ xs) = x ∷ xs

abbrev pub triggers_of : Names → List Atom → List Trigger
triggers_of names args = or_default (trigger.Bang ∷ trigger.Bang ∷ []) (map (trigger_of names) args)

abbrev pub slots_of : Names → List Atom → List Slot
slots_of names args = or_default (slot.Number (pos 0) ∷ slot.Number (pos 0) ∷ []) (map (slot_of names) args)

abbrev pub choices_of : List Atom → List Atom
choices_of args = or_default (atom.Number (pos 0) ∷ []) args

abbrev pub channels_of : List Atom → List Channel
channels_of args = or_default (channel.Left ∷ channel.Right ∷ []) (map channel_of args)

-- the control objects that keep their arguments as a list
abbrev pub listed_named : Names → List ℕ → List Atom → Option Glue
listed_named names word args =
    if bytes_eq word (codes "trigger") then Some (glue.Trigger Whole (triggers_of names args)) else
    if bytes_eq word (codes "t") then Some (glue.Trigger Short (triggers_of names args)) else
    if bytes_eq word (codes "pack") then Some (glue.Pack (slots_of names args)) else
    if bytes_eq word (codes "unpack") then Some (glue.Unpack (slots_of names args)) else
    if bytes_eq word (codes "route") then Some (glue.Route (choices_of args)) else
    if bytes_eq word (codes "select") then Some (glue.Select Whole (choices_of args)) else
    if bytes_eq word (codes "sel") then Some (glue.Select Short (choices_of args)) else
    if bytes_eq word (codes "print") then Some (glue.Print args) else None

abbrev pub tone_named : List ℕ → List Atom → Option Tone
tone_named word args =
    if bytes_eq word (codes "phasor~") then Some (tone.Phasor (number_at args 0 (pos 0))) else
    if bytes_eq word (codes "osc~") then Some (tone.Osc (number_at args 0 (pos 0))) else
    if bytes_eq word (codes "noise~") then Some tone.Noise else None

-- the first argument where it is a number
abbrev pub number_in : Option Atom → Option ℤ
number_in (Some (atom.Number z)) = Some z
number_in _ = None

abbrev pub first_number : List Atom → Option ℤ
first_number args = number_in (slice_get args 0)

abbrev pub mixed_named : List ℕ → List Atom → Option Signal
mixed_named word args =
    if bytes_eq word (codes "+~") then Some (signal.Operation signal_operation.Add (first_number args)) else
    if bytes_eq word (codes "-~") then Some (signal.Operation signal_operation.Subtract (first_number args)) else
    if bytes_eq word (codes "*~") then Some (signal.Operation signal_operation.Multiply (first_number args)) else
    if bytes_eq word (codes "/~") then Some (signal.Operation signal_operation.Divide (first_number args)) else
    if bytes_eq word (codes "max~") then Some (signal.Operation signal_operation.Greatest (first_number args)) else
    if bytes_eq word (codes "min~") then Some (signal.Operation signal_operation.Least (first_number args)) else
    if bytes_eq word (codes "abs~") then Some (signal.Function signal_function.Magnitude) else
    if bytes_eq word (codes "wrap~") then Some (signal.Function signal_function.Wrap) else None

abbrev pub shaped_named : List ℕ → List Atom → Option Signal
shaped_named word args =
    if bytes_eq word (codes "sig~") then Some (signal.Sig (number_at args 0 (pos 0))) else
    if bytes_eq word (codes "clip~") then Some (signal.Clip (number_at args 0 (pos 0)) (number_at args 1 (pos 0))) else
    if bytes_eq word (codes "line~") then Some signal.Line else
    if bytes_eq word (codes "samphold~") then Some signal.Samphold else
    if bytes_eq word (codes "lop~") then Some (signal.Lop (number_at args 0 (pos 0))) else
    if bytes_eq word (codes "hip~") then Some (signal.Hip (number_at args 0 (pos 0))) else
    if bytes_eq word (codes "snapshot~") then Some signal.Snapshot else
    if bytes_eq word (codes "inlet~") then Some signal.Inlet else
    if bytes_eq word (codes "outlet~") then Some signal.Outlet else None

abbrev pub shared_named : List ℕ → List Atom → Option Signal
shared_named word args =
    if bytes_eq word (codes "delwrite~") then Some (signal.Delwrite (name_at args 0) (number_at args 1 (pos 0))) else
    if bytes_eq word (codes "delread~") then Some (signal.Delread (name_at args 0) (number_at args 1 (pos 0))) else
    if bytes_eq word (codes "send~") then Some (signal.Send Whole (name_at args 0)) else
    if bytes_eq word (codes "s~") then Some (signal.Send Short (name_at args 0)) else
    if bytes_eq word (codes "receive~") then Some (signal.Receive Whole (name_at args 0)) else
    if bytes_eq word (codes "r~") then Some (signal.Receive Short (name_at args 0)) else
    if bytes_eq word (codes "throw~") then Some (signal.Throw (name_at args 0)) else
    if bytes_eq word (codes "catch~") then Some (signal.Catch (name_at args 0)) else
    if bytes_eq word (codes "tabread~") then Some (signal.Tabread (name_at args 0)) else None

-- the word `empty` is no name
abbrev pub unless_empty : Names → Option ℕ → Option ℕ
unless_empty names (Some s) = if bytes_eq (name_of names s) (codes "empty") then None else Some s
unless_empty names None = None

abbrev pub panel_name : Names → List Atom → ℕ → Option ℕ
panel_name names args i = unless_empty names (name_at args i)

abbrev pub button_of : Names → List Atom → Panel
button_of names args = panel.Bng (record {
  size = number_at args 0 (pos 0);
  hold = number_at args 1 (pos 0);
  interrupt = number_at args 2 (pos 0);
  init = number_at args 3 (pos 0);
  send = panel_name names args 4;
  receive = panel_name names args 5;
  label = panel_name names args 6;
  x_offset = number_at args 7 (pos 0);
  y_offset = number_at args 8 (pos 0);
  font = number_at args 9 (pos 0);
  font_size = number_at args 10 (pos 0);
  background = number_at args 11 (pos 0);
  foreground = number_at args 12 (pos 0);
  label_colour = number_at args 13 (pos 0);
})

-- the text behind the name has 14 atoms, none of them a comma or semicolon
abbrev pub is_whole_text : List Atom → Bool
is_whole_text atoms = list_all is_argument atoms && length atoms == 14

abbrev pub toggle_of : Names → List Atom → Bool → Panel
toggle_of names args whole = panel.Tgl (record {
  size = number_at args 0 (pos 0);
  init = number_at args 1 (pos 0);
  send = panel_name names args 2;
  receive = panel_name names args 3;
  label = panel_name names args 4;
  x_offset = number_at args 5 (pos 0);
  y_offset = number_at args 6 (pos 0);
  font = number_at args 7 (pos 0);
  font_size = number_at args 8 (pos 0);
  background = number_at args 9 (pos 0);
  foreground = number_at args 10 (pos 0);
  label_colour = number_at args 11 (pos 0);
  value = number_at args 12 (pos 0);
  other = number_at args 13 (pos 0);
  is_whole = whole;
})

abbrev pub panel_named : Names → List ℕ → List Atom → Bool → Option Panel
panel_named names word args whole =
    if bytes_eq word (codes "bng") then Some (button_of names args) else
    if bytes_eq word (codes "tgl") then Some (toggle_of names args whole) else None

abbrev pub glue_named : List ℕ → List Atom → Option Glue
glue_named word args = first_of (plain_named word args) (first_of (timed_named word args) (addressed_named word args))

abbrev pub signal_named : List ℕ → List Atom → Option Signal
signal_named word args = first_of (mixed_named word args) (first_of (shaped_named word args) (shared_named word args))

abbrev pub sounding_kind : List ℕ → List Atom → Option Kind
sounding_kind word args = first_of (option_map (λ t. kind.Tone t) (tone_named word args)) (option_map (λ s. kind.Signal s) (signal_named word args))

abbrev pub control_kind : List ℕ → List Atom → Option Kind
control_kind word args = first_of (option_map (λ g. kind.Glue g) (glue_named word args)) (sounding_kind word args)

-- the kind of a word and arguments, for the words whose arguments need no list
unfoldable pub simple_kind : List ℕ → List Atom → Option Kind
simple_kind word args = first_of (option_map (λ a. kind.Arith a) (arith_named word args)) (control_kind word args)

-- the kind of a word whose arguments may be kept as a list
unfoldable pub listed_kind : Names → List ℕ → List Atom → Bool → Option Kind
listed_kind names word args whole =
    first_of (option_map (λ p. kind.Panel p) (panel_named names word args whole)) (
    if bytes_eq word (codes "vline~") then Some kind.Vline else
    if bytes_eq word (codes "dac~") then Some (kind.Signal (signal.Dac (channels_of args))) else
    option_map (λ g. kind.Glue g) (listed_named names word args))

-- the kind of a word and of the atoms behind it, for all words but `list`
abbrev pub word_kind : Names → List ℕ → List Atom → Option Kind
word_kind names word atoms = first_of (simple_kind word (arguments_of atoms)) (listed_kind names word (arguments_of atoms) (is_whole_text atoms))

-- what a text that begins with the symbol s names, where a kind was found or not
abbrev pub kind_or_abstraction : ℕ → Option Kind → Named
kind_or_abstraction s (Some k) = named.Kind k
kind_or_abstraction s None = named.Abstraction s

-- `list store`, `list fromsymbol` and `list tosymbol` are no objects of the tables
abbrev pub is_foreign_word : List ℕ → Bool
is_foreign_word word = bytes_eq word (codes "store") || (bytes_eq word (codes "fromsymbol") || bytes_eq word (codes "tosymbol"))

abbrev pub begins_foreign : Names → List Atom → Bool
begins_foreign names (atom.Symbol s ∷ atoms) = is_foreign_word (name_of names s)
begins_foreign names _ = false

-- `list` and a second word
abbrev pub list_of_word : List ℕ → List Atom → List Atom → Glue
list_of_word word args all =
    if bytes_eq word (codes "append") then glue.ListAppend Whole args else
    if bytes_eq word (codes "prepend") then glue.ListPrepend args else
    if bytes_eq word (codes "split") then glue.ListSplit (number_at args 0 (pos 0)) else
    if bytes_eq word (codes "trim") then glue.ListTrim else
    if bytes_eq word (codes "length") then glue.ListLength else glue.ListAppend Short all

abbrev pub list_of : Names → List Atom → Glue
list_of names (atom.Symbol s ∷ args) = list_of_word (name_of names s) args (atom.Symbol s ∷ args)
list_of names args = glue.ListAppend Short args

abbrev pub list_named : Names → ℕ → List Atom → Named
list_named names s atoms = if begins_foreign names atoms then named.Abstraction s else named.Kind (kind.Glue (list_of names (arguments_of atoms)))

abbrev pub object_named : Names → ℕ → List Atom → Named
object_named names s atoms =
    if bytes_eq (name_of names s) (codes "list") then list_named names s atoms else kind_or_abstraction s (word_kind names (name_of names s) atoms)

-- what an expanded text names
abbrev pub named_by : Names → List Atom → Named
named_by names (atom.Symbol s ∷ atoms) = object_named names s atoms
named_by names _ = named.Nothing
