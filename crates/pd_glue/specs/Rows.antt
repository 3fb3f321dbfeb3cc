-- What a control object does with a message, when its clock fires and when it is resumed; and what a signal object hears.
use Rattle.std.specs.Prelude.{ℕ, ℤ, List, Option}
use Rattle.pd_atom.specs.declared.Atom.{Atom}
use Rattle.std.specs.List.{All}
use Rattle.pd_atom.specs.Names.{Names}
use Rattle.pd_atom.specs.Atoms.{IsOf}
use Rattle.pd_object.specs.declared.kinds.Kind.{Kind}
use Rattle.pd_object.specs.declared.kinds.Kind.TheVariants as kind
use Rattle.pd_object.specs.declared.kinds.Glue.{Glue}
use Rattle.pd_object.specs.declared.kinds.Glue.TheVariants as glue
use Rattle.pd_object.specs.declared.kinds.Tone.{Tone}
use Rattle.pd_object.specs.declared.kinds.Tone.TheVariants as tone
use Rattle.pd_object.specs.declared.kinds.Signal.{Signal}
use Rattle.pd_object.specs.declared.kinds.Signal.TheVariants as signal
use Rattle.pd_object.specs.Ports.{IsSmallGlue}
use Rattle.pd_object.specs.declared.row_names.SignalRow.{SignalRow}
use Rattle.pd_object.specs.declared.row_names.SignalRow.TheVariants as row
use Rattle.pd_kind.specs.declared.states.State.{State}
use Rattle.pd_kind.specs.Said.{Said, silent}
use Rattle.pd_kind.specs.Hearing.{Heard}
use Rattle.pd_list.specs.Rows.{IsSmallState, list_row}
use Rattle.pd_message.specs.Rows.{Left, message_row}
use Rattle.pd_message.specs.Rows as message
use Rattle.pd_plain.specs.Rows.{HasText, plain_row}
use Rattle.pd_plain.specs.Rows as plain
use Rattle.pd_held.specs.Rows.{sounding_row}

-- what a hearing leaves: the state, the names, and what is said
pub record Hearing : Type 0 where
  pub state : State
  pub names : Names
  pub said : Said

-- the names stay
abbrev pub with_names : Names → Heard → Hearing
with_names names h = record { state = h.state; names = names; said = h.said }

abbrev pub boxed : Left → Hearing
boxed l = record { state = l.state; names = l.names; said = l.said }

abbrev pub quiet : Names → State → Hearing
quiet names s = record { state = s; names = names; said = silent }

abbrev pub tone_row : Tone → SignalRow
tone_row (tone.Phasor z) = row.Phasor
tone_row (tone.Osc z) = row.Osc
tone_row tone.Noise = row.Noise

abbrev pub signal_row : Signal → SignalRow
signal_row (signal.Sig z) = row.Sig
signal_row (signal.Operation o z) = row.SignalOperation
signal_row (signal.Function f) = row.SignalFunction
signal_row (signal.Clip l h) = row.SignalClip
signal_row signal.Line = row.Line
signal_row signal.Samphold = row.Samphold
signal_row (signal.Lop z) = row.Lop
signal_row (signal.Hip z) = row.Hip
signal_row (signal.Delwrite name z) = row.Delwrite
signal_row (signal.Delread name z) = row.Delread
signal_row (signal.Send w name) = row.SignalSend
signal_row (signal.Receive w name) = row.SignalReceive
signal_row (signal.Throw name) = row.Throw
signal_row (signal.Catch name) = row.Catch
signal_row signal.Snapshot = row.Snapshot
signal_row (signal.Tabread name) = row.SignalTabread
signal_row (signal.Dac channels) = row.Dac
signal_row signal.Inlet = row.SignalInlet
signal_row signal.Outlet = row.SignalOutlet

-- The objects that keep their arguments as a list, message boxes, and the plain ones. A message box's row tells its names too.
abbrev pub glue_heard : Names → Glue → State → ℕ → ℕ → List Atom → ℕ → Option (List ℤ) → Hearing
glue_heard names (glue.Message text) s inlet selector atoms now table = boxed (message_row names s selector atoms)
glue_heard names (glue.Trigger w outs) s inlet selector atoms now table = with_names names (list_row (glue.Trigger w outs) s inlet selector atoms)
glue_heard names (glue.Pack slots) s inlet selector atoms now table = with_names names (list_row (glue.Pack slots) s inlet selector atoms)
glue_heard names (glue.Unpack slots) s inlet selector atoms now table = with_names names (list_row (glue.Unpack slots) s inlet selector atoms)
glue_heard names (glue.Route args) s inlet selector atoms now table = with_names names (list_row (glue.Route args) s inlet selector atoms)
glue_heard names (glue.Select w args) s inlet selector atoms now table = with_names names (list_row (glue.Select w args) s inlet selector atoms)
glue_heard names (glue.ListAppend w a) s inlet selector atoms now table = with_names names (list_row (glue.ListAppend w a) s inlet selector atoms)
glue_heard names (glue.ListPrepend a) s inlet selector atoms now table = with_names names (list_row (glue.ListPrepend a) s inlet selector atoms)
glue_heard names (glue.ListSplit z) s inlet selector atoms now table = with_names names (list_row (glue.ListSplit z) s inlet selector atoms)
glue_heard names glue.ListTrim s inlet selector atoms now table = with_names names (list_row glue.ListTrim s inlet selector atoms)
glue_heard names glue.ListLength s inlet selector atoms now table = with_names names (list_row glue.ListLength s inlet selector atoms)
glue_heard names g s inlet selector atoms now table = with_names names (plain_row names g s inlet selector atoms now table)

-- What a box of a kind that keeps this does with a message at an inlet, at a time and beside the table that its kind names. Boxes of
-- other families hear nothing.
unfoldable pub heard : Names → Kind → State → ℕ → ℕ → List Atom → ℕ → Option (List ℤ) → Hearing
heard names (kind.Glue g) s inlet selector atoms now table = glue_heard names g s inlet selector atoms now table
heard names (kind.Tone t) s inlet selector atoms now table = with_names names (sounding_row names (tone_row t) s inlet selector atoms)
heard names (kind.Signal g) s inlet selector atoms now table = with_names names (sounding_row names (signal_row g) s inlet selector atoms)
heard names k s inlet selector atoms now table = quiet names s

-- a clock fires
unfoldable pub fired : Kind → State → Said
fired (kind.Glue g) s = plain.fired g s
fired k s = silent

-- `until` is resumed
abbrev pub quiet_state : State → Heard
quiet_state s = record { state = s; said = silent }

unfoldable pub resumed : Kind → State → Heard
resumed (kind.Glue g) s = plain.resumed g s
resumed k s = quiet_state s

-- an object that works with lists keeps one of at most 1,024 atoms
abbrev pub KeepsList : Glue → State → Type 0
KeepsList (glue.Trigger w outs) s = IsSmallState s
KeepsList (glue.Pack slots) s = IsSmallState s
KeepsList (glue.Unpack slots) s = IsSmallState s
KeepsList (glue.Route args) s = IsSmallState s
KeepsList (glue.Select w args) s = IsSmallState s
KeepsList (glue.ListAppend w a) s = IsSmallState s
KeepsList (glue.ListPrepend a) s = IsSmallState s
KeepsList (glue.ListSplit z) s = IsSmallState s
KeepsList glue.ListTrim s = IsSmallState s
KeepsList glue.ListLength s = IsSmallState s
KeepsList g s = Unit {0}

-- a message box keeps a text of at most 1,024 atoms, all of the table
abbrev pub KeepsText : Names → Glue → State → Type 0
KeepsText names (glue.Message text) s = message.KeepsText names s
KeepsText names g s = Unit {0}

-- What is asked of a kind and a state: their lists have at most 1,024 atoms, and their atoms are of the table.
pub record IsSmallBox (names : Names) (g : Glue) (s : State) : Type 0 where
  pub kind : IsSmallGlue g
  pub text : HasText names g
  pub lists : KeepsList g s
  pub message : KeepsText names g s

abbrev pub IsSmall : Names → Kind → State → Type 0
IsSmall names (kind.Glue g) s = IsSmallBox names g s
IsSmall names k s = Unit {0}

-- What is asked of a kind: the atoms of its text are of the table.
abbrev pub HasTextOf : Names → Glue → Type 0
HasTextOf names (glue.Message text) = All (IsOf names) text
HasTextOf names g = HasText names g

abbrev pub HasTexts : Names → Kind → Type 0
HasTexts names (kind.Glue g) = HasTextOf names g
HasTexts names k = Unit {0}
