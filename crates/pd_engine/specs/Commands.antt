-- What a command leads to.
use Rattle.std.specs.Prelude.{◌≡◌, ℕ, Bool, List, [], ◌∷◌, ◌++◌, codes, length, nat_lt, slice_get, Option, Some, None, option_and_then, if◌then◌else◌}
use Rattle.slab.specs.Slab.{get}
use Rattle.pd_atom.specs.declared.Atom.{Atom}
use Rattle.pd_kind.specs.Forming.{cut_atoms}
use Rattle.pd_order.specs.Listing.{Listing}
use Rattle.pd_grove.specs.Telling.{keys_in, inner_in}
use Rattle.pd_patch.specs.Telling.{order_in}
use Rattle.pd_say.specs.declared.refusals.Why.{Why}
use Rattle.pd_say.specs.declared.refusals.Why.TheVariants as why
use Rattle.pd_script.specs.declared.commands.Command.{Command}
use Rattle.pd_script.specs.declared.commands.Command.TheVariants as command
use Rattle.pd_hearing.specs.Worlds.{Net}
use Rattle.pd_engine.specs.declared.refusals.Outcome.{Outcome}
use Rattle.pd_engine.specs.declared.refusals.Outcome.TheVariants.{Done, Refused, Nothing}
use Rattle.pd_wiring.specs.declared.refusals.EditRefusal.TheVariants.{NoDocument, NoCanvas, NoBox, NoPort, NoWire, SignalIntoControl, TextTooLong, TooDeep, ShelfFault, SymbolsFull, TooManyBoxes, TooManyWires, TooMuchSound, NoMemory}
use Rattle.pd_stage.specs.Choices.{Edits, Saves, Undoes, Redoes, Choice}
use Rattle.pd_stage.specs.Choices as stage
use Rattle.pd_stage.specs.Stages.{Stage, Taken, Passage, saying, joined}
use Rattle.pd_stage.specs.Lines.{numbers_told, boxes_text}
use Rattle.pd_stage.specs.Leads.{Sinks, Comes}
use Rattle.pd_stage.specs.Events.{event, Message, edit_event}
use Rattle.pd_engine.specs.Messages.{message_in}

-- the canvas to which a path of box numbers leads from a canvas
abbrev pub step_to : Net → ℕ → ℕ → Option ℕ
step_to net canvas number = option_and_then (λ k. inner_in (net.nodes k)) (slice_get (keys_in (get net.boards canvas)) number)

abbrev pub led_to : Net → Option ℕ → List ℕ → Option ℕ
led_to net here [] = here
led_to net here (n ∷ path) = led_to net (option_and_then (λ canvas. step_to net canvas n) here) path

-- the signal order of a canvas
abbrev pub order_text : Net → List ℕ → Option Listing → List ℕ
order_text net path None = codes "error: show: no canvas\n"
order_text net path (Some o) = boxes_text (codes "chain ") path (numbers_told net o.chain) ++ boxes_text (codes "stuck ") path (numbers_told net o.stuck)

abbrev pub shown : Net → List ℕ → List ℕ
shown net path = order_text net path (option_and_then (λ c. order_in net.orders.items c) (led_to net (Some net.root) path))

-- a message of more than 1,024 atoms is cut, with a line
abbrev pub cut_line : Bool → List ℕ
cut_line is_cut = if is_cut then codes "error: message cut at 1024 atoms\n" else []

abbrev pub cut_text : List Atom → List ℕ
cut_text atoms = cut_line (nat_lt 1024 (length atoms))

abbrev pub sent : ℕ → List Atom → Stage → Passage
sent name atoms s =
    joined (saying s (cut_text (message_in atoms).atoms)) (event s (Message name (message_in atoms).selector (cut_atoms (message_in atoms).atoms)))

-- A message is sent by an event, and an edit, a save, an undo or a redo is one: what it comes to is told by what is ahead.
unfoldable pub commanded : Command → Stage → Passage
commanded (command.Send name atoms) s = sent name atoms s
commanded (command.Edit place edit) s = edit_event (Edits place.document place.path edit) s
commanded (command.Save document) s = edit_event (Saves document) s
commanded (command.Show path) s = saying s (shown s.net path)
commanded command.Undo s = edit_event Undoes s
commanded command.Redo s = edit_event Redoes s

-- what is answered to what is refused for a reason
abbrev pub refused_as : Why → Outcome
refused_as why.NothingToUndo = Nothing
refused_as why.NothingToRedo = Nothing
refused_as why.NoDocument = Refused NoDocument
refused_as why.NoCanvas = Refused NoCanvas
refused_as (why.NoBox number) = Refused (NoBox number)
refused_as (why.NoPort number port outlet) = Refused (NoPort number port outlet)
refused_as why.NoWire = Refused NoWire
refused_as why.SignalIntoControl = Refused SignalIntoControl
refused_as why.TextTooLong = Refused TextTooLong
refused_as why.TooDeep = Refused TooDeep
refused_as why.ShelfFault = Refused ShelfFault
refused_as why.SymbolsFull = Refused SymbolsFull
refused_as why.TooManyBoxes = Refused TooManyBoxes
refused_as why.TooManyWires = Refused TooManyWires
refused_as why.TooMuchSound = Refused TooMuchSound
refused_as why.NoMemory = Refused NoMemory

-- what is answered where an edit, a save, an undo or a redo came to this
abbrev pub outcome_of : Choice → Outcome
outcome_of (stage.Refuses reason) = refused_as reason
outcome_of (stage.Lacks net) = Refused NoMemory
outcome_of (stage.Makes m) = Done

abbrev pub first_outcome : List Taken → Outcome
first_outcome [] = Done
first_outcome (t ∷ edits) = outcome_of t.choice

-- what a command answers, by the edits that were taken
abbrev pub answered : Command → List Taken → Outcome
answered (command.Edit place edit) edits = first_outcome edits
answered (command.Save document) edits = first_outcome edits
answered command.Undo edits = first_outcome edits
answered command.Redo edits = first_outcome edits
answered c edits = Done

-- a command was carried out, and answers so
pub record IsCarriedOut (cmd : Command) (outcome : Outcome) (from to : List Choice → Stage) (old new : Sinks) : Type 0 where
  pub comes : Comes (commanded cmd) from to old new
  pub answer : outcome ≡ answered cmd comes.edits
