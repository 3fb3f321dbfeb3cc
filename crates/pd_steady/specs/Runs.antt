-- A run where it is given what events and blocks come to: pd_engine's definitions, with these in place of its own.
use Rattle.std.specs.Prelude.{ℕ, zero, suc, ◌+◌, ◌-◌, nat_lt, nat_le, List, Option, Some, None, if◌then◌else◌}
use Rattle.pd_atom.specs.Names.{Names}
use Rattle.pd_atom.specs.declared.Atom.{Atom}
use Rattle.pd_clock.specs.Queue.{Clock}
use Rattle.pd_kind.specs.Forming.{cut_atoms}
use Rattle.pd_script.specs.declared.commands.Command.{Command}
use Rattle.pd_script.specs.declared.commands.Command.TheVariants as command
use Rattle.pd_grove.specs.TextOrder.{keys_in_order}
use Rattle.pd_patch.specs.declared.patch.Patch.{Patch}
use Rattle.pd_patch.specs.Report.{notices_in, loads_among}
use Rattle.pd_stage.specs.Choices.{Base, Choice, Wanted, Edits, Saves, Undoes, Redoes}
use Rattle.pd_stage.specs.Stages.{Stage, Passage, still, saying, joined, followed_by}
use Rattle.pd_stage.specs.Events.{Beginning, Message, Firing, Loading, event, edit_event}
use Rattle.pd_engine.specs.Messages.{message_in}
use Rattle.pd_stage.specs.Times.{block_units, most_fired, next_clock, taken_off, with_taken, with_fired, block_sounds, time_is}
use Rattle.pd_engine.specs.Commands.{cut_text, shown}
use Rattle.pd_engine.specs.Remarks.{remarks_text}
use Rattle.pd_engine.specs.Opening.{first_stage}

-- what becomes, at a stage, of what begins an event, of an edit that is one, and of the block that comes next
pub record Ways : Type 0 where
  pub event : Stage → Beginning → Passage
  pub edit : Wanted → Stage → Passage
  pub block : Stage → Passage

-- pd_engine's own
abbrev pub own_ways : Ways
own_ways = record { event = event; edit = edit_event; block = block_sounds }

-- a clock that was taken off fires
abbrev pub fires_by : Ways → Stage → Clock → Passage
fires_by ways s c = ways.event (with_fired (with_taken s (taken_off s.clocks)) c.time) (Firing c.owner)

abbrev pub fires_or_not_by : Ways → Stage → (Stage → Passage) → Option Clock → Passage
fires_or_not_by ways s rest None = still s
fires_or_not_by ways s rest (Some c) = followed_by (fires_by ways s c) rest

-- the clocks below a limit fire, so many at most
unfoldable pub fires_below_by : Ways → ℕ → ℕ → Stage → Passage
fires_below_by ways zero limit s = still s
fires_below_by ways (suc n) limit s = fires_or_not_by ways s (fires_below_by ways n limit) (next_clock limit s.clocks)

-- until there have been 10,000 since the last block
abbrev pub clocks_fire_by : Ways → ℕ → Stage → Passage
clocks_fire_by ways limit s = fires_below_by ways (most_fired - s.fired) limit s

-- a block: the clocks below its end fire, and it runs
abbrev pub block_runs_by : Ways → Stage → Passage
block_runs_by ways s = followed_by (clocks_fire_by ways s.block_end s) ways.block

-- Each block that ends by a time runs. The number bounds the recursion.
unfoldable pub blocks_run_by : Ways → ℕ → ℕ → Stage → Passage
blocks_run_by ways zero to s = still s
blocks_run_by ways (suc n) to s = if nat_le s.block_end to then followed_by (block_runs_by ways s) (blocks_run_by ways n to) else still s

-- the clocks below a time fire, and then it is that time
abbrev pub comes_to_by : Ways → ℕ → Stage → Passage
comes_to_by ways to s = followed_by (clocks_fire_by ways to s) (time_is to)

-- to a time: each block that ends by it, and then the clocks below it
abbrev pub advanced_by : Ways → ℕ → Stage → Passage
advanced_by ways to s = followed_by (blocks_run_by ways (to + 1) to s) (comes_to_by ways to)

-- the block runs that began before the present time
abbrev pub finished_by : Ways → Stage → Passage
finished_by ways s = if nat_lt s.block_end (s.time + block_units) then block_runs_by ways s else still s

-- a message is sent, cut at 1,024 atoms
abbrev pub sent_by : Ways → ℕ → List Atom → Stage → Passage
sent_by ways name atoms s =
    joined (saying s (cut_text (message_in atoms).atoms)) (ways.event s (Message name (message_in atoms).selector (cut_atoms (message_in atoms).atoms)))

-- what a command leads to: each is an event but the one that shows an order
unfoldable pub commanded_by : Ways → Command → Stage → Passage
commanded_by ways (command.Send name atoms) s = sent_by ways name atoms s
commanded_by ways (command.Edit place edit) s = ways.edit (Edits place.document place.path edit) s
commanded_by ways (command.Save document) s = ways.edit (Saves document) s
commanded_by ways (command.Show path) s = saying s (shown s.net path)
commanded_by ways command.Undo s = ways.edit Undoes s
commanded_by ways command.Redo s = ways.edit Redoes s

-- a patch that has grown from a file opens, with these names: its lines are said, and its load boxes are loaded
abbrev pub opened_by : Ways → List ℕ → Patch → Names → Base → List Choice → Passage
opened_by ways file p names base ahead =
    joined (saying (first_stage file p names base ahead) (remarks_text names p (notices_in p.grove p.web p.orders.items)))
    (ways.event (first_stage file p names base ahead) (Loading (loads_among p.grove (keys_in_order p.grove))))
