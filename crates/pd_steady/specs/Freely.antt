-- Events, edits and blocks in which nothing is passed over: each box does with each message what its object's definition says, and runs its own row
-- in each block.
use Rattle.std.specs.Prelude.{ℕ, ◌-◌, true}
use Rattle.pd_turns.specs.Turns.{World}
use Rattle.pd_hearing.specs.Worlds.{Net, Kept}
use Rattle.pd_hearing.specs.Hearing.{fired_at}
use Rattle.pd_stack.specs.Tasks.{to_name}
use Rattle.pd_block.specs.Blocks.{Played}
use Rattle.pd_sound_law.specs.Freely.{free_block}
use Rattle.pd_guards.specs.Freely.{ran, told_by, all_loaded}
use Rattle.pd_stage.specs.Stages.{Stage, Passage}
use Rattle.pd_stage.specs.Choices.{Wanted}
use Rattle.pd_stage.specs.Events.{Beginning, Message, Firing, Loading, begun, event_after_by, edit_event_by}
use Rattle.pd_stage.specs.Times.{block_units, block_net, sound_at, sounding}
use Rattle.pd_steady.specs.Runs.{Ways}

-- what becomes of deliveries, by the recursion over the objects' own definitions
abbrev pub deliveries : Net → ℕ → World Kept → Beginning → World Kept
deliveries net now w (Message name selector atoms) = ran net now w (to_name net 1 selector atoms name true)
deliveries net now w (Firing owner) = told_by net now owner (fired_at net w.kept.states owner) w
deliveries net now w (Loading boxes) = all_loaded net now w boxes

-- an event, with the edits that were asked for and the boxes that are loaded behind them
unfoldable pub event_freely : Stage → Beginning → Passage
event_freely s b = event_after_by all_loaded s (deliveries s.net s.time (begun s) b)

-- an edit that is an event
unfoldable pub edit_freely : Wanted → Stage → Passage
edit_freely wanted s = edit_event_by all_loaded wanted s

-- the boxes run for the block that comes next, each its own row
abbrev pub played_freely : Stage → Played
played_freely s = free_block 257 (block_net s) (sound_at s) (s.block_end - block_units)

-- its samples are written
unfoldable pub block_freely : Stage → Passage
block_freely s = sounding s (played_freely s)

-- a run in which nothing is passed over
abbrev pub free_ways : Ways
free_ways = record { event = event_freely; edit = edit_freely; block = block_freely }
