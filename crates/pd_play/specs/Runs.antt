-- The run of a script: its records, one after another, and how it ends.
use Rattle.std.specs.Prelude.{◌≡◌, ℕ, ◌+◌, ◌*◌, ◌==◌, ℤ, pos, negsuc, List, [], ◌∷◌, length, nat_lt, Option, Some, None, if◌then◌else◌}
use Rattle.pd_atom.specs.Names.{Names}
use Rattle.pd_feed.specs.Script.{Script as Text}
use Rattle.pd_feed.specs.declared.feed.Fed.{Fed}
use Rattle.pd_feed.specs.declared.feed.Fed.TheVariants as fed
use Rattle.pd_script.specs.Tokens.{tokens_of}
use Rattle.pd_script.specs.Scripts.{command_of}
use Rattle.pd_script.specs.declared.commands.Command.{Command}
use Rattle.pd_script.specs.declared.commands.Script.{Script}
use Rattle.pd_script.specs.declared.commands.Script.TheVariants as script
use Rattle.pd_stage.specs.Items.{Item}
use Rattle.pd_stage.specs.Stages.{Stage, Taken, Passage, with_names, still, after, joined, followed_by}
use Rattle.pd_stage.specs.Times.{advanced, finished}
use Rattle.pd_engine.specs.Commands.{commanded}
use Rattle.pd_play.specs.declared.status.Status.{Status}
use Rattle.pd_play.specs.declared.status.Status.TheVariants.{Done, ScriptBad, ReadFault}

-- How a run stands between two records: how the patch stands, how many samples a second has, how many records there were, and the script's
-- time in millionths of a millisecond.
pub record Point : Type 0 where
  pub stage : Stage
  pub rate : ℕ
  pub number : ℕ
  pub time : ℕ

-- what a run leads to: how it ends, and what happens on the way
pub record Run : Type 0 where
  pub status : Status
  pub passage : Passage

-- the longest time of a script: 86,400,000 milliseconds
abbrev pub most_time : ℕ
most_time = 86400000000000

abbrev pub at_stage : Point → Stage → Point
at_stage p s = record { stage = s; rate = p.rate; number = p.number; time = p.time }

abbrev pub at_time : Point → ℕ → Point
at_time p time = record { stage = p.stage; rate = p.rate; number = p.number; time = time }

-- one record more
abbrev pub counted : Point → Point
counted p = record { stage = p.stage; rate = p.rate; number = p.number + 1; time = p.time }

-- nothing more happens
abbrev pub ended : Point → Status → Run
ended p status = record { status = status; passage = still p.stage }

-- the record that was counted last is no command
abbrev pub bad : Point → Run
bad p = ended p (ScriptBad p.number)

-- a part of a run, and what follows
abbrev pub behind : Passage → Run → Run
behind part run = record { status = run.status; passage = joined part run.passage }

-- these items and edits come first
abbrev pub run_after : List Item → List Taken → Run → Run
run_after items edits run = record { status = run.status; passage = after items edits run.passage }

-- the script's time is reached: it is counted in units, of which a millionth of a millisecond has as many as a second has samples
unfoldable pub reached : Point → Passage
reached p = advanced (p.time * p.rate) p.stage

-- the block that began runs, and the run has come to its end
unfoldable pub done : Stage → Run
done s = record { status = Done; passage = finished s }

-- the end at the script's time
abbrev pub end_reached : Point → Run
end_reached p = behind (reached p) (done (reached p).stage)

-- a command at the script's time
abbrev pub carried_out : Command → Point → Passage
carried_out c p = followed_by (reached p) (commanded c)

abbrev pub goes_on : Point → (Point → Run) → Passage → Run
goes_on p rest part = behind part (rest (at_stage p part.stage))

-- what a record says at the script's time, and the rest of the run
abbrev pub said_run : Script → Point → (Point → Run) → Run
said_run (script.Run c) p rest = goes_on p rest (carried_out c p)
said_run script.End p rest = end_reached p

-- a script has no longer time
abbrev pub timed_run : ℕ → Script → Point → (Point → Run) → Run
timed_run time s p rest = if nat_lt most_time time then bad p else said_run s (at_time p time) rest

-- no time is below 0
abbrev pub millionths : ℤ → ℕ
millionths (pos n) = n
millionths (negsuc n) = 0

-- what a record reads as: the time after the record before, what it says, and the names with those that it brings
abbrev pub read_run : Option (ℤ × Script × Names) → Point → (Point → Run) → Run
read_run None p rest = bad p
read_run (Some r) p rest = timed_run (p.time + millionths r.0) r.1 (at_stage p (with_names p.stage r.2)) rest

-- A record that was counted, and the rest of the run. One of white space alone is passed over.
unfoldable pub record_run : List ℕ → Point → (Point → Run) → Run
record_run text p rest = if length text == 0 then rest p else read_run (command_of p.stage.names (tokens_of text)) p rest

abbrev pub records_run : List (List ℕ) → (Point → Run) → Point → Run
records_run [] last p = last p
records_run (text ∷ texts) last p = record_run text (counted p) (records_run texts last)

-- what comes behind the bytes of a script: nothing, or the source failed there
pub data Ending : Type 0 where
  Whole : Ending
  Broken : Ending

-- A rest that is too long, or that is no record, counts as the next one. Where the source failed, only what is too long is that for sure.
unfoldable pub end_run : Ending → Fed → Point → Run
end_run Whole fed.End p = done p.stage
end_run Broken fed.End p = ended p ReadFault
end_run Whole fed.Unfinished p = bad (counted p)
end_run Broken fed.Unfinished p = ended p ReadFault
end_run _ _ p = bad (counted p)

-- the run of a script from a point
abbrev pub run_of : Ending → Text → Point → Run
run_of ending script p = records_run script.records (end_run ending script.end) p

-- The run of a script meets an `end`: it comes to it among the records, and so is done even where the source fails behind them.
abbrev pub MeetsEnd : Text → Point → Type 0
MeetsEnd script p = (run_of Broken script p).status ≡ Done
