-- The run of a script where it is given what events and blocks come to: pd_play's definitions, with these in place of pd_engine's own.
use Rattle.std.specs.Prelude.{ℕ, ◌+◌, ◌*◌, ◌==◌, ℤ, List, [], ◌∷◌, length, nat_lt, Option, Some, None, if◌then◌else◌}
use Rattle.pd_atom.specs.Names.{Names}
use Rattle.pd_feed.specs.Script.{Script as Text}
use Rattle.pd_feed.specs.declared.feed.Fed.{Fed}
use Rattle.pd_feed.specs.declared.feed.Fed.TheVariants as fed
use Rattle.pd_script.specs.Tokens.{tokens_of}
use Rattle.pd_script.specs.Scripts.{command_of}
use Rattle.pd_script.specs.declared.commands.Script.{Script}
use Rattle.pd_script.specs.declared.commands.Script.TheVariants as script
use Rattle.pd_patch.specs.declared.patch.Patch.{Patch}
use Rattle.pd_again_law.specs.Runs.{Base, Choice, Stage, Passage, with_names, followed_by, Ways, commanded_by, advanced_by, finished_by, opened_by}
use Rattle.pd_play.specs.Runs.{Point, Run, Ending, Whole, most_time, at_stage, at_time, counted, bad, behind, goes_on, millionths, end_run}
use Rattle.pd_play.specs.Patches.{start}
use Rattle.pd_play.specs.declared.status.Status.TheVariants.{Done}

-- the script's time is reached
abbrev pub reached_by : Ways → Point → Passage
reached_by ways p = advanced_by ways (p.time * p.rate) p.stage

-- the run has come to its end
abbrev pub done_by : Ways → Stage → Run
done_by ways s = record { status = Done; passage = finished_by ways s }

-- what a record says at the script's time, and the rest of the run
abbrev pub said_run_by : Ways → Script → Point → (Point → Run) → Run
said_run_by ways (script.Run c) p rest = goes_on p rest (followed_by (reached_by ways p) (commanded_by ways c))
said_run_by ways script.End p rest = behind (reached_by ways p) (done_by ways (reached_by ways p).stage)

-- a script has no longer time
abbrev pub timed_run_by : Ways → ℕ → Script → Point → (Point → Run) → Run
timed_run_by ways time s p rest = if nat_lt most_time time then bad p else said_run_by ways s (at_time p time) rest

-- what a record reads as
abbrev pub read_run_by : Ways → Option (ℤ × Script × Names) → Point → (Point → Run) → Run
read_run_by ways None p rest = bad p
read_run_by ways (Some r) p rest = timed_run_by ways (p.time + millionths r.0) r.1 (at_stage p (with_names p.stage r.2)) rest

-- a record that was counted, and the rest of the run
unfoldable pub record_run_by : Ways → List ℕ → Point → (Point → Run) → Run
record_run_by ways text p rest = if length text == 0 then rest p else read_run_by ways (command_of p.stage.names (tokens_of text)) p rest

abbrev pub records_run_by : Ways → List (List ℕ) → (Point → Run) → Point → Run
records_run_by ways [] last p = last p
records_run_by ways (text ∷ texts) last p = record_run_by ways text (counted p) (records_run_by ways texts last)

-- only at the end of a whole script does something happen behind the last record
unfoldable pub end_run_by : Ways → Ending → Fed → Point → Run
end_run_by ways Whole fed.End p = done_by ways p.stage
end_run_by ways ending answer p = end_run ending answer p

-- the run of a script from a point
abbrev pub run_of_by : Ways → Ending → Text → Point → Run
run_of_by ways ending text p = records_run_by ways text.records (end_run_by ways ending text.end) p

-- a patch that has grown from a file opens, and then the script runs, where edits go on from this, the edits to come lead to this and a second has so
-- many samples
abbrev pub played_by : Ways → List ℕ → Patch → Names → Base → List Choice → ℕ → Ending → Text → Run
played_by ways file p names base edits rate ending text =
    behind (opened_by ways file p names base edits) (run_of_by ways ending text (start (opened_by ways file p names base edits).stage rate))
