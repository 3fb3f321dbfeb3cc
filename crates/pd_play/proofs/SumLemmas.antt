-- The samples of a run are added up.
use Rattle.std.proofs.Common.{◌≡◌, ◌+◌, ◌*◌, ◌==◌, ℕ, ℤ, Bool, true, false, List, [], ◌∷◌, length, Option, Some, None, refl}
use Rattle.std.specs.Prelude.{nat_lt, if◌then◌else◌}
use Rattle.pd_atom.specs.Names.{Names}
use Rattle.pd_feed.specs.Script.{Script as Text}
use Rattle.pd_feed.specs.declared.feed.Fed.{Fed}
use Rattle.pd_feed.specs.declared.feed.Fed.TheVariants as fed
use Rattle.pd_script.specs.Tokens.{tokens_of}
use Rattle.pd_script.specs.Scripts.{command_of}
use Rattle.pd_script.specs.declared.commands.Command.{Command}
use Rattle.pd_script.specs.declared.commands.Command.TheVariants as command
use Rattle.pd_script.specs.declared.commands.Script.{Script}
use Rattle.pd_script.specs.declared.commands.Script.TheVariants as script
use Rattle.pd_patch.specs.declared.patch.Patch.{Patch}
use Rattle.pd_made.specs.Tallies.{nothing, tallied}
use Rattle.pd_kind.specs.Forming.{cut_atoms}
use Rattle.pd_stage.specs.Items.{samples_of}
use Rattle.pd_stage.specs.Choices.{Base, Choice}
use Rattle.pd_stage.specs.Stages.{Stage, Passage, with_names, saying}
use Rattle.pd_stage.specs.Events.{event, Message, Loading}
use Rattle.pd_stage.specs.Sums.{AddsUp}
use Rattle.pd_stage.proofs.SumLemmas.{still_adds, saying_adds, joined_adds, event_adds, edit_event_adds, advanced_adds, finished_adds}
use Rattle.pd_engine.specs.Messages.{message_in}
use Rattle.pd_engine.specs.Commands.{cut_text, commanded}
use Rattle.pd_engine.specs.Opening.{first_stage, opened}
use Rattle.pd_play.specs.Runs.{Point, Run, Ending, Whole, Broken, most_time, at_time, at_stage, counted, bad, behind, reached, done, carried_out, said_run, timed_run, millionths, read_run, record_run, records_run, end_run, run_of}
use Rattle.pd_play.specs.Patches.{start}

-- what is true of a command
commanded_adds : (c : Command) (s : Stage) → AddsUp s (commanded c s)
unfolding commanded
commanded_adds (command.Send name atoms) s =
    let lines : Passage = saying s (cut_text (message_in atoms).atoms) in
    joined_adds s lines (event s (Message name (message_in atoms).selector (cut_atoms (message_in atoms).atoms))) (saying_adds s _) (event_adds s _)
commanded_adds (command.Edit place edit) s = edit_event_adds _ s
commanded_adds (command.Save document) s = edit_event_adds _ s
commanded_adds (command.Show path) s = saying_adds s _
commanded_adds command.Undo s = edit_event_adds _ s
commanded_adds command.Redo s = edit_event_adds _ s

-- a run adds up from a stage
abbrev Adds : Stage → Run → Type 0
Adds s run = AddsUp s run.passage

-- so does what follows, from each point
abbrev Follows : (Point → Run) → Type 0
Follows rest = (p : Point) → Adds p.stage (rest p)

reached_adds : (p : Point) → AddsUp p.stage (reached p)
unfolding reached
reached_adds p = advanced_adds (p.time * p.rate) p.stage

done_adds : (s : Stage) → Adds s (done s)
unfolding done
done_adds s = finished_adds s

bad_adds : (p : Point) → Adds p.stage (bad p)
bad_adds p = still_adds p.stage p.stage refl

said_adds : (s : Script) (p : Point) (rest : Point → Run) → Follows rest → Adds p.stage (said_run s p rest)
said_adds (script.Run c) p rest h =
    let part : Passage = carried_out c p in
    joined_adds p.stage part (rest (at_stage p part.stage)).passage
    (joined_adds p.stage (reached p) (commanded c (reached p).stage) (reached_adds p) (commanded_adds c (reached p).stage)) (h (at_stage p part.stage))
said_adds script.End p rest h = joined_adds p.stage (reached p) (done (reached p).stage).passage (reached_adds p) (done_adds (reached p).stage)

either_adds : (b : Bool) (s : Stage) (x y : Run) → Adds s x → Adds s y → Adds s (if b then x else y)
either_adds true s x y h k = h
either_adds false s x y h k = k

timed_adds : (time : ℕ) (s : Script) (p : Point) (rest : Point → Run) → Follows rest → Adds p.stage (timed_run time s p rest)
timed_adds time s p rest h = either_adds (nat_lt most_time time) p.stage (bad p) (said_run s (at_time p time) rest) (bad_adds p) (said_adds s (at_time p time) rest h)

read_adds : (o : Option (ℤ × Script × Names)) (p : Point) (rest : Point → Run) → Follows rest → Adds p.stage (read_run o p rest)
read_adds None p rest h = bad_adds p
read_adds (Some r) p rest h = timed_adds (p.time + millionths r.0) r.1 (at_stage p (with_names p.stage r.2)) rest h

record_adds : (text : List ℕ) (p : Point) (rest : Point → Run) → Follows rest → Adds p.stage (record_run text p rest)
unfolding record_run
record_adds text p rest h =
    let read : Run = read_run (command_of p.stage.names (tokens_of text)) p rest in
    either_adds (length text == 0) p.stage (rest p) read (h p) (read_adds (command_of p.stage.names (tokens_of text)) p rest h)

records_add : (texts : List (List ℕ)) (last : Point → Run) → Follows last → Follows (records_run texts last)
records_add [] last h p = h p
records_add (text ∷ texts) last h p = record_adds text (counted p) (records_run texts last) (records_add texts last h)

end_adds : (ending : Ending) (v : Fed) → Follows (end_run ending v)
unfolding end_run
end_adds Whole fed.End p = done_adds p.stage
end_adds Broken fed.End p = still_adds p.stage p.stage refl
end_adds Whole fed.Unfinished p = bad_adds (counted p)
end_adds Broken fed.Unfinished p = still_adds p.stage p.stage refl
end_adds Whole fed.Record p = bad_adds (counted p)
end_adds Broken fed.Record p = bad_adds (counted p)
end_adds Whole fed.TooLong p = bad_adds (counted p)
end_adds Broken fed.TooLong p = bad_adds (counted p)

pub run_adds : (ending : Ending) (text : Text) (p : Point) → AddsUp p.stage (run_of ending text p).passage
run_adds ending text p = records_add text.records (end_run ending text.end) (end_adds ending text.end) p

opened_adds : (file : List ℕ) (patch : Patch) (names : Names) (base : Base) (edits : List Choice) → AddsUp (first_stage file patch names base edits) (opened file patch names base edits)
opened_adds file patch names base edits =
    let s : Stage = first_stage file patch names base edits in
    joined_adds s (saying s _) (event s (Loading _)) (saying_adds s _) (event_adds s (Loading _))

pub whole_adds : (file : List ℕ) (patch : Patch) (names : Names) (base : Base) (edits : List Choice) (rate : ℕ) (ending : Ending) (text : Text) →
    let part = opened file patch names base edits in
    let passage = (behind part (run_of ending text (start part.stage rate))).passage in
    passage.stage.tally ≡ tallied nothing (samples_of passage.items)
whole_adds file patch names base edits rate ending text =
    let s : Stage = first_stage file patch names base edits in
    let part : Passage = opened file patch names base edits in
    let rest : Passage = (run_of ending text (start part.stage rate)).passage in
    joined_adds s part rest (opened_adds file patch names base edits) (run_adds ending text (start part.stage rate)) [] refl
