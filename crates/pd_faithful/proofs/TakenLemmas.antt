-- Each edit of a run takes the first of what is ahead. So the edits behind those that are told are refused.
use Rattle.std.proofs.Common.{◌≡◌, ◌+◌, ◌-◌, ◌*◌, ◌==◌, ℕ, ℤ, zero, suc, Bool, true, false, nat_lt, nat_le, if◌then◌else◌, inl, inr, List, [], ◌∷◌, ◌++◌, length, slice_get, Option, Some, None, refl, sym, ap, subst, ◌∙◌}
use Rattle.std.proofs.lemmas.List.{append-nil}
use Rattle.pd_atom.specs.Names.{Names}
use Rattle.pd_canvas.specs.declared.edits.Edit.{Edit}
use Rattle.pd_clock.specs.Queue.{Clock}
use Rattle.pd_feed.specs.Script.{Script as Text}
use Rattle.pd_feed.specs.declared.feed.Fed.{Fed}
use Rattle.pd_feed.specs.declared.feed.Fed.TheVariants as fed
use Rattle.pd_script.specs.Tokens.{tokens_of}
use Rattle.pd_script.specs.Scripts.{command_of}
use Rattle.pd_script.specs.declared.commands.Command.{Command}
use Rattle.pd_script.specs.declared.commands.Command.TheVariants as command
use Rattle.pd_script.specs.declared.commands.Script.{Script}
use Rattle.pd_script.specs.declared.commands.Script.TheVariants as script
use Rattle.pd_patch.specs.declared.patch.Patch.{Patch}
use Rattle.pd_turns.specs.Turns.{World}
use Rattle.pd_walk.specs.Outcome.{all_loaded}
use Rattle.pd_hearing.specs.Worlds.{Kept}
use Rattle.pd_again_law.specs.Runs.{Base, Wanted, Asks, Choice, Refuses, Lacks, Makes, first_choice, later, loads_of_choice, Stage, Taken, choices_of, Passage, with_names, with_ahead, still, joined, followed_by, AreLawful, Beginning, Firing, Left, whole, left_after, going_on, after_deliveries, stage_by, edit_taken, loaded_by, edit_loaded_by, asked_by, edits_taken_by, edits_of_by, delivered, with_kept, event, edit_event, most_fired, block_units, next_clock, taken_off, with_taken, with_fired, fires, fires_or_not, fires_below, clocks_fire, block_sounds, block_runs, blocks_run, time_is, comes_to, advanced, finished, Sinks, commanded, first_stage, opened}
use Rattle.pd_again_law.proofs.Runs.{IsRefusal, AreFair, lawful_fair}
use Rattle.pd_play.specs.Runs.{Point, Run, Ending, Whole, Broken, most_time, at_stage, at_time, counted, bad, millionths, reached, done, carried_out, said_run, read_run, record_run, records_run, end_run, run_of}
use Rattle.pd_play.specs.Playing.{Plays}
use Rattle.pd_play.specs.Patches.{with_line}
use Rattle.pd_play.specs.declared.status.Status.{Status}

-- what is ahead behind these edits
abbrev spent : List Choice → List Taken → List Choice
spent ahead [] = ahead
spent ahead (t ∷ edits) = spent (later ahead) edits

-- each came to the first of what was ahead
abbrev Follow : List Choice → List Taken → Type 0
Follow ahead [] = Unit {0}
Follow ahead (t ∷ edits) = (t.choice ≡ first_choice ahead) × Follow (later ahead) edits

spent_both : (ahead : List Choice) (a b : List Taken) → spent ahead (a ++ b) ≡ spent (spent ahead a) b
spent_both ahead [] b = refl
spent_both ahead (t ∷ a) b = spent_both (later ahead) a b

follow_both : (ahead : List Choice) (a b : List Taken) → Follow ahead a → Follow (spent ahead a) b → Follow ahead (a ++ b)
follow_both ahead [] b h k = k
follow_both ahead (t ∷ a) b h k = (h.0, follow_both (later ahead) a b h.1 k)

-- a part of a run takes what is ahead, and leaves the rest
pub record Takes (ahead : List Choice) (p : Passage) : Type 0 where
  pub follow : Follow ahead p.edits
  pub left : p.stage.ahead ≡ spent ahead p.edits

joined_take : (ahead : List Choice) (p q : Passage) → Takes ahead p → Takes p.stage.ahead q → Takes ahead (joined p q)
joined_take ahead p q a b = record {
  follow = follow_both ahead p.edits q.edits a.follow (subst (λ (x : List Choice). Follow x q.edits) a.left b.follow);
  left = b.left ∙ ap (λ (x : List Choice). spent x q.edits) a.left ∙ sym (spent_both ahead p.edits q.edits);
}

still_takes : (s : Stage) → Takes s.ahead (still s)
still_takes s = record { follow = tt; left = refl }

if_takes : (b : Bool) (ahead : List Choice) (p q : Passage) → Takes ahead p → Takes ahead q → Takes ahead (if b then p else q)
if_takes true ahead p q h k = h
if_takes false ahead p q h k = k

-- ---- events

left_by : (s : Stage) (c : Choice) → (stage_by s c).ahead ≡ s.ahead
left_by s (Refuses why) = refl
left_by s (Lacks net) = refl
left_by s (Makes m) = refl

taken_takes : (wanted : Wanted) (s : Stage) → Takes s.ahead (edit_taken wanted s)
unfolding edit_taken
taken_takes wanted s = record { follow = (refl, tt); left = left_by (with_ahead s (later s.ahead)) (first_choice s.ahead) }

-- deliveries, and then the rest of the event
come_take : (s : Stage) (w : World Kept) (rest : Left → Stage → Passage) → ((l : Left) (r : Stage) → Takes r.ahead (rest l r))
    → Takes s.ahead (followed_by (after_deliveries s w) (rest (left_after w)))
come_take s w rest f =
    joined_take s.ahead (after_deliveries s w) (rest (left_after w) (with_kept s w.kept)) (record { follow = tt; left = refl }) (f (left_after w) (with_kept s w.kept))

loaded_take : (wanted : Wanted) (l : Left) (rest : Left → Stage → Passage) → ((l : Left) (r : Stage) → Takes r.ahead (rest l r)) → (s : Stage)
    → Takes s.ahead (edit_loaded_by all_loaded wanted l rest s)
loaded_take wanted l rest f s =
    let p : Passage = edit_taken wanted s in
    let boxes : List ℕ = loads_of_choice (first_choice s.ahead) in
    joined_take s.ahead p (loaded_by all_loaded boxes l rest p.stage) (taken_takes wanted s)
    (come_take p.stage (all_loaded p.stage.net p.stage.time (going_on p.stage l) boxes) rest f)

asked_take : (rest : Left → Stage → Passage) → ((l : Left) (r : Stage) → Takes r.ahead (rest l r)) → (l : Left) (s : Stage) (o : Option (List ℕ × Edit))
    → Takes s.ahead (asked_by all_loaded rest l s o)
asked_take rest f l s None = still_takes s
asked_take rest f l s (Some asked) = loaded_take (Asks asked.0 asked.1) l rest f s

edits_take : (n place : ℕ) (l : Left) (s : Stage) → Takes s.ahead (edits_taken_by all_loaded n place l s)
unfolding edits_taken_by
edits_take zero place l s = still_takes s
edits_take (suc n) place l s = asked_take (edits_taken_by all_loaded n (place + 1)) (edits_take n (place + 1)) l s (slice_get l.asked place)

all_take : (l : Left) (s : Stage) → Takes s.ahead (edits_of_by all_loaded l s)
all_take l s = edits_take _ 0 l s

event_takes : (s : Stage) (b : Beginning) → Takes s.ahead (event s b)
unfolding event
event_takes s b = come_take s (delivered s b) (edits_of_by all_loaded) all_take

edit_takes : (wanted : Wanted) (s : Stage) → Takes s.ahead (edit_event wanted s)
unfolding edit_event
edit_takes wanted s = loaded_take wanted whole (edits_of_by all_loaded) all_take s

-- ---- clocks and blocks

fires_take : (s : Stage) (c : Clock) → Takes s.ahead (fires s c)
fires_take s c = event_takes (with_fired (with_taken s (taken_off s.clocks)) c.time) (Firing c.owner)

clock_takes : (s : Stage) (rest : Stage → Passage) (o : Option Clock) → ((r : Stage) → Takes r.ahead (rest r)) → Takes s.ahead (fires_or_not s rest o)
clock_takes s rest None f = still_takes s
clock_takes s rest (Some c) f = joined_take s.ahead (fires s c) (rest (fires s c).stage) (fires_take s c) (f (fires s c).stage)

clocks_take : (n limit : ℕ) (s : Stage) → Takes s.ahead (fires_below n limit s)
unfolding fires_below
clocks_take zero limit s = still_takes s
clocks_take (suc n) limit s = clock_takes s (fires_below n limit) (next_clock limit s.clocks) (λ r. clocks_take n limit r)

sounds_take : (s : Stage) → Takes s.ahead (block_sounds s)
unfolding block_sounds
sounds_take s = record { follow = tt; left = refl }

block_takes : (s : Stage) → Takes s.ahead (block_runs s)
block_takes s =
    let c : Passage = clocks_fire s.block_end s in
    joined_take s.ahead c (block_sounds c.stage) (clocks_take (most_fired - s.fired) s.block_end s) (sounds_take c.stage)

blocks_take : (n to : ℕ) (s : Stage) → Takes s.ahead (blocks_run n to s)
unfolding blocks_run
blocks_take zero to s = still_takes s
blocks_take (suc n) to s =
    let p : Passage = block_runs s in
    if_takes (nat_le s.block_end to) s.ahead (followed_by p (blocks_run n to)) (still s)
    (joined_take s.ahead p (blocks_run n to p.stage) (block_takes s) (blocks_take n to p.stage)) (still_takes s)

comes_take : (to : ℕ) (s : Stage) → Takes s.ahead (comes_to to s)
comes_take to s =
    let c : Passage = clocks_fire to s in
    joined_take s.ahead c (time_is to c.stage) (clocks_take (most_fired - s.fired) to s) (record { follow = tt; left = refl })

advanced_takes : (to : ℕ) (s : Stage) → Takes s.ahead (advanced to s)
advanced_takes to s =
    let p : Passage = blocks_run (to + 1) to s in
    joined_take s.ahead p (comes_to to p.stage) (blocks_take (to + 1) to s) (comes_take to p.stage)

finished_takes : (s : Stage) → Takes s.ahead (finished s)
finished_takes s = if_takes (nat_lt s.block_end (s.time + block_units)) s.ahead (block_runs s) (still s) (block_takes s) (still_takes s)

-- ---- commands

commanded_takes : (c : Command) (s : Stage) → Takes s.ahead (commanded c s)
unfolding commanded
commanded_takes (command.Send name atoms) s = let e = event_takes s _ in record { follow = e.follow; left = e.left }
commanded_takes (command.Edit place edit) s = edit_takes _ s
commanded_takes (command.Save document) s = edit_takes _ s
commanded_takes (command.Show path) s = record { follow = tt; left = refl }
commanded_takes command.Undo s = edit_takes _ s
commanded_takes command.Redo s = edit_takes _ s

opened_takes : (file : List ℕ) (p : Patch) (names : Names) (base : Base) (ahead : List Choice) → Takes ahead (opened file p names base ahead)
opened_takes file p names base ahead = let e = event_takes (first_stage file p names base ahead) _ in record { follow = e.follow; left = e.left }

-- ---- the run of a script

reached_takes : (p : Point) → Takes p.stage.ahead (reached p)
unfolding reached
reached_takes p = advanced_takes (p.time * p.rate) p.stage

done_takes : (s : Stage) → Takes s.ahead (done s).passage
unfolding done
done_takes s = let e : Takes s.ahead (finished s) = finished_takes s in record { follow = e.follow; left = e.left }

module _ (rest : Point → Run) (goes : (q : Point) → Takes q.stage.ahead (rest q).passage) where
  said_takes : (s : Script) (p : Point) → Takes p.stage.ahead (said_run s p rest).passage
  said_takes (script.Run c) p =
      let r : Stage = (reached p).stage in
      let part : Passage = carried_out c p in
      joined_take p.stage.ahead part (rest (at_stage p part.stage)).passage
      (joined_take p.stage.ahead (reached p) (commanded c r) (reached_takes p) (commanded_takes c r)) (goes (at_stage p part.stage))
  said_takes script.End p = joined_take p.stage.ahead (reached p) (done (reached p).stage).passage (reached_takes p) (done_takes (reached p).stage)

  either_takes : (b : Bool) (ahead : List Choice) (x y : Run) → Takes ahead x.passage → Takes ahead y.passage → Takes ahead (if b then x else y).passage
  either_takes true ahead x y h k = h
  either_takes false ahead x y h k = k

  read_takes : (o : Option (ℤ × Script × Names)) (p : Point) → Takes p.stage.ahead (read_run o p rest).passage
  read_takes None p = still_takes p.stage
  read_takes (Some r) p =
      let time : ℕ = p.time + millionths r.0 in
      let q : Point = at_stage p (with_names p.stage r.2) in
      either_takes (nat_lt most_time time) p.stage.ahead (bad q) (said_run r.1 (at_time q time) rest) (still_takes q.stage) (said_takes r.1 (at_time q time))

  record_takes : (text : List ℕ) (p : Point) → Takes p.stage.ahead (record_run text p rest).passage
  unfolding record_run
  record_takes text p =
      either_takes (length text == 0) p.stage.ahead (rest p) (read_run (command_of p.stage.names (tokens_of text)) p rest) (goes p) (read_takes (command_of p.stage.names (tokens_of text)) p)

records_take : (last : Point → Run) → ((q : Point) → Takes q.stage.ahead (last q).passage) → (texts : List (List ℕ)) (p : Point) → Takes p.stage.ahead (records_run texts last p).passage
records_take last goes [] p = goes p
records_take last goes (text ∷ texts) p = record_takes (records_run texts last) (λ q. records_take last goes texts q) text (counted p)

last_takes : (ending : Ending) (v : Fed) (p : Point) → Takes p.stage.ahead (end_run ending v p).passage
unfolding end_run
last_takes Whole fed.Record p = still_takes p.stage
last_takes Whole fed.End p = done_takes p.stage
last_takes Whole fed.TooLong p = still_takes p.stage
last_takes Whole fed.Unfinished p = still_takes p.stage
last_takes Broken fed.Record p = still_takes p.stage
last_takes Broken fed.End p = still_takes p.stage
last_takes Broken fed.TooLong p = still_takes p.stage
last_takes Broken fed.Unfinished p = still_takes p.stage

run_takes : (ending : Ending) (text : Text) (p : Point) → Takes p.stage.ahead (run_of ending text p).passage
run_takes ending text p = records_take (end_run ending text.end) (λ q. last_takes ending text.end q) text.records p

-- from where a patch opens
pub whole_takes : (file : List ℕ) (p : Patch) (names : Names) (base : Base) (ahead : List Choice) (ending : Ending) (text : Text) (q : Point)
    → q.stage ≡ (opened file p names base ahead).stage → Takes ahead (joined (opened file p names base ahead) (run_of ending text q).passage)
whole_takes file p names base ahead ending text q e =
    joined_take ahead (opened file p names base ahead) (run_of ending text q).passage (opened_takes file p names base ahead)
    (subst (λ (s : Stage). Takes s.ahead (run_of ending text q).passage) e (run_takes ending text q))

-- ---- the edits of a run of which these are told

rest_fair : (rest : List Taken) → Follow [] rest → AreFair rest
rest_fair [] h = tt
rest_fair (t ∷ rest) h = (inr (subst (λ (c : Choice). IsRefusal c) (sym h.0) tt), rest_fair rest h.1)

log_fair : (log rest : List Taken) → AreLawful log → Follow (choices_of log) (log ++ rest) → AreFair (log ++ rest)
log_fair [] rest l h = rest_fair rest h
log_fair (t ∷ log) rest l h = (inl l.0, log_fair log rest l.1 h.1)

pub played_fair : (name : List ℕ) (closing : Stage → List ℕ) (run : Run) (log : List Taken) (status : Status) (x y : Sinks) → AreLawful log → Takes (choices_of log) run.passage → Plays (with_line name closing run) log status x y
    → AreFair run.passage.edits
played_fair name closing run log status x y l h (inl k) = subst (λ (e : List Taken). AreFair e) (sym k.edits_are ∙ append-nil run.passage.edits) (lawful_fair log l)
played_fair name closing run log status x y l h (inr k) =
    let is : run.passage.edits ≡ log ++ k.begins.rest = sym (append-nil run.passage.edits) ∙ k.begins.edits_are in
    subst (λ (e : List Taken). AreFair e) (sym is) (log_fair log k.begins.rest l (subst (λ (e : List Taken). Follow (choices_of log) e) is h.follow))
