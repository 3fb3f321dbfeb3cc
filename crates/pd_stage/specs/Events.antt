-- What an event leads to: its deliveries, and then the edits that were asked for, one taken after the other, each with the boxes that are loaded behind
-- it.
use Rattle.std.specs.Prelude.{ℕ, zero, suc, ◌+◌, false, List, [], ◌∷◌, ◌++◌, map, slice_get, Option, Some, None}
use Rattle.pd_atom.specs.declared.Atom.{Atom}
use Rattle.pd_canvas.specs.declared.edits.Edit.{Edit}
use Rattle.pd_queue.specs.Queue.{Waiting, most}
use Rattle.pd_turns.specs.Turns.{World}
use Rattle.pd_walk.specs.declared.walker.Budget.{Budget}
use Rattle.pd_hearing.specs.Worlds.{Net, Kept}
use Rattle.pd_walk.specs.declared.walker.Start.{Start}
use Rattle.pd_walk.specs.declared.walker.Start.TheVariants as start
use Rattle.pd_hearing.specs.Hearing.{fired_at}
use Rattle.pd_walk.specs.Outcome.{world, ran, told_by, all_loaded, named_tasks}
use Rattle.pd_stage.specs.Items.{Item, Put, said}
use Rattle.pd_stage.specs.Choices.{Wanted, Asks, Choice, Refuses, Lacks, Makes, first_choice, later, text_of_choice, loads_of_choice}
use Rattle.pd_stage.specs.Stages.{Stage, Passage, with_ahead, still, followed_by}

-- what begins deliveries: a message to the receivers of a name, the clock of a box, or that boxes are loaded
pub data Beginning : Type 0 where
  Message : (name selector : ℕ) → List Atom → Beginning
  Firing : (owner : ℕ) → Beginning
  Loading : List ℕ → Beginning

-- what begins deliveries, as pd_walk is told it
abbrev pub beginning_of : Start → Beginning
beginning_of (start.Name name message) = Message name message.selector message.atoms.now
beginning_of (start.Clock owner) = Firing owner
beginning_of (start.Loads boxes) = Loading boxes.now

-- what becomes of them, one after the other, depth first
abbrev pub deliveries : Net → ℕ → World Kept → Beginning → World Kept
deliveries net now w (Message name selector atoms) = ran net now w (named_tasks net name selector atoms)
deliveries net now w (Firing owner) = told_by net now owner (fired_at net w.kept.states owner) w
deliveries net now w (Loading boxes) = all_loaded net now w boxes

-- what is left of an event: how many deliveries it may still have, and the edits that canvases were asked for in it so far, also those that were taken
pub record Left : Type 0 where
  pub budget : Budget
  pub asked : Waiting

-- each event has 1,000,000 deliveries at most
abbrev pub whole : Left
whole = record { budget = record { left = 1000000; cut = false }; asked = [] }

abbrev pub left_after : World Kept → Left
left_after w = record { budget = record { left = w.budget; cut = w.cut }; asked = w.kept.queue }

-- what is kept where an event goes on
abbrev pub kept_with : Stage → Waiting → Kept
kept_with s asked = record { states = s.states; clocks = s.clocks; names = s.names; queue = asked }

abbrev pub going_on : Stage → Left → World Kept
going_on s l = world (kept_with s l.asked) l.budget []

abbrev pub begun : Stage → World Kept
begun s = going_on s whole

abbrev pub delivered : Stage → Beginning → World Kept
delivered s b = deliveries s.net s.time (begun s) b

-- what is kept is changed, and nothing else
abbrev pub with_kept : Stage → Kept → Stage
with_kept s k = record {
  file = s.file;
  net = s.net;
  states = k.states;
  clocks = k.clocks;
  names = k.names;
  base = s.base;
  time = s.time;
  block_end = s.block_end;
  fired = s.fired;
  tally = s.tally;
  ahead = s.ahead;
}

abbrev pub after_deliveries : Stage → World Kept → Passage
after_deliveries s w = record { stage = with_kept s w.kept; items = said w.said; edits = [] }

-- the same where messages leave this as it is
abbrev pub with_net : Stage → Net → Stage
with_net s net = record {
  file = s.file;
  net = net;
  states = s.states;
  clocks = s.clocks;
  names = s.names;
  base = s.base;
  time = s.time;
  block_end = s.block_end;
  fired = s.fired;
  tally = s.tally;
  ahead = s.ahead;
}

-- where an edit leads: a refused one changes nothing, but that there may be more room
abbrev pub stage_by : Stage → Choice → Stage
stage_by s (Refuses why) = s
stage_by s (Lacks net) = with_net s net
stage_by s (Makes m) = record {
  file = s.file;
  net = m.net;
  states = m.states;
  clocks = m.clocks;
  names = m.names;
  base = m.base;
  time = s.time;
  block_end = s.block_end;
  fired = s.fired;
  tally = s.tally;
  ahead = s.ahead;
}

-- a file that is put under a name
abbrev pub put_of : List ℕ × List ℕ → Item
put_of file = Put file.0 file.1

-- the files that it puts
abbrev pub files_put : Choice → List Item
files_put (Refuses why) = []
files_put (Lacks net) = []
files_put (Makes m) = map put_of m.files

-- an edit comes to this choice: its files are put, and its lines are said
abbrev pub edit_by : Wanted → Stage → Choice → Passage
edit_by wanted s c = record {
  stage = stage_by (with_ahead s (later s.ahead)) c;
  items = files_put c ++ said (text_of_choice wanted c);
  edits = record { found = with_ahead s []; wanted = wanted; choice = c } ∷ [];
}

-- an edit that is asked for is taken: it comes to the first choice
unfoldable pub edit_taken : Wanted → Stage → Passage
edit_taken wanted s = edit_by wanted s (first_choice s.ahead)

-- what becomes of boxes that are loaded, one after the other
abbrev pub Loader : Type 0
Loader = Net → ℕ → World Kept → List ℕ → World Kept

-- boxes are loaded with what is left of an event, and then the rest goes on from what is left then
abbrev pub loaded_by : Loader → List ℕ → Left → (Left → Stage → Passage) → Stage → Passage
loaded_by load boxes l rest s =
    followed_by (after_deliveries s (load s.net s.time (going_on s l) boxes)) (rest (left_after (load s.net s.time (going_on s l) boxes)))

-- an edit is taken, and the boxes are loaded that it made
abbrev pub edit_loaded_by : Loader → Wanted → Left → (Left → Stage → Passage) → Stage → Passage
edit_loaded_by load wanted l rest s = followed_by (edit_taken wanted s) (loaded_by load (loads_of_choice (first_choice s.ahead)) l rest)

-- an edit that a canvas was asked for, if there is one
abbrev pub asked_by : Loader → (Left → Stage → Passage) → Left → Stage → Option (List ℕ × Edit) → Passage
asked_by load rest l s None = still s
asked_by load rest l s (Some asked) = edit_loaded_by load (Asks asked.0 asked.1) l rest s

-- The edits that canvases were asked for from a place on, so many at most, one after the other. What the boxes ask for that are loaded behind one goes
-- last.
unfoldable pub edits_taken_by : Loader → (n place : ℕ) → Left → Stage → Passage
edits_taken_by load zero place l s = still s
edits_taken_by load (suc n) place l s = asked_by load (edits_taken_by load n (place + 1)) l s (slice_get l.asked place)

-- all of them: an event takes 256 at most
abbrev pub edits_of_by : Loader → Left → Stage → Passage
edits_of_by load l s = edits_taken_by load most 0 l s

-- what deliveries that come to this world lead to: no edit is taken before the last of them
abbrev pub event_after_by : Loader → Stage → World Kept → Passage
event_after_by load s w = followed_by (after_deliveries s w) (edits_of_by load (left_after w))

-- an edit that is asked for by itself is an event
abbrev pub edit_event_by : Loader → Wanted → Stage → Passage
edit_event_by load wanted s = edit_loaded_by load wanted whole (edits_of_by load) s

unfoldable pub event : Stage → Beginning → Passage
event s b = event_after_by all_loaded s (delivered s b)

unfoldable pub edit_event : Wanted → Stage → Passage
edit_event wanted s = edit_event_by all_loaded wanted s
