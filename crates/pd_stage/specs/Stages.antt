-- How a patch stands between events, and what a part of a run leads to.
use Rattle.std.specs.Prelude.{ℕ, ◌+◌, List, [], ◌∷◌, ◌++◌, map, Option}
use Rattle.pd_atom.specs.Names.{Names}
use Rattle.pd_clock.specs.Queue.{Clock}
use Rattle.pd_kind.specs.declared.states.State.{State}
use Rattle.pd_made.specs.declared.tally.Tally.{Tally}
use Rattle.pd_hearing.specs.Worlds.{Net, Kept}
use Rattle.pd_stage.specs.Items.{Item, said}
use Rattle.pd_stage.specs.Choices.{Base, Wanted, Choice, looks_of_choice, faults_of_choice}

-- A patch between events: the name of its file; what messages leave as it is; what the boxes keep, their clocks, and the table of names;
-- what edits go on from; the time; when the block ends that comes next; how many clocks fired since the last block; what the samples so far add up to; and what the
-- edits to come lead to, one after the other.
pub record Stage : Type 0 where
  pub file : List ℕ
  pub net : Net
  pub states : ℕ → Option State
  pub clocks : List Clock
  pub names : Names
  pub base : Base
  pub time : ℕ
  pub block_end : ℕ
  pub fired : ℕ
  pub tally : Tally
  pub ahead : List Choice

-- the same with another table of names
abbrev pub with_names : Stage → Names → Stage
with_names s names = record {
  file = s.file;
  net = s.net;
  states = s.states;
  clocks = s.clocks;
  names = names;
  base = s.base;
  time = s.time;
  block_end = s.block_end;
  fired = s.fired;
  tally = s.tally;
  ahead = s.ahead;
}

-- the same where the edits to come lead to this
abbrev pub with_ahead : Stage → List Choice → Stage
with_ahead s ahead = record {
  file = s.file;
  net = s.net;
  states = s.states;
  clocks = s.clocks;
  names = s.names;
  base = s.base;
  time = s.time;
  block_end = s.block_end;
  fired = s.fired;
  tally = s.tally;
  ahead = ahead;
}

-- what messages change, where no edit waits
abbrev pub kept_at : Stage → Kept
kept_at s = record { states = s.states; clocks = s.clocks; names = s.names; queue = [] }

-- an edit that was taken: the stage that it found, what was asked for, and what it came to
pub record Taken : Type 0 where
  pub found : Stage
  pub wanted : Wanted
  pub choice : Choice

-- what edits came to, in their order
abbrev pub choices_of : List Taken → List Choice
choices_of edits = map (λ t. t.choice) edits

-- at how many signal wires they look at the most
abbrev pub looks_of : List Taken → ℕ
looks_of [] = 0
looks_of (t ∷ edits) = looks_of_choice t.choice + looks_of edits

-- how many of them were refused for a fault of the folder
abbrev pub faults_of : List Taken → ℕ
faults_of [] = 0
faults_of (t ∷ edits) = faults_of_choice t.choice + faults_of edits

-- What a part of a run leads to: where the patch stands then; what happens on the way, lines and samples in one list in their order; and
-- the edits that were taken on the way.
pub record Passage : Type 0 where
  pub stage : Stage
  pub items : List Item
  pub edits : List Taken

-- nothing happens
abbrev pub still : Stage → Passage
still s = record { stage = s; items = []; edits = [] }

-- only lines are said
abbrev pub saying : Stage → List ℕ → Passage
saying s lines = record { stage = s; items = said lines; edits = [] }

-- these items and edits come first
abbrev pub after : List Item → List Taken → Passage → Passage
after items edits p = record { stage = p.stage; items = items ++ p.items; edits = edits ++ p.edits }

-- one part and then another
abbrev pub joined : Passage → Passage → Passage
joined p q = after p.items p.edits q

-- one part, and then what follows from where it leads
abbrev pub followed_by : Passage → (Stage → Passage) → Passage
followed_by p next = joined p (next p.stage)
