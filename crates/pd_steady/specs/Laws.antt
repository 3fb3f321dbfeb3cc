-- What the laws of runs say.
use Rattle.std.specs.Prelude.{◌≡◌, ◌+◌, ◌≤◌, ◌^◌, ℕ, List, Option}
use Rattle.pd_io.specs.declared.files.FileRow.{FileRow}
use Rattle.pd_atom.specs.Names.{Names, Extends}
use Rattle.pd_canvas.specs.Pages.{Page}
use Rattle.pd_clock.specs.declared.times.Rate.{Rate}
use Rattle.pd_patch.specs.declared.patch.Patch.{Patch}
use Rattle.pd_script.specs.declared.commands.Command.{Command}
use Rattle.pd_hearing.specs.Worlds.{states_of}
use Rattle.pd_stage.specs.Choices.{Base, Choice}
use Rattle.pd_stage.specs.Lawful.{AreLawful}
use Rattle.pd_stage.specs.Stages.{Stage, with_names, followed_by}
use Rattle.pd_stage.specs.Trees.{HasTree}
use Rattle.pd_stage.specs.Times.{block_units, advanced, finished}
use Rattle.pd_engine.specs.Commands.{commanded}
use Rattle.pd_engine.specs.Opening.{Grows, first_stage, opened}
use Rattle.pd_steady.specs.Runs.{own_ways, commanded_by, advanced_by, finished_by, opened_by}
use Rattle.pd_steady.specs.Freely.{free_ways}
use Rattle.pd_steady.specs.Steady.{IsSteady, IsCommand}
use Rattle.pd_steady.specs.Serving.{OwnersServe, StayAlike}
use Rattle.pd_steady.specs.Told.{TellsOrders, GrowthTellsLoops, EditsTellLoops}
use Rattle.pd_steady.specs.Steps.{Step, AreSteps, NamesGoOn, steps_by, run_by}

-- with pd_engine's own events, edits and blocks the definitions of a run are pd_engine's
pub record RunsAreByEvents : Type 0 where
  pub commanded : (c : Command) (s : Stage) → commanded_by own_ways c s ≡ commanded c s
  pub advanced : (to : ℕ) (s : Stage) → advanced_by own_ways to s ≡ advanced to s
  pub finished : (s : Stage) → finished_by own_ways s ≡ finished s
  pub opened : (file : List ℕ) (p : Patch) (names : Names) (base : Base) (ahead : List Choice) → opened_by own_ways file p names base ahead ≡ opened file p names base ahead

-- from a steady stage a command in order leads to a steady one, and nothing is passed over in it, where its edits are lawful
pub record CommandsStaySteady : Type 0 where
  pub steady : (most : ℕ) (c : Command) (s : Stage) → IsSteady most s → IsCommand s.names c → AreLawful (commanded c s).edits → IsSteady most (commanded c s).stage
  pub freely : (most : ℕ) (c : Command) (s : Stage) → IsSteady most s → IsCommand s.names c → AreLawful (commanded c s).edits → commanded_by free_ways c s ≡ commanded c s

-- and so does time, where it is one at which events come
pub record TimeStaysSteady : Type 0 where
  pub advances : (most to : ℕ) (s : Stage) → most ≤ 2 ^ 101 → to ≤ most → IsSteady most s → AreLawful (advanced to s).edits → IsSteady most (advanced to s).stage
  pub advances_freely : (most to : ℕ) (s : Stage) → most ≤ 2 ^ 101 → to ≤ most → IsSteady most s → AreLawful (advanced to s).edits → advanced_by free_ways to s ≡ advanced to s
  pub finishes : (most : ℕ) (s : Stage) → most + block_units ≤ 2 ^ 101 → IsSteady most s → AreLawful (finished s).edits → IsSteady (most + block_units) (finished s).stage
  pub finishes_freely : (most : ℕ) (s : Stage) → most + block_units ≤ 2 ^ 101 → IsSteady most s → AreLawful (finished s).edits → finished_by free_ways s ≡ finished s

-- the names that a record brings leave a stage steady
abbrev pub NamesStaySteady : Type 0
NamesStaySteady = (most : ℕ) (s : Stage) (names : Names) → IsSteady most s → Extends s.names names → IsSteady most (with_names s names)

-- where a patch opens the stage is steady, at first and, where the edits of its load event are lawful, after it, and nothing is then passed over in that
pub record OpeningIsSteady : Type 0 where
  pub first : (holds : Option (List FileRow)) (name : List ℕ) (rate : Rate) (d : Page) (names table : Names) (p : Patch) (base : Base) (most : ℕ) (ahead : List Choice) →
      Grows holds name rate d names p table base → IsSteady most (first_stage name p table base ahead)
  pub steady : (holds : Option (List FileRow)) (name : List ℕ) (rate : Rate) (d : Page) (names table : Names) (p : Patch) (base : Base) (most : ℕ) (ahead : List Choice) →
      Grows holds name rate d names p table base → AreLawful (opened name p table base ahead).edits → IsSteady most (opened name p table base ahead).stage
  pub freely : (holds : Option (List FileRow)) (name : List ℕ) (rate : Rate) (d : Page) (names table : Names) (p : Patch) (base : Base) (ahead : List Choice) →
      Grows holds name rate d names p table base → AreLawful (opened name p table base ahead).edits → opened_by free_ways name p table base ahead ≡ opened name p table base ahead

-- From a steady stage a run in which each edit is lawful stays steady along its steps, and nothing is passed over in it. So it is in a whole run, from
-- where a patch opens to its end.
pub record RunsPassNothingOver : Type 0 where
  pub steady : (most : ℕ) (steps : List Step) (s : Stage) → most ≤ 2 ^ 101 → IsSteady most s → AreSteps most steps s → AreLawful (steps_by own_ways steps s).edits →
      IsSteady most (steps_by own_ways steps s).stage
  pub freely : (most : ℕ) (steps : List Step) (s : Stage) → most ≤ 2 ^ 101 → IsSteady most s → AreSteps most steps s → AreLawful (steps_by own_ways steps s).edits →
      steps_by free_ways steps s ≡ steps_by own_ways steps s
  pub whole : (holds : Option (List FileRow)) (name : List ℕ) (rate : Rate) (d : Page) (names table : Names) (p : Patch) (base : Base) (most : ℕ) (steps : List Step)
      (ahead : List Choice) → Grows holds name rate d names p table base → most + block_units ≤ 2 ^ 101 → AreSteps most steps (opened name p table base ahead).stage →
      AreLawful (run_by own_ways name p table base ahead steps).edits → run_by free_ways name p table base ahead steps ≡ run_by own_ways name p table base ahead steps

-- wherever a tree stands, the lines of the orders tell all boxes
abbrev pub LinesTellAllBoxes : Type 0
LinesTellAllBoxes = (s : Stage) → HasTree s → TellsOrders s

-- and so do the lines of loops, where a patch opens and where an edit tells of one
pub record LoopsTellAllBoxes : Type 0 where
  pub opened : (holds : Option (List FileRow)) (name : List ℕ) (rate : Rate) (d : Page) (names table : Names) (p : Patch) (base : Base) →
      Grows holds name rate d names p table base → GrowthTellsLoops p
  pub edited : (s : Stage) → HasTree s → EditsTellLoops s

-- Where each edit is lawful, each box that none of them deletes or makes another one keeps what is of the same objects; and where each table of names
-- that is read goes on, who looks for a box by its name finds it.
pub record OwnersGoOn : Type 0 where
  pub alike : (file : List ℕ) (p : Patch) (names : Names) (base : Base) (steps : List Step) (ahead : List Choice) →
      let run = followed_by (opened file p names base ahead) (steps_by own_ways steps) in
      AreLawful run.edits → StayAlike run.edits (states_of p) run.stage.states
  pub onward : (s : Stage) (steps : List Step) →
      let run = steps_by own_ways steps s in
      AreLawful run.edits → StayAlike run.edits s.states run.stage.states
  pub steps : (holds : Option (List FileRow)) (name : List ℕ) (rate : Rate) (d : Page) (names table : Names) (p : Patch) (base : Base) (steps : List Step)
      (ahead : List Choice) → Grows holds name rate d names p table base → NamesGoOn steps (opened name p table base ahead).stage →
      let run = followed_by (opened name p table base ahead) (steps_by own_ways steps) in
      AreLawful run.edits → OwnersServe run.stage
  pub end : (holds : Option (List FileRow)) (name : List ℕ) (rate : Rate) (d : Page) (names table : Names) (p : Patch) (base : Base) (steps : List Step)
      (ahead : List Choice) → Grows holds name rate d names p table base → NamesGoOn steps (opened name p table base ahead).stage →
      AreLawful (run_by own_ways name p table base ahead steps).edits → OwnersServe (run_by own_ways name p table base ahead steps).stage
