-- The steps of a run, one after another.
use Rattle.std.specs.Prelude.{ℕ, ◌≤◌, List, [], ◌∷◌}
use Rattle.pd_atom.specs.Names.{Names, Extends}
use Rattle.pd_script.specs.declared.commands.Command.{Command}
use Rattle.pd_patch.specs.declared.patch.Patch.{Patch}
use Rattle.pd_stage.specs.Choices.{Base, Choice}
use Rattle.pd_stage.specs.Stages.{Stage, Passage, with_names, still, followed_by}
use Rattle.pd_steady.specs.Runs.{Ways, own_ways, commanded_by, advanced_by, finished_by, opened_by}
use Rattle.pd_steady.specs.Steady.{IsCommand}

-- a step of a run: a command, names that are read, or time
pub data Step : Type 0 where
  Does : Command → Step
  Learns : Names → Step
  Comes : (to : ℕ) → Step

abbrev pub step_by : Ways → Step → Stage → Passage
step_by ways (Does c) s = commanded_by ways c s
step_by ways (Learns names) s = still (with_names s names)
step_by ways (Comes to) s = advanced_by ways to s

abbrev pub steps_by : Ways → List Step → Stage → Passage
steps_by ways [] s = still s
steps_by ways (x ∷ xs) s = followed_by (step_by ways x s) (steps_by ways xs)

-- a command is in order, a table of names goes on, and a time is at most so much
abbrev pub IsStep : ℕ → Step → Stage → Type 0
IsStep most (Does c) s = IsCommand s.names c
IsStep most (Learns names) s = Extends s.names names
IsStep most (Comes to) s = to ≤ most

-- each is so where the run has come to
abbrev pub AreSteps : ℕ → List Step → Stage → Type 0
AreSteps most [] s = Unit {0}
AreSteps most (x ∷ xs) s = IsStep most x s × AreSteps most xs (step_by own_ways x s).stage

-- each table of names that is read goes on where the run has come to
abbrev pub LearnsOn : Step → Stage → Type 0
LearnsOn (Learns names) s = Extends s.names names
LearnsOn x s = Unit {0}

abbrev pub NamesGoOn : List Step → Stage → Type 0
NamesGoOn [] s = Unit {0}
NamesGoOn (x ∷ xs) s = LearnsOn x s × NamesGoOn xs (step_by own_ways x s).stage

-- a run from where a patch opens to its end
abbrev pub run_by : Ways → List ℕ → Patch → Names → Base → List Choice → List Step → Passage
run_by ways file p names base ahead steps = followed_by (followed_by (opened_by ways file p names base ahead) (steps_by ways steps)) (finished_by ways)
