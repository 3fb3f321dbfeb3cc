-- From which points a script passes nothing over, and the steps of its run.
use Rattle.std.specs.Prelude.{◌≡◌, ℕ, ◌≤◌, ◌*◌, List}
use Rattle.pd_again_law.specs.Runs.{Stage, Passage, still, followed_by, Ways, own_ways, finished_by, IsSteady, Step, AreSteps, steps_by}
use Rattle.pd_play.specs.Runs.{Point, Run, most_time}
use Rattle.pd_play.specs.declared.status.Status.{Status}
use Rattle.pd_play.specs.declared.status.Status.TheVariants.{Done}

-- the longest time of a script in units, where a second has 96,000 samples
abbrev pub most_units : ℕ
most_units = most_time * 96000

-- The stage is steady; a second has at most 96,000 samples; and the script's time is at most the longest one.
pub record IsSteadyAt (p : Point) : Type 0 where
  pub stage : IsSteady most_units p.stage
  pub rate : p.rate ≤ 96000
  pub time : p.time ≤ most_time

-- a run that has come to its end runs the block that began; another one does nothing more
abbrev pub ended_by : Ways → Status → Stage → Passage
ended_by ways Done s = finished_by ways s
ended_by ways status s = still s

-- a run from a stage is so many steps, one after another and each in order where the run has come to, and then its end
pub record IsStepped (most : ℕ) (s : Stage) (run : Run) : Type 0 where
  pub steps : List Step
  pub are : AreSteps most steps s
  pub same : run.passage ≡ followed_by (steps_by own_ways steps s) (ended_by own_ways run.status)
