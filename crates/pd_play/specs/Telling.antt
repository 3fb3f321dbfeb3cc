-- A status and the line that tells of it.
use Rattle.std.specs.Prelude.{◌≡◌, ℕ, List, [], Option, ◌⊎◌}
use Rattle.pd_io.specs.Faults.{Rose}
use Rattle.pd_io.specs.Stream.{grown, TookPart}
use Rattle.pd_made.specs.Summaries.{summary_text}
use Rattle.pd_made.specs.declared.summary.Summary.{Summary}
use Rattle.pd_stage.specs.Stages.{Stage}
use Rattle.pd_play.specs.Ending.{status_line, last_line}
use Rattle.pd_play.specs.declared.status.Status.{Status}
use Rattle.pd_play.specs.declared.status.Status.TheVariants.{Done, Usage, WriteFault, NoMemory}

-- a status and the lines that are printed
pub record Outcome : Type 0 where
  pub status : Status
  pub lines : List ℕ

-- a run that ends by a status with its line
abbrev pub told : List ℕ → Status → Outcome
told name status = record { status = status; lines = status_line name status }

-- a run of a made patch that is done, with what it came to
abbrev pub done_with : Summary → Outcome
done_with summary = record { status = Done; lines = summary_text summary }

-- the lines were taken and the status answered; or a sink failed after it took a first part of them
abbrev pub Answers : Outcome → Status → Option (List ℕ) → Option (List ℕ) → ℕ → ℕ → Type 0
Answers o status old new before now =
    ((status ≡ o.status) × (new ≡ grown old o.lines)) ⊎ ((status ≡ WriteFault) × Rose before now × TookPart old new o.lines)

-- a run that ends by a status at a stage, with its last line
abbrev pub ends_with : List ℕ → (Stage → List ℕ) → Status → Stage → Outcome
ends_with name closing status s = record { status = status; lines = last_line name closing status s }

-- words that ask for nothing: the usage line is told, or that memory is short
abbrev pub IsUnplayed : Status → Option (List ℕ) → Option (List ℕ) → ℕ → ℕ → Type 0
IsUnplayed status old new before now = Answers (told [] Usage) status old new before now ⊎ Answers (told [] NoMemory) status old new before now
