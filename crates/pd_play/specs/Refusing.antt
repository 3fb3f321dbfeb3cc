-- Why a patch doesn't open: the one of a file name, or a made one.
use Rattle.std.specs.Prelude.{◌≡◌, ◌≢◌, List, ℕ, Option}
use Rattle.pd_io.specs.declared.files.FileRow.{FileRow}
use Rattle.pd_clock.specs.declared.times.Rate.{Rate}
use Rattle.pd_engine.specs.Opening.{IsRefused, IsFileRefused}
use Rattle.pd_engine.specs.declared.refusals.OpenRefusal.{OpenRefusal}
use Rattle.pd_engine.specs.declared.refusals.OpenRefusal.TheVariants as opening
use Rattle.pd_made.specs.Documents.{made_document}
use Rattle.pd_play.specs.Ending.{opened_as}
use Rattle.pd_play.specs.Made.{made_names}
use Rattle.pd_play.specs.declared.status.Status.{Status}

-- The status is that of a patch that doesn't open, for a cause. No line was taken, where they could be written.
pub record IsRefusalBy (Refuses : OpenRefusal → Type 0) (lines lines' : Option (List ℕ)) (status : Status) : Type 0 where
  pub refusal : OpenRefusal
  pub status_is : status ≡ opened_as refusal
  pub refused : Refuses refusal
  pub quiet : refusal ≢ opening.WriteFault → lines' ≡ lines

-- the patch of a file name doesn't open
abbrev pub IsRefusal : Option (List FileRow) → List ℕ → Rate → (lines lines' : Option (List ℕ)) → (faults faults' : ℕ) → Status → Type 0
IsRefusal holds name rate lines lines' faults faults' status = IsRefusalBy (IsFileRefused holds name rate lines lines' faults faults') lines lines' status

-- the made patch of so many voices doesn't open under a file name
abbrev pub IsMadeRefusal : ℕ → Option (List FileRow) → List ℕ → Rate → (lines lines' : Option (List ℕ)) → (faults faults' : ℕ) → Status → Type 0
IsMadeRefusal n holds name rate lines lines' faults faults' status =
    IsRefusalBy (IsRefused holds name rate (made_document made_names n) made_names lines lines' faults faults') lines lines' status
