-- Why a run ends before its script begins.
use Rattle.std.specs.Prelude.{◌≡◌, ◌≢◌, ◌≤◌, ◌⊎◌, ℕ, Option, Some, Result, IsErrOf}
use Rattle.pd_io.specs.Faults.{Rose}
use Rattle.pd_play.specs.declared.status.Status.{Status}
use Rattle.pd_play.specs.declared.status.Status.TheVariants.{Usage, PatchAbsent, ReadFault, ShelfFault, WriteFault, NoMemory}

-- a fault of the folder or of the lines: its count rose
pub record HasOpenCauses {T : Type 0} (folder folder' lines lines' : ℕ) (result : Result T Status) : Type 0 where
  pub shelf : IsErrOf result ShelfFault → Rose folder folder'
  pub write : IsErrOf result WriteFault → Rose lines lines'
  pub read : IsErrOf result ReadFault → ⊥
  pub usage : IsErrOf result Usage → ⊥
  pub folder_counted : folder ≤ folder'
  pub lines_counted : lines ≤ lines'

-- how a run ends, where it ends: for a fault of the script, the lines or the samples a count rose, and never for want of memory
pub record HasRunCauses (script script' lines lines' pcm pcm' : ℕ) (ends : Option Status) : Type 0 where
  pub read : ends ≡ Some ReadFault → Rose script script'
  pub write : ends ≡ Some WriteFault → Rose lines lines' ⊎ Rose pcm pcm'
  pub usage : ends ≢ Some Usage
  pub absent : ends ≢ Some PatchAbsent
  pub shelf : ends ≢ Some ShelfFault
  pub memory : ends ≢ Some NoMemory
  pub script_counted : script ≤ script'
  pub lines_counted : lines ≤ lines'
  pub pcm_counted : pcm ≤ pcm'

-- the same of a made patch, whose script no source fails to give, and whose words are in order
pub record HasMadeCauses (folder folder' lines lines' pcm pcm' : ℕ) (status : Status) : Type 0 where
  pub shelf : status ≡ ShelfFault → Rose folder folder'
  pub write : status ≡ WriteFault → Rose lines lines' ⊎ Rose pcm pcm'
  pub read : status ≢ ReadFault
  pub usage : status ≢ Usage

-- a status for a fault of the folder, the script, the lines or the samples: its count rose in the call
pub record HasCauses (folder folder' script script' lines lines' pcm pcm' : ℕ) (status : Status) : Type 0 where
  pub shelf : status ≡ ShelfFault → Rose folder folder'
  pub read : status ≡ ReadFault → Rose script script'
  pub write : status ≡ WriteFault → Rose lines lines' ⊎ Rose pcm pcm'
