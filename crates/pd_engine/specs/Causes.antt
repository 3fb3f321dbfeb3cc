-- Why a call that writes lines and samples fails.
use Rattle.std.specs.Prelude.{◌≤◌, ◌⊎◌, ℕ, Result, OnErr, IsErrOf}
use Rattle.pd_io.specs.Faults.{Rose}
use Rattle.pd_engine.specs.declared.refusals.OpenRefusal.{OpenRefusal}
use Rattle.pd_engine.specs.declared.refusals.OpenRefusal.TheVariants.{ShelfFault, WriteFault}

-- neither count of faults falls, and one of them rose where the call failed
pub record HasCauses {T E : Type 0} (lines lines' pcm pcm' : ℕ) (result : Result T E) : Type 0 where
  pub failed : OnErr result (Rose lines lines' ⊎ Rose pcm pcm')
  pub lines_counted : lines ≤ lines'
  pub pcm_counted : pcm ≤ pcm'

-- a refusal for a fault of the folder or of the lines: its count rose
pub record HasOpeningCauses {T : Type 0} (folder folder' lines lines' : ℕ) (result : Result T OpenRefusal) : Type 0 where
  pub shelf : IsErrOf result ShelfFault → Rose folder folder'
  pub write : IsErrOf result WriteFault → Rose lines lines'
  pub folder_counted : folder ≤ folder'
  pub lines_counted : lines ≤ lines'
