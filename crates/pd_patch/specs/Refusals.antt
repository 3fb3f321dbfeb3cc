-- What the end of growth is to the patch.
use Rattle.pd_growth.specs.declared.growing.Stop.{Stop}
use Rattle.pd_growth.specs.declared.growing.Stop.TheVariants as stop
use Rattle.pd_patch.specs.declared.refusal.GrowRefusal.{GrowRefusal}
use Rattle.pd_patch.specs.declared.refusal.GrowRefusal.TheVariants.{SymbolsFull, TooManyBoxes, NoMemory}

abbrev pub stopped : Stop → GrowRefusal
stopped stop.SymbolsFull = SymbolsFull
stopped stop.TooManyBoxes = TooManyBoxes
stopped (stop.Lacks s) = NoMemory
stopped stop.NoMemory = NoMemory
