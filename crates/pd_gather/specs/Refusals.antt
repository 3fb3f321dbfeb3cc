-- Why a box is refused whose files are not gathered.
use Rattle.pd_gather.specs.declared.refusal.GatherRefusal.{GatherRefusal}
use Rattle.pd_gather.specs.declared.refusal.GatherRefusal.TheVariants as gather
use Rattle.pd_gather.specs.declared.refusal.BoxRefusal.{BoxRefusal}
use Rattle.pd_gather.specs.declared.refusal.BoxRefusal.TheVariants.{ShelfFault, SymbolsFull, NoMemory}

abbrev pub box_refusal : GatherRefusal → BoxRefusal
box_refusal gather.ShelfFault = ShelfFault
box_refusal gather.SymbolsFull = SymbolsFull
box_refusal gather.NoMemory = NoMemory
