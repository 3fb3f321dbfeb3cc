-- Why a patch doesn't open, or isn't saved, by what a layer below refused.
use Rattle.pd_io.specs.declared.shelves.ShelfError.{ShelfError}
use Rattle.pd_io.specs.declared.shelves.ShelfError.TheVariants as shelf
use Rattle.pd_doc.specs.declared.refusal.DocRefusal.{DocRefusal}
use Rattle.pd_doc.specs.declared.refusal.DocRefusal.TheVariants as doc
use Rattle.pd_gather.specs.declared.refusal.GatherRefusal.{GatherRefusal}
use Rattle.pd_gather.specs.declared.refusal.GatherRefusal.TheVariants as gather
use Rattle.pd_patch.specs.declared.refusal.GrowRefusal.{GrowRefusal}
use Rattle.pd_patch.specs.declared.refusal.GrowRefusal.TheVariants as grow
use Rattle.pd_wiring.specs.declared.refusals.EditRefusal.{EditRefusal}
use Rattle.pd_wiring.specs.declared.refusals.EditRefusal.TheVariants as edit
use Rattle.pd_engine.specs.declared.refusals.OpenRefusal.{OpenRefusal}
use Rattle.pd_engine.specs.declared.refusals.OpenRefusal.TheVariants.{Bad, ShelfFault, NoMemory}
use Rattle.pd_engine.specs.declared.refusals.BadCause.TheVariants as cause

-- a document that can't be read is refused at its record
abbrev pub unread : DocRefusal → OpenRefusal
unread (doc.BadRecord n) = Bad n cause.BadRecord
unread (doc.DataStructure n) = Bad n cause.DataStructure
unread (doc.TooDeep n) = Bad n cause.TooDeep
unread (doc.TooLong n) = Bad n cause.TooLong
unread (doc.TooManyBoxes n) = Bad n cause.TooManyBoxes
unread (doc.TooManyWires n) = Bad n cause.TooManyWires
unread (doc.SymbolsFull n) = Bad n cause.SymbolsFull
unread doc.NoMemory = NoMemory

-- files that can't be gathered
abbrev pub ungathered : GatherRefusal → OpenRefusal
ungathered gather.ShelfFault = ShelfFault
ungathered gather.SymbolsFull = Bad 0 cause.SymbolsFull
ungathered gather.NoMemory = NoMemory

-- a document that doesn't grow is refused as a whole
abbrev pub ungrown : GrowRefusal → OpenRefusal
ungrown grow.SymbolsFull = Bad 0 cause.SymbolsFull
ungrown grow.TooManyBoxes = Bad 0 cause.TooManyBoxes
ungrown grow.TooManyWires = Bad 0 cause.TooManyWires
ungrown grow.TooMuchSound = Bad 0 cause.TooMuchSound
ungrown grow.NoMemory = NoMemory

-- a save that fails
abbrev pub unsaved : ShelfError → EditRefusal
unsaved shelf.Failed = edit.ShelfFault
unsaved shelf.NoMemory = edit.NoMemory
