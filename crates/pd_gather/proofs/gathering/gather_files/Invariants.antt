use Rattle.std.proofs.Common.{◌+◌, ◌-◌, ◌^◌, length}
use Rattle.pd_gather.specs.Gather.{known}
use Rattle.pd_gather.proofs.WayLemmas.{IsUnderWay}
use Rattle.pd_gather.proofs.gathering.gather_files.Given as goal

abbrev pub invariant-loop-at : goal.invariant-loop-at
invariant-loop-at g l =
    IsUnderWay (g.H.Shelf.holds l.fn.shelf) (g.H.Shelf.holds l.shelf) (g.H.Shelf.faults l.fn.shelf) (g.H.Shelf.faults l.shelf) l.name l.doc.root
    (known l.fn.files l.fn.symbols) (known l.files l.symbols) l.names l.at l.supply l.boxes

abbrev pub decreases-loop-at : goal.decreases-loop-at
decreases-loop-at g l = (length l.boxes - l.at) + (2 ^ 63 - length l.files)
