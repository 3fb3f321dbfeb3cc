use Rattle.std.proofs.Common.{◌-◌, ◌^◌, length}
use Rattle.pd_canvas.specs.Views.{entry_of}
use Rattle.pd_gather.specs.Gather.{known}
use Rattle.pd_gather.proofs.BoxLemmas.{IsTrying}
use Rattle.pd_gather.proofs.boxes.gather_one.Given as goal

abbrev pub invariant-trials : goal.invariant-trials
invariant-trials g l =
    IsTrying (g.H.Shelf.holds l.fn.shelf) (g.H.Shelf.holds l.shelf) (g.H.Shelf.faults l.fn.shelf) (g.H.Shelf.faults l.shelf) l.site (entry_of l.element)
    (known l.fn.files l.fn.symbols) (known l.files l.symbols) l.fn.supply l.supply

abbrev pub decreases-trials : goal.decreases-trials
decreases-trials g l = 2 ^ 63 - length l.files
