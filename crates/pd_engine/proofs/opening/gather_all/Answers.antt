use Rattle.std.proofs.Common.{Err, sym, ap, subst}
use Rattle.pd_gather.specs.declared.refusal.GatherRefusal.{GatherRefusal}
use Rattle.pd_gather.specs.Gather.{Full, known, Gathers}
use Rattle.pd_engine.specs.Opening.{IsUngathered}
use Rattle.pd_engine.proofs.OpeningLemmas.{gather_refused}
use Rattle.pd_engine.proofs.opening.gather_all.Goals as goal

pub returns-in-Err-clause-refused : goal.returns-in-Err-clause-refused
returns-in-Err-clause-refused g c =
    subst (λ e. IsUngathered (g.H.Shelf.holds c.args.shelf.now) c.args.name.now c.args.doc.now.root c.args.symbols.now e) (sym c.ungathered.ensures.value)
    (gather_refused (g.H.Shelf.holds c.args.shelf.now) c.args.name.now c.args.doc.now.root c.args.symbols.now c.in-Err.refusal
    (λ is. subst (λ files. Gathers (g.H.Shelf.holds c.args.shelf.now) c.args.name.now c.args.doc.now.root (known files c.args.symbols.now) Full) c.requires.empty
    (c.in-Err.ensures.full (ap (λ (r : GatherRefusal). Err r) is))))
