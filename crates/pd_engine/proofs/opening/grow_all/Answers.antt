use Rattle.std.proofs.Common.{sym, subst}
use Rattle.pd_gather.specs.Gather.{known}
use Rattle.pd_engine.specs.Opening.{growth_of, IsUngrown}
use Rattle.pd_engine.proofs.OpeningLemmas.{finds_room, grow_refused}
use Rattle.pd_engine.proofs.opening.grow_all.Goals as goal

pub returns-in-Err-clause-refused : goal.returns-in-Err-clause-refused
returns-in-Err-clause-refused c =
    let files = known c.args.library.now c.args.symbols.now in
    subst (λ e. IsUngrown (growth_of c.args.name.now c.args.doc.root files) c.args.rate e) (sym c.ungrown.ensures)
    (grow_refused (growth_of c.args.name.now c.args.doc.root files) c.args.rate c.in-Err.refusal
    (finds_room c.args.name.now c.args.doc.root files c.requires.all) c.in-Err.ensures.cause)
