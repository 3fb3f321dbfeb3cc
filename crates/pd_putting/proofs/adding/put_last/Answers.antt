use Rattle.pd_putting.proofs.LastLemmas.{comes_last, stays_last}
use Rattle.pd_putting.proofs.adding.put_last.Goals as goal

pub returns-clause-put : goal.returns-clause-put
returns-clause-put g c =
    comes_last c.args.patch.now c.put_grown.new.patch c.args.grown c.in-Ok.number c.in-Ok.ensures c.args.now c.args.symbols.now c.put_grown.result c.put_grown.ensures.put

pub returns-clause-refused : goal.returns-clause-refused
returns-clause-refused g c =
    stays_last c.args.patch.now c.put_grown.new.patch c.args.grown c.in-Ok.number c.in-Ok.ensures c.put_grown.result c.put_grown.ensures.refused
