use Rattle.pd_retyping.proofs.AlikeLemmas.{port_not_plain}
use Rattle.pd_retyping.proofs.alike.is_plain_in.Goals as goal

pub returns-clause-no : goal.returns-clause-no
returns-clause-no c = λ f.
    port_not_plain c.args.patch.now c.args.canvas c.args.kind.now c.is_held.result c.is_port.result c.is_held.ensures c.if-not-is_held.false c.is_port.ensures f
