use Rattle.std.proofs.Common.{sym, ◌∙◌}
use Rattle.pd_putting.proofs.SubLemmas.{ready_shell, ready_leaf}
use Rattle.pd_putting.proofs.placing.put_seed.Goals as goal

pub put_sub-requires-clause-shell : goal.put_sub-requires-clause-shell
put_sub-requires-clause-shell g c = (ready_shell c.args.patch.now c.args.place c.args.seed c.requires.ready (sym c.is_some.ensures ∙ c.if-is_some.true)).0

pub put_sub-requires-clause-shallow : goal.put_sub-requires-clause-shallow
put_sub-requires-clause-shallow g c = (ready_shell c.args.patch.now c.args.place c.args.seed c.requires.ready (sym c.is_some.ensures ∙ c.if-is_some.true)).1

pub put_port_box-requires-clause-leaf : goal.put_port_box-requires-clause-leaf
put_port_box-requires-clause-leaf g c = ready_leaf c.args.patch.now c.args.place c.args.seed c.requires.ready (sym c.is_some.ensures ∙ c.if-is_some.false)

pub put_plain-requires-clause-leaf : goal.put_plain-requires-clause-leaf
put_plain-requires-clause-leaf g c = ready_leaf c.args.patch.now c.args.place c.args.seed c.requires.ready (sym c.is_some.ensures ∙ c.if-is_some.false)
