use Rattle.std.proofs.Common.{sym, ◌∙◌, None, Some}
use Rattle.pd_name.proofs.RowLemmas.{owners_at}
use Rattle.pd_name.proofs.lists.owners.Goals as goal

pub returns-in-Some : goal.returns-in-Some
returns-in-Some c = c.as_slice.ensures.value ∙ sym (owners_at c.args.lists.now.entries c.args.key (Some c.in-Some.owners.now) (sym c.in-Some.ensures.value))

pub returns-in-None : goal.returns-in-None
returns-in-None c = sym (owners_at c.args.lists.now.entries c.args.key None (sym c.in-None.ensures.value))
