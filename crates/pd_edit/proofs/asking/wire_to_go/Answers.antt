use Rattle.std.proofs.Common.{sym, ◌∙◌}
use Rattle.pd_edit.proofs.LineLemmas.{found_along}
use Rattle.pd_edit.proofs.asking.wire_to_go.Goals as goal

pub returns-clause-leads : goal.returns-clause-leads
returns-clause-leads c = found_along c.args.patch.now.web c.in-Ok.line c.in-Some-wire_between.key (sym c.wire_between.ensures ∙ c.in-Some-wire_between.is)
