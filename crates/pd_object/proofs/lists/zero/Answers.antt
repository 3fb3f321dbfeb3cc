use Rattle.std.proofs.Common.{sym, ◌∙◌}
use Rattle.pd_object.proofs.lists.zero.Goals as goal

pub returns : goal.returns
returns c = sym c.default.ensures.1 ∙ c.default.ensures.2
