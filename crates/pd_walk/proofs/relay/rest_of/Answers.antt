use Rattle.std.proofs.Common.{◌∙◌, sym}
use Rattle.pd_walk.proofs.RelayLemmas.{none-first}
use Rattle.pd_walk.proofs.relay.rest_of.Goals as goal

pub returns-in-None-clause-none : goal.returns-in-None-clause-none
returns-in-None-clause-none c = none-first _ (sym c.in-None.is ∙ c.fan_first.ensures)
