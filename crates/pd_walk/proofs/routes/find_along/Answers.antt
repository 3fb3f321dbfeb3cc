use Rattle.std.proofs.Common.{◌∙◌, sym}
use Rattle.pd_walk.proofs.RelayLemmas.{only-first}
use Rattle.pd_walk.proofs.routes.find_along.Goals as goal

pub keep_route-requires-clause-only : goal.keep_route-requires-clause-only
keep_route-requires-clause-only c =
    only-first _ c.args.hop c.requires.first (sym c.in-None.is ∙ c.fan_next.ensures c.args.node 0 0 (sym c.requires.first))
