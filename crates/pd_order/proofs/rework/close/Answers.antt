use Rattle.pd_order.specs.Spots.{is_nowhere}
use Rattle.pd_order.proofs.SettleLemmas.{by_rank_filter}
use Rattle.pd_order.proofs.rework.close.Goals as goal

pub gather-requires-clause-by_rank : goal.gather-requires-clause-by_rank
gather-requires-clause-by_rank g c = rw c.sweep.ensures.stuck (by_rank_filter (g.G.SignalGraph.meaning c.args.graph.now) (is_nowhere c.args.spots.now) c.args.stuck.now.items c.requires.by_rank)
