use Rattle.std.proofs.Common.{◌≡◌, length, ap, ◌∙◌, arith}
use Rattle.pd_order.specs.Graph.{tally}
use Rattle.pd_order.proofs.WiredLemmas.{length-below}
use Rattle.pd_bench_orders.proofs.RowLemmas.{rows_lawful}
use Rattle.pd_bench_orders.proofs.fold.fold_once.Goals as goal

pub fold-requires-clause-lawful : goal.fold-requires-clause-lawful
fold-requires-clause-lawful g c = rows_lawful c.args.graph.count c.args.nodes.now (λ x. ap (tally x) c.requires.nodes)

pub fold-requires-clause-few : goal.fold-requires-clause-few
fold-requires-clause-few g c = let l : length c.args.nodes.now ≡ c.args.graph.count = ap length c.requires.nodes ∙ length-below c.args.graph.count in omega (arith, l, c.requires.few)

pub fold-requires-clause-room : goal.fold-requires-clause-room
fold-requires-clause-room g c = let l : length c.args.nodes.now ≡ c.args.graph.count = ap length c.requires.nodes ∙ length-below c.args.graph.count in omega (arith, l, c.requires.room)
