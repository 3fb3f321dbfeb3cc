use Rattle.std.proofs.Common.{ℕ, sym}
use Rattle.pd_order.proofs.MendLemmas.{order_nodes}
use Rattle.pd_wiring.specs.Graphs.{graph_told, signal_told}
use Rattle.pd_wiring.proofs.MendLemmas.{lawful_nodes}
use Rattle.pd_placing.proofs.folding.fold_boxes.Goals as goal

pub fold-requires-clause-lawful : goal.fold-requires-clause-lawful
fold-requires-clause-lawful g c =
    let s = c.args.graph.now in lawful_nodes (graph_told s) (signal_told s) c.args.signal.now (λ x. sym (c.requires.boxes x)) c.requires.lawful

pub returns-clause-order : goal.returns-clause-order
returns-clause-order g c =
    let s = c.args.graph.now in
    let n = c.fold.new.self in order_nodes (graph_told s) c.args.signal.now (signal_told s) n.chain n.stuck c.requires.boxes c.fold.ensures.order
