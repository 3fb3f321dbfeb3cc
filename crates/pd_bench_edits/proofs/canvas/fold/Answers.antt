use Rattle.std.proofs.Common.{refl, sym, ◌∙◌}
use Rattle.pd_order.specs.Spots.{nodes_of}
use Rattle.pd_order.proofs.MendLemmas.{order_nodes}
use Rattle.pd_links.specs.Linked.{link_graph}
use Rattle.pd_bench_edits.proofs.NetLemmas.{relabelled, under_labels}
use Rattle.pd_bench_edits.proofs.canvas.fold.Goals as goal

pub fold-requires-clause-lawful : goal.fold-requires-clause-lawful
fold-requires-clause-lawful g c =
    let net = c.args.net.now in
    under_labels net.labels.items c.as_slice.result.now net.links net.count net.count c.args.nodes.now c.as_slice.ensures.value refl c.requires.nodes net.lawful

pub returns-clause-order : goal.returns-clause-order
returns-clause-order g c =
    let net = c.args.net.now in
    let new = c.fold.new.self in
    relabelled c.as_slice.result.now net.labels.items net.links (nodes_of new.spots) new.chain new.stuck (sym c.as_slice.ensures.value)
    (order_nodes (link_graph c.as_slice.result.now net.links) c.args.nodes.now (nodes_of new.spots) new.chain new.stuck (λ x. sym (c.fold.ensures.nodes x)) c.fold.ensures.order)

pub returns-clause-nodes : goal.returns-clause-nodes
returns-clause-nodes g c = λ x. c.fold.ensures.nodes x ∙ c.requires.nodes x
