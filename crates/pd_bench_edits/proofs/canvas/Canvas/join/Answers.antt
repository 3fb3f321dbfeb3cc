use Rattle.std.proofs.Common.{ℕ, List, sym, ◌∙◌, subst}
use Rattle.pd_order.specs.Graph.{IsOrder}
use Rattle.pd_order.specs.Spots.{nodes_of}
use Rattle.pd_links.specs.Linked.{link_graph}
use Rattle.pd_links.proofs.LinkLemmas.{after_add, wire_there}
use Rattle.pd_bench_edits.proofs.NetLemmas.{of_count, relabelled, under_labels}
use Rattle.pd_bench_edits.proofs.canvas.Canvas.join.Goals as goal

pub mend_add-requires-clause-lawful : goal.mend_add-requires-clause-lawful
mend_add-requires-clause-lawful g c =
    let old = c.args.self.now in
    let net = c.add.new.self in
    under_labels net.labels.items c.as_slice.result.now net.links old.net.count net.count (nodes_of old.order.spots) c.as_slice.ensures.value c.add.ensures.count old.nodes_are net.lawful

pub mend_add-requires-clause-wire : goal.mend_add-requires-clause-wire
mend_add-requires-clause-wire g c = wire_there c.args.self.now.net.links c.add.new.self.links c.args.source c.args.sink c.add.ensures.more

pub mend_add-requires-clause-order : goal.mend_add-requires-clause-order
mend_add-requires-clause-order g c =
    let old = c.args.self.now in
    let net = c.add.new.self in
    after_add c.as_slice.result.now old.net.links net.links c.args.source c.args.sink (nodes_of old.order.spots) old.order.chain old.order.stuck c.add.ensures.more
    (relabelled old.net.labels.items c.as_slice.result.now old.net.links (nodes_of old.order.spots) old.order.chain old.order.stuck (c.as_slice.ensures.value ∙ c.add.ensures.labels) old.order_is)

pub invariant_of-self : goal.invariant_of-self
invariant_of-self g c =
    let old = c.args.self.now in
    let net = c.add.new.self in
    let new = c.mend_add.new.self in
    let order = subst (λ (v : List ℕ). IsOrder (link_graph c.as_slice.result.now net.links) v new.chain new.stuck) (sym c.mend_add.ensures.nodes) c.mend_add.ensures.order in (
      (net.lawful, tt),
      (
        relabelled c.as_slice.result.now net.labels.items net.links (nodes_of new.spots) new.chain new.stuck (sym c.as_slice.ensures.value) order,
        (of_count old.net.count net.count (nodes_of old.order.spots) (nodes_of new.spots) c.add.ensures.count c.mend_add.ensures.nodes old.nodes_are, tt),
      ),
    )
