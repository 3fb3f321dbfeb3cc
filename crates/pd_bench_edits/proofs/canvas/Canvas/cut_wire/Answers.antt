use Rattle.std.proofs.Common.{ℕ, List, sym, ◌∙◌, subst}
use Rattle.pd_order.specs.Graph.{IsOrder}
use Rattle.pd_order.specs.Spots.{nodes_of}
use Rattle.pd_links.specs.Linked.{link_graph}
use Rattle.pd_links.proofs.LinkLemmas.{after_cut, wire_there}
use Rattle.pd_bench_edits.proofs.NetLemmas.{fed_there, of_count, relabelled, under_labels}
use Rattle.pd_bench_edits.proofs.canvas.Canvas.cut_wire.Goals as goal

pub mend_cut-requires-clause-lawful : goal.mend_cut-requires-clause-lawful
mend_cut-requires-clause-lawful g c =
    let old = c.args.self.now in
    let net = c.cut.new.self in
    under_labels net.labels.items c.as_slice.result.now net.links old.net.count net.count (nodes_of old.order.spots) c.as_slice.ensures.value c.cut.ensures.count old.nodes_are net.lawful

pub mend_cut-requires-clause-there : goal.mend_cut-requires-clause-there
mend_cut-requires-clause-there g c =
    let old = c.args.self.now in
    fed_there (link_graph old.net.labels.items old.net.links) old.net.count (nodes_of old.order.spots) c.args.source c.args.sink old.nodes_are old.net.lawful
    (wire_there c.cut.new.self.links old.net.links c.args.source c.args.sink c.cut.ensures.less)

pub mend_cut-requires-clause-order : goal.mend_cut-requires-clause-order
mend_cut-requires-clause-order g c =
    let old = c.args.self.now in
    let net = c.cut.new.self in
    after_cut c.as_slice.result.now net.links old.net.links c.args.source c.args.sink (nodes_of old.order.spots) old.order.chain old.order.stuck c.cut.ensures.less
    (relabelled old.net.labels.items c.as_slice.result.now old.net.links (nodes_of old.order.spots) old.order.chain old.order.stuck (c.as_slice.ensures.value ∙ c.cut.ensures.labels) old.order_is)

pub invariant_of-self : goal.invariant_of-self
invariant_of-self g c =
    let old = c.args.self.now in
    let net = c.cut.new.self in
    let new = c.mend_cut.new.self in
    let order = subst (λ (v : List ℕ). IsOrder (link_graph c.as_slice.result.now net.links) v new.chain new.stuck) (sym c.mend_cut.ensures.nodes) c.mend_cut.ensures.order in (
      (net.lawful, tt),
      (
        relabelled c.as_slice.result.now net.labels.items net.links (nodes_of new.spots) new.chain new.stuck (sym c.as_slice.ensures.value) order,
        (of_count old.net.count net.count (nodes_of old.order.spots) (nodes_of new.spots) c.cut.ensures.count c.mend_cut.ensures.nodes old.nodes_are, tt),
      ),
    )
