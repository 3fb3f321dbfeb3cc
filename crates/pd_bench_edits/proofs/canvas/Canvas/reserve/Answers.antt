use Rattle.std.proofs.Common.{refl}
use Rattle.pd_order.specs.Spots.{nodes_of}
use Rattle.pd_bench_edits.proofs.NetLemmas.{of_count, relabelled, same_links_order}
use Rattle.pd_bench_edits.proofs.canvas.Canvas.reserve.Goals as goal

pub invariant_of-self : goal.invariant_of-self
invariant_of-self c =
    let old = c.args.self.now in
    let net = c.reserve.new.self in
    let ns = nodes_of old.order.spots in
    record {
      order_is = relabelled old.net.labels.items net.labels.items net.links ns old.order.chain old.order.stuck c.reserve.ensures.labels
          (same_links_order old.net.labels.items old.net.links net.links ns old.order.chain old.order.stuck c.reserve.ensures.same old.order_is);
      nodes_are = of_count old.net.count net.count ns ns c.reserve.ensures.count refl old.nodes_are;
    }
