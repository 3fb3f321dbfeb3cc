use Rattle.pd_web.specs.Hops.{fan_hops}
use Rattle.pd_patch.proofs.OrderLemmas.{hop_step, hops_done, none_past}
use Rattle.pd_patch.proofs.orders.push_outlet_wires.Goals as goal

pub loop-preserved : goal.loop-preserved
loop-preserved c =
    let web = c.args.web.now in
    let hops = fan_hops web c.args.node c.args.outlet in
    record {
      next = c.in_ok-next.ensures.next c.loop.counter c.loop.invariant.next;
      wires = hop_step web c.args.node hops c.loop.counter c.loop.next c.args.wires.now.items c.loop.wires.items c.push_hop.new.wires.items c.loop.invariant.next c.in_ok-next.ensures.wires c.loop.invariant.wires;
    }

pub returns : goal.returns
returns c =
    let web = c.args.web.now in
    let hops = fan_hops web c.args.node c.args.outlet in
    hops_done web c.args.node hops c.loop.counter c.args.wires.now.items c.loop.wires.items (none_past hops 65536 c.loop.counter c.requires.few c.loop-test.false) c.loop.invariant.wires
