use Rattle.std.proofs.Common.{sym}
use Rattle.pd_order.specs.Graph.{add_wire}
use Rattle.pd_patch.specs.Telling.{order_in}
use Rattle.pd_wiring.specs.Changes.{graph_in, is_signal_line, most_mending}
use Rattle.pd_edit.proofs.LineLemmas.{box_inside, wire_here, looks_within}
use Rattle.pd_edit.proofs.wires.take_out.Goals as goal

pub returns-clause-less : goal.returns-clause-less
returns-clause-less g c =
    let w = c.args.patch.now.web in
    let a = c.args.going in
    sym (c.wires_are_counted.ensures.cuts w c.detach.new.patch.web a.key c.detach.ensures.cuts (wire_here w a.line a.key c.laws.ensures.fans c.requires.leads))

pub returns-clause-looks : goal.returns-clause-looks
returns-clause-looks g c =
    let p = c.args.patch.now in
    let q = c.detach.new.patch in
    let l = c.args.going.line in
    let n = c.args.going.canvas in
    looks_within (is_signal_line p.web l) c.args.steps.now c.detach.new.steps
    (most_mending (add_wire (graph_in q n) l.source l.sink) l.sink (order_in p.orders.items n) (order_in q.orders.items n))
    c.detach.ensures.control (c.detach.ensures.looks n (box_inside p.grove n l.source c.requires.rewires.own c.requires.inside))
