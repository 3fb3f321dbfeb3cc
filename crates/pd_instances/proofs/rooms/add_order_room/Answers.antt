use Rattle.std.proofs.Common.{not, ap, ◌∙◌}
use Rattle.pd_instances.proofs.ListLemmas.{order_added}
use Rattle.pd_instances.proofs.rooms.add_order_room.Goals as goal

pub returns : goal.returns
returns c = λ insides A.
    order_added c.args.row.now.sheet c.args.row.now.boxes insides c.args.orders.now.items c.push_back.new.self.items c.in_ok-order.order (c.is_none.ensures ∙ ap not c.if-is_none.false) c.in_ok-push_back.ensures.items c.in_ok-order.ensures A
