use Rattle.std.proofs.Common.{take, sym, subst}
use Rattle.std.specs.List.{AllZip}
use Rattle.std.proofs.lemmas.List.{take_all}
use Rattle.pd_tree.specs.Trees.{stands_in}
use Rattle.pd_instances.specs.Needs.{insides_of, IsOrderRoom}
use Rattle.pd_instances.proofs.ListLemmas.{insides_next}
use Rattle.pd_instances.proofs.rooms.order_rooms.Goals as goal

pub loop-row-preserved : goal.loop-row-preserved
loop-row-preserved c =
    let rows = c.args.rows.now in
    let i = c.loop-row.row-index in
    subst (λ is. AllZip IsOrderRoom is c.add_order_room.new.orders.items) (sym (insides_next rows i c.row-item.result c.loop-row-test.true c.row-item.is))
    (c.in_ok-add_order_room.ensures (insides_of (stands_in (take i rows))) c.loop-row.invariant)

pub returns : goal.returns
returns c =
    subst (λ rs. AllZip IsOrderRoom (insides_of (stands_in rs)) c.loop-row.orders.items) (take_all c.loop-row.row-index c.args.rows.now c.loop-row-test.false) c.loop-row.invariant
