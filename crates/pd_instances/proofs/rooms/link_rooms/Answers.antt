use Rattle.std.proofs.Common.{map, take, sym, subst}
use Rattle.std.specs.List.{AllZip}
use Rattle.std.proofs.lemmas.List.{take_all}
use Rattle.pd_tree.specs.Trees.{stands_in}
use Rattle.pd_instances.specs.Needs.{insides_of, AreLinkRooms}
use Rattle.pd_instances.proofs.ListLemmas.{insides_next}
use Rattle.pd_instances.proofs.rooms.link_rooms.Goals as goal

pub loop-row-preserved : goal.loop-row-preserved
loop-row-preserved c =
    let rows = c.args.rows.now in
    let i = c.loop-row.row-index in
    subst (λ is. AllZip AreLinkRooms is (map (λ v. v.items) c.add_link_rooms.new.rooms.items)) (sym (insides_next rows i c.row-item.result c.loop-row-test.true c.row-item.is))
    (c.in_ok-add_link_rooms.ensures (insides_of (stands_in (take i rows))) c.loop-row.invariant)

pub returns : goal.returns
returns c =
    subst (λ rs. AllZip AreLinkRooms (insides_of (stands_in rs)) (map (λ v. v.items) c.loop-row.rooms.items)) (take_all c.loop-row.row-index c.args.rows.now c.loop-row-test.false) c.loop-row.invariant
