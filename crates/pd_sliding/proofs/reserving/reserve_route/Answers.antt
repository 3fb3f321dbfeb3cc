use Rattle.std.proofs.Common.{length, sym, ap, ◌∙◌, arith}
use Rattle.pd_grove.specs.declared.ports.Side.TheVariants.{Inlets, Outlets}
use Rattle.pd_web.specs.Hops.{ports_told}
use Rattle.pd_boxes.proofs.ReserveLemmas.{lists_for}
use Rattle.pd_sliding.proofs.RoomLemmas.{fan_ends, fan_fits, room_near}
use Rattle.pd_sliding.proofs.reserving.reserve_route.Goals as goal

pub returns-clause-room : goal.returns-clause-room
returns-clause-room c =
    let p = c.args.patch.now in
    let v = c.reserve.new.self in
    let w = c.reserve_ports.new.web in
    let o = c.args.port in
    let A = c.reserve.ensures.same in
    let B = c.reserve_ports.ensures.same in
    let count = c.in-Some.ensures in
    let more = c.in-Some-checked_add.ensures in
    let low = c.in_ok-lines.ensures.capacity in
    record {
      near = room_near p.grove w c.nodes_end-keys.result c.nodes_end-keys.ensures.slots c.in_ok-around.ensures.room;
      lists = lists_for c.in_ok-around.around c.inlets_at-inlets.result c.outlets_at-outlets.result (length (ports_told w Inlets o.node)) (length (ports_told w Outlets o.node))
          (c.inlets_at-inlets.ensures ∙ ap length (sym (B.kept.ports Inlets o.node ∙ A.kept.ports Inlets o.node)))
          (c.outlets_at-outlets.ensures ∙ ap length (sym (B.kept.ports Outlets o.node ∙ A.kept.ports Outlets o.node))) c.in_ok-around.ensures.lists;
      empty = c.in_ok-lines.ensures.items;
      fits = λ side. fan_fits p.web v w o.node o.port c.in-Some.wires _ A B (count side) (omega (arith, low));
      ends = λ side. fan_ends p.web v w o.node o.port c.in-Some.wires c.in-Some-checked_add.ends A B (count side) (omega (arith, more)) (c.reserve_ports.ensures.kept 0 c.in-Some-checked_add.ends 0 c.in_ok-reserve.ensures.room);
    }
