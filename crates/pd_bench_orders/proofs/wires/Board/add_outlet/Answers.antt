use Rattle.pd_bench_orders.proofs.HeldLemmas.{live_room, live_end_if}
use Rattle.pd_bench_orders.proofs.wires.Board.add_outlet.Goals as goal

pub invariant_of-self-2 : goal.invariant_of-self-2
invariant_of-self-2 c =
    let board = c.args.self.now in
    let l = live_room board.book c.reserve.new.self board.outlets.items board.inlet board.held.items 1 0 c.in_ok-reserve.ensures.ok board.live in
    record {
      live = live_end_if c.reserve.new.self c.make_end-outlet.new.self board.outlets.items c.push.new.self.items board.inlet board.held.items c.make_end-outlet.result _ c.push.ensures.items c.make_end-outlet.ensures l;
    }
