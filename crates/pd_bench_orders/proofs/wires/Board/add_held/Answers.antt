use Rattle.pd_bench_orders.proofs.HeldLemmas.{found, live_room, live_held_if}
use Rattle.pd_bench_orders.proofs.wires.Board.add_held.Goals as goal

pub add-key-requires-clause-source : goal.add-key-requires-clause-source
add-key-requires-clause-source c =
    let there = c.in-Some.ensures.lookup.3 in
    let board = c.args.self.now in
    let l = live_room board.book c.reserve.new.self board.outlets.items board.inlet board.held.items 0 1 c.in_ok-reserve.ensures.ok board.live in
    l.outlets c.in-Some.source.now (found board.outlets.items c.deref.result.now c.args.outlet c.in-Some.source.now c.deref.ensures.value there.0 (there.1 0))

pub invariant_of-self-in-Some : goal.invariant_of-self-in-Some
invariant_of-self-in-Some c =
    let board = c.args.self.now in
    let l = live_room board.book c.reserve.new.self board.outlets.items board.inlet board.held.items 0 1 c.in_ok-reserve.ensures.ok board.live in
    record {
      live = live_held_if c.reserve.new.self c.add-key.new.self board.outlets.items board.inlet board.held.items c.push.new.self.items c.add-key.result _ _ _ _ _ c.push.ensures.items c.add-key.ensures l;
    }
