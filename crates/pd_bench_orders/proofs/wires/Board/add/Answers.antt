use Rattle.pd_bench_orders.proofs.HeldLemmas.{found}
use Rattle.pd_bench_orders.proofs.wires.Board.add.Goals as goal

pub add-requires-clause-source : goal.add-requires-clause-source
add-requires-clause-source c =
    let there = c.in-Some.ensures.lookup.3 in
    let board = c.args.self.now in
    board.live.outlets c.in-Some.source.now (found board.outlets.items c.deref.result.now c.args.outlet c.in-Some.source.now c.deref.ensures.value there.0 (there.1 0))
