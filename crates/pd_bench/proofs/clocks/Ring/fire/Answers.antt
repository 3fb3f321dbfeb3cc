use Rattle.std.proofs.Common.{arith}
use Rattle.pd_bench.proofs.ClockLemmas.{one_taken}
use Rattle.pd_bench.proofs.clocks.Ring.fire.Goals as goal

pub set_again-requires : goal.set_again-requires
set_again-requires c =
    let n = one_taken c.args.self.now.clocks.clocks c.next_before.new.self.clocks _ c.in-Some.ensures.some.1 in
    omega (arith, n, c.next_before.ensures.room, c.args.self.now.few)
