use Rattle.std.proofs.Common.{length, arith, ap}
use Rattle.pd_clock.proofs.QueueLemmas.{longer_set}
use Rattle.pd_bench.proofs.clocks.Ring.add.Goals as goal

pub invariant_of-self-2 : goal.invariant_of-self-2
invariant_of-self-2 c =
    let s =
    longer_set c.args.owner c.reserve_one.new.self.clocks c.set.new.self.clocks (record { time = c.of_units.result; owner = c.args.owner })
    c.set.ensures.clocks in
    record { few = omega (arith, s, ap length c.in_ok-reserve_one.ensures.clocks, c.in_ok-reserve_one.ensures.ok, c.set.ensures.room) }
