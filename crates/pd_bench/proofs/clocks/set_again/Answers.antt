use Rattle.std.proofs.Common.{arith}
use Rattle.pd_clock.proofs.QueueLemmas.{longer_set}
use Rattle.pd_bench.proofs.clocks.set_again.Goals as goal

pub returns : goal.returns
returns c =
    let s =
    longer_set c.args.owner c.args.clocks.now.clocks c.set.new.self.clocks (record { time = c.of_units.result; owner = c.args.owner })
    c.set.ensures.clocks in
    omega (arith, s, c.set.ensures.room, c.requires)
