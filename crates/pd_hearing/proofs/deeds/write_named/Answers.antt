use Rattle.std.proofs.Common.{◌∙◌, ap}
use Rattle.pd_hearing.specs.Worlds.{net_of, states_of}
use Rattle.pd_hearing.specs.Deeds.{written}
use Rattle.pd_hearing.proofs.WorldLemmas.{writes-states, writes-net}
use Rattle.pd_hearing.proofs.deeds.write_named.Goals as goal

pub returns-in-Some-clause-states : goal.returns-in-Some-clause-states
returns-in-Some-clause-states c =
    writes-states c.args.patch.now.grove c.write_table.new.self.grove _ c.args.index c.args.value c.write_table.ensures.writes
    ∙ ap (λ o. written (net_of c.args.patch.now) (states_of c.args.patch.now) c.args.index c.args.value o) c.in-Some.ensures

pub returns-in-Some-clause-net : goal.returns-in-Some-clause-net
returns-in-Some-clause-net c =
    writes-net c.args.patch.now c.write_table.new.self _ c.args.index c.args.value c.write_table.ensures.writes c.write_table.ensures.rest c.write_table.ensures.clocks
