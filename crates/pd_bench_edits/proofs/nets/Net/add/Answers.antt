use Rattle.pd_bench_edits.proofs.NetLemmas.{behind_there, more_lawful}
use Rattle.pd_bench_edits.proofs.nets.Net.add.Goals as goal

pub invariant_of-self : goal.invariant_of-self
invariant_of-self c =
    let net = c.args.self.now in
    let may = c.requires.may in
    record { lawful = more_lawful net.labels.items net.links c.add.new.self net.count c.args.source c.args.sink c.add.ensures.wires (behind_there net.count c.args.source may.source_behind may.source_within) (behind_there net.count c.args.sink may.sink_behind may.sink_within) net.lawful }
