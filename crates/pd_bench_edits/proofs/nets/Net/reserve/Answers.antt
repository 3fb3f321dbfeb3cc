use Rattle.pd_bench_edits.specs.Nets.{behind}
use Rattle.pd_bench_edits.proofs.NetLemmas.{same_lawful}
use Rattle.pd_bench_edits.proofs.nets.Net.reserve.Goals as goal

pub invariant_of-self : goal.invariant_of-self
invariant_of-self c =
    let net = c.args.self.now in
    record { lawful = same_lawful net.labels.items net.links c.reserve.new.self (behind net.count) c.reserve.ensures.same net.lawful }
