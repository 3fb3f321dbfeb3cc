use Rattle.std.proofs.Common.{arith}
use Rattle.pd_bench_edits.specs.Nets.{behind}
use Rattle.pd_bench_edits.proofs.NetLemmas.{less_lawful}
use Rattle.pd_bench_edits.proofs.nets.Net.cut.Goals as goal

pub cut-requires-clause-into : goal.cut-requires-clause-into
cut-requires-clause-into c = omega (arith, c.args.self.now.lawful.joined c.args.sink c.args.source, c.requires)

pub invariant_of-self : goal.invariant_of-self
invariant_of-self c =
    let net = c.args.self.now in
    record { lawful = less_lawful net.labels.items c.cut.new.self net.links (behind net.count) c.args.source c.args.sink c.cut.ensures.wires net.lawful }
