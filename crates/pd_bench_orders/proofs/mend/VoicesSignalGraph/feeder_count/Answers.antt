use Rattle.std.proofs.Common.{◌≡◌, ℕ, ◌+◌, ◌-◌, ◌==◌, cond, length, sym, subst, arith}
use Rattle.pd_bench_orders.specs.Voices.{outs, fed}
use Rattle.pd_bench_orders.proofs.VoiceLemmas.{length-outs}
use Rattle.pd_bench_orders.proofs.mend.VoicesSignalGraph.feeder_count.Goals as goal

pub returns-then-node-eq0-clause-count : goal.returns-then-node-eq0-clause-count
returns-then-node-eq0-clause-count g c =
    let n : ℕ = c.args.self.now.count in
    let cut : ℕ = c.args.self.now.cut in
    let l : length (outs cut n) ≡ (cut - 1) + (n - cut) = length-outs cut n in
    let r : c.saturating_sub.result ≡ cut - 1 = c.saturating_sub.ensures in
    subst (λ (v : ℕ). c.saturating_sub.result + (n - cut) ≡ length (cond (v == 0) (outs cut n) (fed n v))) (sym c.if-node-eq0.true) (omega (arith, l, r))
