use Rattle.std.proofs.Common.{◌≡◌, ℕ, ◌+◌, ◌-◌, ◌*◌, ◌<◌, ◌≤◌, ◌==◌, cond, length, get_or, ap, sym, ◌∙◌, subst, arith}
use Rattle.pd_bench_orders.specs.Voices.{outs, fed, voice_at}
use Rattle.pd_bench_orders.proofs.VoiceLemmas.{length-outs, out_at, voice_small}
use Rattle.pd_bench_orders.proofs.mend.VoicesSignalGraph.feeder.Goals as goal

pub voice_at-requires : goal.voice_at-requires
voice_at-requires g c =
    let n : ℕ = c.args.self.now.count in
    let cut : ℕ = c.args.self.now.cut in
    let h : c.args.i < length (outs cut n) = subst (λ (v : ℕ). c.args.i < length (cond (v == 0) (outs cut n) (fed n v))) c.if-node-eq0.true c.requires in
    let l : length (outs cut n) ≡ (cut - 1) + (n - cut) = length-outs cut n in
    omega (arith, h, l, c.args.self.now.few, c.args.self.now.within)

pub overflow_mul-result : goal.overflow_mul-result
overflow_mul-result g c =
    let n : ℕ = c.args.self.now.count in
    let cut : ℕ = c.args.self.now.cut in
    let h : c.args.i < length (outs cut n) = subst (λ (v : ℕ). c.args.i < length (cond (v == 0) (outs cut n) (fed n v))) c.if-node-eq0.true c.requires in
    let l : length (outs cut n) ≡ (cut - 1) + (n - cut) = length-outs cut n in
    let s : voice_at cut c.args.i ≤ c.args.i + 2 = voice_small cut c.args.i in
    let r : c.voice_at.result ≡ voice_at cut c.args.i = c.voice_at.ensures in
    let few : n < 1073741824 = c.args.self.now.few in
    let within : cut ≤ n = c.args.self.now.within in
    let small : 2 * c.voice_at.result < 4294967296 = omega (arith, h, l, s, r, few, within) in
    omega (arith, small)

pub returns-then-node-eq0-clause-item : goal.returns-then-node-eq0-clause-item
returns-then-node-eq0-clause-item g c =
    let n : ℕ = c.args.self.now.count in
    let cut : ℕ = c.args.self.now.cut in
    let h : c.args.i < length (outs cut n) = subst (λ (v : ℕ). c.args.i < length (cond (v == 0) (outs cut n) (fed n v))) c.if-node-eq0.true c.requires in
    subst (λ (v : ℕ). 2 * c.voice_at.result ≡ get_or (cond (v == 0) (outs cut n) (fed n v)) c.args.i 0) (sym c.if-node-eq0.true)
    (ap (λ (v : ℕ). 2 * v) c.voice_at.ensures ∙ sym (out_at cut n c.args.i h))
