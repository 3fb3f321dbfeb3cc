use Rattle.std.proofs.Common.{◌≡◌, ℕ, ◌+◌, ◌*◌, ◌<◌, pos, drop, length, arith, rules, ◌∙◌}
use Rattle.pd_vline.specs.Ramps.{base_at}
use Rattle.pd_vline.specs.Taken.{front, taken, value_at}
use Rattle.pd_vline.proofs.TakenLemmas.{taken_later, value_taken, samples_more}
use Rattle.pd_vline.proofs.passing.fill.Goals as goal

pub loop-i-preserved : goal.loop-i-preserved
loop-i-preserved c =
    let now : ℕ = c.args.start + c.loop-i.i * 1000000000 in
    let some : c.as_slice.result.now ≡ c.args.ramps.now.ramps = c.as_slice.ensures in
    let units : c.units.result ≡ c.args.start = c.units.ensures in
    let advanced = rw (some, units) at c.advance-place.ensures.taken in
    let e : front c.advance-place.result.base (drop c.advance-place.result.count c.args.ramps.now.ramps)
    ≡ taken (now + 1) c.args.ramps.now.base c.args.ramps.now.ramps = advanced ∙ c.loop-i.invariant.taken (now + 1) (omega arith) in
    let value : c.base_at.result ≡ base_at c.advance-place.result.base now = rw (c.of_units.ensures, units) at c.base_at.ensures in
    let few : c.loop-i.i < length c.loop-i.out = search rules in
    record {
      samples = samples_more c.loop-i.out (λ k. value_at c.args.ramps.now.base c.args.ramps.now.ramps (c.args.start + k * 1000000000)) c.loop-i.i c.base_at.result (pos 0)
          few c.loop-i.invariant.samples (value ∙ value_taken now c.args.ramps.now.base c.args.ramps.now.ramps _ _ e);
      taken = λ t le. taken_later (now + 1) t c.args.ramps.now.base c.args.ramps.now.ramps _ _ e (omega arith);
      short = c.advance-place.ensures.short;
      within = rw some at c.advance-place.ensures.within;
    }
