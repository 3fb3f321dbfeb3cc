use Rattle.std.proofs.Common.{arith, rules, ◌≡◌, ◌+◌, ◌*◌, ◌/◌, ◌%◌, ◌^◌, ◌<◌, ◌≤◌, ◌∙◌, ap}
use Rattle.std.proofs.Math.Nat.{mul-le-mul_right}
use Rattle.std.proofs.lemmas.Int.{to_z-of_z}
use mir.Syntax.{w64}
use mir.Val.{SFits}
use Rattle.pd_tone.specs.Cosine.{cosine}
use Rattle.pd_tone.specs.Tones.{moved}
use Rattle.pd_tone.proofs.Shares.{rest_small}
use Rattle.pd_tone.proofs.Steady.{next_near, goes_on, sample_more, phase_more, samples_done, phase_done}
use Rattle.pd_tone.proofs.kernels.osc_steady.Goals as goal

pub loop-i-preserved : goal.loop-i-preserved
loop-i-preserved c =
    let few : (c.loop-i.i + 1) * c.args.part ≤ 64 * c.args.part = mul-le-mul_right c.args.part (omega (arith, c.loop-i-test.true)) in
    let small : c.loop-i.now * c.args.part % 2 ^ 64 + c.fraction-share.result * c.args.part % 2 ^ 64 < 2 ^ 64 =
    omega (arith, few, c.loop-i.invariant.near, c.fraction-share.ensures.near, c.requires.small) in
    let fits : SFits w64 c.nanos.result = search rules in
    let there : c.moved_within-way.result ≡ moved (c.args.part * 2048) 0 c.nanos.result = simp to_z-of_z at c.moved_within-way.ensures.value in
    let turn : c.moved_within-way.result ≡ moved (c.args.part * 2048) 0 c.args.step = there ∙ ap (moved (c.args.part * 2048) 0) c.nanos.ensures.value in
    let next : moved (c.args.part * 2048) (c.loop-i.index * c.args.part + c.loop-i.now * c.args.part / 2 ^ 64) c.args.step
    ≡ (c.loop-i.index + c.moved_within-way.result / c.args.part + (c.loop-i.now + c.fraction-share.result) / 2 ^ 64) % 2048 * c.args.part
    + (c.loop-i.now + c.fraction-share.result) % 2 ^ 64 * c.args.part / 2 ^ 64 =
    goes_on c.loop-i.index c.loop-i.now c.fraction-share.result c.args.part c.moved_within-way.result c.args.step c.requires.part turn c.fraction-share.ensures.whole small in
    record {
      room = search rules;
      within = rw c.stepped-next.ensures.index (omega arith);
      word = rw c.stepped-next.ensures.fraction (omega arith);
      near = rw (c.stepped-next.ensures.fraction, next_near c.loop-i.now c.fraction-share.result c.args.part small) (omega (arith, c.loop-i.invariant.near, c.fraction-share.ensures.near));
      phase = rw (c.stepped-next.ensures.index, c.stepped-next.ensures.fraction)
          (phase_more (c.args.part * 2048) _ _ c.loop-i.i 64 _ c.args.step c.loop-i-test.true next c.loop-i.invariant.phase);
      samples = rw (c.stepped-next.ensures.index, c.stepped-next.ensures.fraction)
          (sample_more (cosine (c.args.part * 2048)) (c.args.part * 2048) _ _ c.loop-i.i 64 c.args.step _ c.loop-i.output _ c.loop-i-test.true (omega (arith, c.loop-i.invariant.room, c.loop-i-test.true)) next
          c.osc_sample_at.ensures c.loop-i.invariant.samples);
    }

pub overflow_add-phase : goal.overflow_add-phase
overflow_add-phase c =
    let rest : c.loop-i.now * c.args.part / 2 ^ 64 < c.args.part = rest_small c.loop-i.now c.args.part c.loop-i.invariant.word c.requires.part in
    let parts : c.loop-i.index * c.args.part ≤ 2047 * c.args.part = mul-le-mul_right c.args.part (omega (arith, c.loop-i.invariant.within)) in
    omega (arith, rest, parts, c.high_product.ensures, c.requires.small)

pub returns-clause-samples : goal.returns-clause-samples
returns-clause-samples c =
    samples_done (cosine (c.args.part * 2048)) (c.args.part * 2048) (c.loop-i.index * c.args.part + c.loop-i.now * c.args.part / 2 ^ 64) c.loop-i.i 64 c.args.step c.loop-i.output _
    (omega arith) (omega arith) c.loop-i.invariant.samples

pub returns-clause-phase : goal.returns-clause-phase
returns-clause-phase c =
    rw c.high_product.ensures
    (phase_done (c.args.part * 2048) (c.loop-i.index * c.args.part + c.loop-i.now * c.args.part / 2 ^ 64) c.loop-i.i 64 _ c.args.step (omega arith) c.loop-i.invariant.phase)
