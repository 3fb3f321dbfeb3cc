use Rattle.std.proofs.Common.{arith, ◌+◌}
use Rattle.pd_patch.proofs.SoundLemmas.{sound_step, sound_part}
use Rattle.pd_adding.proofs.counting.sound_with.Goals as goal

pub returns-then-size-total-clause-much : goal.returns-then-size-total-clause-much
returns-then-size-total-clause-much c = λ e.
    let rows = c.args.rows.now in
    let n = c.loop-row.row-index in
    let step = sound_step c.args.rate rows n c.row-item.result c.row-item.result c.loop-row-test.true c.row-item.is in
    let part = sound_part c.args.rate rows (n + 1) in
    let inv = c.loop-row.invariant.sum in
    let size = c.sound_size-size.ensures in
    let big = c.if-size-total.true in
    omega (arith, step, part, inv, size, big)

pub loop-row-preserved : goal.loop-row-preserved
loop-row-preserved c =
    let step = sound_step c.args.rate c.args.rows.now c.loop-row.row-index c.row-item.result c.row-item.result c.loop-row-test.true c.row-item.is in
    let inv = c.loop-row.invariant.sum in
    let size = c.sound_size-size.ensures in
    let below = c.loop-row.invariant.few in
    let small = c.if-size-total.false in
    record {
      sum = omega (arith, step, inv, size);
      few = omega (arith, below, small);
    }
