use Rattle.std.proofs.Common.{arith, ◌<◌, ◌+◌}
use Rattle.std.proofs.lemmas.Bool.Decides.{nat_tests}
use Rattle.pd_patch.specs.Sounds.{sound_in}
use Rattle.pd_patch.proofs.SoundLemmas.{sound_step, sound_part}
use Rattle.pd_patch.proofs.sounds.is_too_much.Goals as goal

pub returns-then-size-left : goal.returns-then-size-left
returns-then-size-left c =
    let rows = c.args.rows.now in
    let n = c.loop-row.row-index in
    let step = sound_step c.args.rate rows n c.row-item.result c.row-item.result c.loop-row-test.true c.row-item.is in
    let part = sound_part c.args.rate rows (n + 1) in
    let inv = c.loop-row.invariant in
    let size = c.sound_size-size.ensures in
    let big = c.if-size-left.true in
    let more : 16777216 < sound_in c.args.rate rows = omega (arith, step, part, inv, size, big) in
    grind (arith, nat_tests)

pub loop-row-preserved : goal.loop-row-preserved
loop-row-preserved c =
    let step = sound_step c.args.rate c.args.rows.now c.loop-row.row-index c.row-item.result c.row-item.result c.loop-row-test.true c.row-item.is in
    let inv = c.loop-row.invariant in
    let size = c.sound_size-size.ensures in
    let small = c.if-size-left.false in
    omega (arith, step, inv, size, small)
