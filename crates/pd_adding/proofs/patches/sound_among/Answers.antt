use Rattle.std.proofs.Common.{arith, get_or, refl}
use Rattle.slab.specs.Slab.{get}
use Rattle.pd_adding.proofs.PatchLemmas.{sound_more}
use Rattle.pd_adding.proofs.patches.sound_among.Goals as goal

pub loop-key-preserved : goal.loop-key-preserved
loop-key-preserved c =
    let keys = c.args.boxes.now in
    let i = c.loop-key.key-index in
    let step = sound_more c.args.rate (get c.args.grove.now.nodes) keys i (get_or keys i 0) 0 c.loop-key-test.true refl in
    let inv = c.loop-key.invariant in
    let size = c.sound_at.ensures in
    let sum = c.saturating_add-sound.ensures in
    omega (arith, step, inv, size, sum)
