use Rattle.std.proofs.Common.{arith, get_or, refl}
use Rattle.pd_adding.proofs.PatchLemmas.{above_more}
use Rattle.pd_adding.proofs.patches.next_above.Goals as goal

pub loop-zero-preserved : goal.loop-zero-preserved
loop-zero-preserved c =
    let zeros = c.args.zeros.now in
    let i = c.loop-zero.zero-index in
    let step = above_more zeros i (get_or zeros i 0) 0 c.loop-zero-test.true refl in
    let inv = c.loop-zero.invariant in
    let one = c.saturating_add.ensures in
    let most = c.max-next.ensures in
    omega (arith, step, inv, one, most)
