use Rattle.std.proofs.Common.{sym, ◌∙◌, arith}
use Rattle.pd_subpatches.proofs.OpenedLemmas.{live_in}
use Rattle.pd_subpatches.proofs.putting.open_inside.Goals as goal

pub open_order-requires : goal.open_order-requires
open_order-requires c =
    let low = live_in c.args.grove.now.boards c.in-Some.canvas (c.requires.live c.in-Some.canvas (sym c.canvas_in.ensures ∙ c.in-Some.is)) in
    let slots = c.boards_end-end.ensures.slots in
    let value = c.boards_end-end.ensures.value in
    let reach = c.requires.slots in
    record { slot = omega (arith, low, slots, value, reach) }
