use Rattle.pd_patch.specs.declared.report.Remark.TheVariants.{Loop}
use Rattle.pd_patch.specs.Telling.{order_in, is_looped}
use Rattle.pd_patch.specs.Report.{loops_among}
use Rattle.pd_patch.proofs.PushLemmas.{push_more, noted_parts}
use Rattle.pd_patch.proofs.report.note_loops.Goals as goal

pub loop-canvas-preserved : goal.loop-canvas-preserved
loop-canvas-preserved c =
    let orders = c.args.patch.now.orders.items in
    push_more (loops_among orders) (noted_parts (λ k. Loop k) (λ k. is_looped (order_in orders k))) _ _ _ c.args.canvases.now c.loop-canvas.canvas-index 0 c.loop-canvas-test.true
    c.in_ok-note_loop.ensures c.loop-canvas.invariant
