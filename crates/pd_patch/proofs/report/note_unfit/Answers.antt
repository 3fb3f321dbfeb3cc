use Rattle.pd_patch.specs.Report.{unfit_in}
use Rattle.pd_patch.proofs.PushLemmas.{push_each}
use Rattle.pd_patch.proofs.report.note_unfit.Goals as goal

pub loop-canvas-preserved : goal.loop-canvas-preserved
loop-canvas-preserved c =
    push_each (unfit_in c.args.web.now c.args.grove.now) _ _ _ c.args.canvases.now c.loop-canvas.canvas-index 0 c.loop-canvas-test.true
    c.in_ok-note_unfit_in.ensures c.loop-canvas.invariant
