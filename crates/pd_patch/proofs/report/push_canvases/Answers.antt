use Rattle.std.proofs.lemmas.List.Elements.{filter_map-append}
use Rattle.slab.specs.Slab.{get}
use Rattle.pd_grove.specs.Telling.{inner_in}
use Rattle.pd_patch.specs.Report.{canvases_inside}
use Rattle.pd_patch.proofs.PushLemmas.{push_more}
use Rattle.pd_patch.proofs.report.push_canvases.Goals as goal

pub loop-key-preserved : goal.loop-key-preserved
loop-key-preserved c =
    push_more (canvases_inside c.args.grove.now) (filter_map-append (λ k. inner_in (get c.args.grove.now.nodes k))) _ _ _ c.args.boxes.now c.loop-key.key-index 0 c.loop-key-test.true
    c.in_ok-push_canvas.ensures c.loop-key.invariant
