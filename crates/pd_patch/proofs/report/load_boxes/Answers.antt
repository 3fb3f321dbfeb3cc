use Rattle.std.proofs.Common.{[]}
use Rattle.slab.specs.Slab.{get}
use Rattle.pd_patch.specs.Report.{loads_among, loads}
use Rattle.pd_patch.proofs.PushLemmas.{push_more, filter_parts}
use Rattle.pd_patch.proofs.report.load_boxes.Goals as goal

pub loop-key-preserved : goal.loop-key-preserved
loop-key-preserved c =
    push_more (loads_among c.args.grove.now) (filter_parts (λ k. loads (get c.args.grove.now.nodes k))) [] _ _ c.args.boxes.now c.loop-key.key-index 0 c.loop-key-test.true
    c.in_ok-push_load_box.ensures c.loop-key.invariant
