use Rattle.slab.specs.Slab.{get}
use Rattle.pd_patch.specs.declared.report.Remark.TheVariants.{NotMade}
use Rattle.pd_patch.specs.Report.{unmade_among, has_fault}
use Rattle.pd_patch.proofs.PushLemmas.{push_more, noted_parts}
use Rattle.pd_patch.proofs.report.note_unmade.Goals as goal

pub loop-key-preserved : goal.loop-key-preserved
loop-key-preserved c =
    push_more (unmade_among c.args.grove.now) (noted_parts (λ k. NotMade k) (λ k. has_fault (get c.args.grove.now.nodes k))) _ _ _ c.args.boxes.now c.loop-key.key-index 0 c.loop-key-test.true
    c.in_ok-note_box.ensures c.loop-key.invariant
