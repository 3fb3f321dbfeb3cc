use Rattle.std.proofs.Common.{arith, ◌∙◌, ap, set}
use Rattle.pd_doc.proofs.RowLemmas.{overlay_step}
use Rattle.pd_doc.proofs.rows.overlay.Goals as goal

pub loop-i-preserved : goal.loop-i-preserved
loop-i-preserved c =
    ap (λ l. set l c.loop-i.i c.index-row-i.result) c.loop-i.invariant
    ∙ overlay_step c.args.row.now c.args.values.now c.loop-i.i c.index-row-i.result (omega arith) (omega arith) c.index-row-i.is
