use Rattle.std.proofs.Common.{not}
use Rattle.pd_canvas.specs.declared.wires.Wire.{Wire}
use Rattle.pd_tree.specs.Ports.{fits}
use Rattle.pd_web.specs.Hops.{boxes_told}
use Rattle.pd_web.specs.Canvases.{keys_at}
use Rattle.pd_patch.specs.declared.report.Remark.TheVariants.{Unfit}
use Rattle.pd_patch.specs.Report.{unfit_wires}
use Rattle.pd_patch.proofs.PushLemmas.{push_more, noted_parts}
use Rattle.pd_patch.proofs.report.note_wires.Goals as goal

pub loop-wire-preserved : goal.loop-wire-preserved
loop-wire-preserved c =
    let w = c.args.web.now in
    let g = c.args.grove.now in
    let none : Wire = record { source = 0; outlet = 0; sink = 0; inlet = 0 } in
    push_more (unfit_wires w g c.args.canvas) (noted_parts (λ x. Unfit c.args.canvas x) (λ x. not (fits (boxes_told w (keys_at g c.args.canvas)) x))) _ _ _ c.args.wires.now c.loop-wire.wire-index none
    c.loop-wire-test.true c.in_ok-note_wire.ensures c.loop-wire.invariant
