use Rattle.std.proofs.Common.{set, ap, ◌∙◌, arith}
use Rattle.std.proofs.lemmas.List.{get_or_default}
use Rattle.std.proofs.lemmas.List.Edits.{map_over_more}
use Rattle.pd_canvas.specs.Wiring.{lowered_wire}
use Rattle.pd_canvas.proofs.WireLemmas.{no_wire}
use Rattle.pd_canvas.proofs.wires.lower_all.Goals as goal

pub loop-wire-preserved : goal.loop-wire-preserved
loop-wire-preserved c =
    ap (λ v. set c.loop-wire.wires c.loop-wire.wire-index v) c.lowered.ensures
    ∙ map_over_more (lowered_wire c.args.number) c.args.wires.now c.loop-wire.wires c.loop-wire.wire-index _ (omega arith) c.loop-wire.invariant (get_or_default c.loop-wire.wires c.loop-wire.wire-index no_wire _ (omega arith))
