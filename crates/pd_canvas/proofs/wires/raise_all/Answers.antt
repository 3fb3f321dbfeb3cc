use Rattle.std.proofs.Common.{set, ap, sym, subst, ◌∙◌, arith}
use Rattle.std.proofs.lemmas.List.{get_or_default}
use Rattle.std.proofs.lemmas.List.Edits.{map_over_more}
use Rattle.pd_canvas.specs.Wiring.{raised_wire}
use Rattle.pd_canvas.proofs.WireLemmas.{no_wire, first_room, others_room, HasRoom}
use Rattle.pd_canvas.proofs.wires.raise_all.Goals as goal

pub raised-requires-clause-source : goal.raised-requires-clause-source
raised-requires-clause-source c =
    (subst HasRoom (sym (get_or_default c.loop-wire.wires c.loop-wire.wire-index no_wire _ (omega arith)))
    (first_room c.loop-wire.wires c.loop-wire.wire-index (omega arith) c.loop-wire.invariant.room)).0

pub raised-requires-clause-sink : goal.raised-requires-clause-sink
raised-requires-clause-sink c =
    (subst HasRoom (sym (get_or_default c.loop-wire.wires c.loop-wire.wire-index no_wire _ (omega arith)))
    (first_room c.loop-wire.wires c.loop-wire.wire-index (omega arith) c.loop-wire.invariant.room)).1

pub loop-wire-preserved : goal.loop-wire-preserved
loop-wire-preserved c = record {
  done = ap (λ v. set c.loop-wire.wires c.loop-wire.wire-index v) c.raised.ensures
      ∙ map_over_more (raised_wire c.args.number) c.args.wires.now c.loop-wire.wires c.loop-wire.wire-index _ (omega arith) c.loop-wire.invariant.done (get_or_default c.loop-wire.wires c.loop-wire.wire-index no_wire _ (omega arith));
  room = others_room c.loop-wire.wires c.loop-wire.wire-index _ (omega arith) c.loop-wire.invariant.room;
}
