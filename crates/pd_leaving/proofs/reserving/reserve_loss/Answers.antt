use Rattle.std.proofs.Common.{List, length, replicate, sym, ap, ◌∙◌}
use Rattle.pd_kind.specs.States.{silent_block}
use Rattle.pd_grove.specs.declared.ports.Side.TheVariants.{Inlets, Outlets}
use Rattle.pd_web.specs.declared.jacks.Jack.{Jack}
use Rattle.pd_web.specs.Hops.{ports_told}
use Rattle.pd_patch.specs.Values.{block_count}
use Rattle.pd_leaving.specs.Room.{without_at}
use Rattle.pd_boxes.proofs.ReserveLemmas.{lists_for, same_web}
use Rattle.pd_leaving.proofs.RoomLemmas.{reserved, room_near, still_at, wires_still}
use Rattle.pd_leaving.proofs.reserving.reserve_loss.Goals as goal

pub returns-in_err-wires-clause-same : goal.returns-in_err-wires-clause-same
returns-in_err-wires-clause-same c = reserved c.args.patch.now c.args.patch.now.web (same_web c.args.patch.now.web)

pub returns-in_err-blocks-clause-same : goal.returns-in_err-blocks-clause-same
returns-in_err-blocks-clause-same c = reserved c.args.patch.now c.args.patch.now.web (same_web c.args.patch.now.web)

pub returns-in_err-around-clause-same : goal.returns-in_err-around-clause-same
returns-in_err-around-clause-same c = reserved c.args.patch.now c.reserve_ports.new.web c.reserve_ports.ensures.same

pub returns-clause-same : goal.returns-clause-same
returns-clause-same c = reserved c.args.patch.now c.reserve_ports.new.web c.reserve_ports.ensures.same

pub returns-clause-room : goal.returns-clause-room
returns-clause-room c =
    let p = c.args.patch.now in
    let v = c.reserve_ports.new.web in
    let o = c.args.port in
    let S = c.reserve_ports.ensures.same in
    record {
      wires = wires_still p.web v S p.numbers.items o.side o.node o.port c.in_ok-wires.wires.items c.in_ok-wires.ensures.told;
      at = still_at p.web v S o.node c.in_ok-wires.wires.items c.in_ok-wires.ensures.wires;
      near = room_near p.grove v c.nodes_end-keys.result c.nodes_end-keys.ensures.slots c.in_ok-around.ensures.room;
      lists = lists_for c.in_ok-around.around c.inlets_at-inlets.result c.outlets_at-outlets.result (length (ports_told v Inlets o.node)) (length (ports_told v Outlets o.node))
          (c.inlets_at-inlets.ensures ∙ ap length (sym (S.kept.ports Inlets o.node))) (c.outlets_at-outlets.ensures ∙ ap length (sym (S.kept.ports Outlets o.node))) c.in_ok-around.ensures.lists;
      blocks = c.in_ok-blocks.ensures ∙ ap (λ n. replicate n silent_block) (c.blocks_then.ensures ∙ ap (λ (js : List Jack). block_count (without_at js o.port)) (sym (S.kept.ports Outlets o.node)));
    }
