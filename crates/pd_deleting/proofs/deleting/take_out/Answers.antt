use Rattle.std.proofs.Common.{sym, ap, ◌∙◌, subst}
use Rattle.pd_web.specs.declared.sockets.Spot.{Spot}
use Rattle.pd_web.specs.Changes.{wires_told}
use Rattle.pd_web.proofs.CountLemmas.{same_are_as_many}
use Rattle.pd_leaving.specs.Leaving.{CanTakePort, IsPortTaken}
use Rattle.pd_leaving.specs.Wires.{port_wires}
use Rattle.pd_deleting.proofs.AfterLemmas.{one_counted}
use Rattle.pd_deleting.proofs.deleting.take_out.Goals as goal

pub take_port-taken-requires-clause-can : goal.take_port-taken-requires-clause-can
take_port-taken-requires-clause-can g c =
    let p = c.args.patch.now in
    let q = c.reserve_loss.new.patch in
    let place = c.args.going.place in
    let port = c.args.port in
    let loss = c.in-Ok.loss in
    let was : CanTakePort p place c.args.going.key port.node port.side port.port =
    c.requires.can (c.can_lose_port.ensures.leaf c.if-not-can_lose_port.false) (c.can_lose_port.ensures.reached c.if-not-can_lose_port.false) in
    let still : CanTakePort q place c.args.going.key port.node port.side port.port =
    c.loss_room_changes_nothing.ensures p q place c.args.going.key port.node port.side port.port c.reserve_loss.ensures.same was in
    subst (λ (s : Spot). CanTakePort q place loss.key s.node s.side s.port) (sym c.in-Ok.ensures.port)
    (subst (λ k. CanTakePort q place k port.node port.side port.port) (sym c.in-Ok.ensures.key) still)

pub take_port-taken-requires-clause-counted : goal.take_port-taken-requires-clause-counted
take_port-taken-requires-clause-counted g c = c.requires.counted ∙ sym (same_are_as_many c.args.patch.now.web c.reserve_loss.new.patch.web c.reserve_loss.ensures.same.web)

pub returns-clause-taken : goal.returns-clause-taken
returns-clause-taken g c = λ path is.
    let p = c.args.patch.now in
    let q = c.reserve_loss.new.patch in
    let new = c.take_port-taken.new.patch in
    let key = c.args.going.key in
    let place = c.args.going.place in
    let port = c.args.port in
    let loss = c.in-Ok.loss in
    let first = c.args.steps.now in
    let last = c.take_port-taken.new.steps in
    let table = c.args.symbols.now in
    let leaf = c.can_lose_port.ensures.leaf c.if-not-can_lose_port.false in
    let reached = c.can_lose_port.ensures.reached c.if-not-can_lose_port.false in
    record {
      is = is;
      holder = port.node;
      side = port.side;
      port = port.port;
      ready = q;
      room = c.reserve_loss.ensures.same;
      can = c.loss_room_changes_nothing.ensures p q place key port.node port.side port.port c.reserve_loss.ensures.same (c.requires.can leaf reached);
      taken = subst (λ k. IsPortTaken q new table place k port.node port.side port.port first last) c.in-Ok.ensures.key
          (subst (λ (s : Spot). IsPortTaken q new table place loss.key s.node s.side s.port first last) c.in-Ok.ensures.port c.take_port-taken.ensures.taken);
      counts = one_counted p.rate p.grove c.args.counts c.less-left.result key c.values_at-values.result c.take_port-taken.result.left (wires_told new.web) c.less-left.ensures
          c.values_at-values.ensures c.take_port-taken.ensures.left;
      around = c.canvas_of-around.ensures;
      gone = c.take_port-taken.ensures.gone ∙ ap (λ (s : Spot). port_wires q s.node s.side s.port) c.in-Ok.ensures.port;
    }
