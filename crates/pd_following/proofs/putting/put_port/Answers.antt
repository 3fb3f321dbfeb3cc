use Rattle.std.proofs.Common.{IsSome, refl, sym, ap, ◌∙◌, subst}
use Rattle.pd_tree.specs.Ports.{is_made}
use Rattle.pd_web.specs.Jacks.{kind_jacks}
use Rattle.pd_patch.specs.Telling.{order_in}
use Rattle.pd_placing.specs.Placing.{AreOrderedBut}
use Rattle.pd_placing.specs.Room.{HasPlaces}
use Rattle.pd_wiring.proofs.GraphLemmas.{canvas_lawful, ordered_by_wires}
use Rattle.pd_boxes.proofs.SignalLemmas.{is_there, is_loose, lacks_box, still_last}
use Rattle.pd_following.specs.Ports.{port_jack}
use Rattle.pd_following.proofs.ComeLemmas.{hold_alone, ready_own, ready_holds, ready_more, ready_known, ready_one_more, ready_free, ready_bare, ready_lists}
use Rattle.pd_following.proofs.RunLemmas.{is_wired}
use Rattle.pd_following.proofs.PutLemmas.{holder_reached, blocks_follow, as_many_come}
use Rattle.pd_following.proofs.putting.put_port.Goals as goal

pub follow_port-requires-clause-holds : goal.follow_port-requires-clause-holds
follow_port-requires-clause-holds g c =
    let p = c.args.patch.now in
    let room = c.args.room in
    let P = c.requires.can in
    let known = c.port_boxes_are_known.ensures.known p.grove p.web P.can.runs.own (hold_alone p room.own.place room.own.seed room.holder room.side P) P.can.runs.ports.ports P.can.runs.ports.homes P.can.runs.ports.homes_found in
    subst (λ o. IsSome o) (sym (ready_holds p c.put_apart-key.new.patch c.args.symbols.now room.own.place room.own.seed c.put_apart-key.result room.holder room.side P c.put_apart-key.ensures.comes known)) refl

pub follow_port-requires-clause-own : goal.follow_port-requires-clause-own
follow_port-requires-clause-own g c =
    let p = c.args.patch.now in
    let room = c.args.room in
    let P = c.requires.can in
    let known = c.port_boxes_are_known.ensures.known p.grove p.web P.can.runs.own (hold_alone p room.own.place room.own.seed room.holder room.side P) P.can.runs.ports.ports P.can.runs.ports.homes P.can.runs.ports.homes_found in
    ready_own p c.put_apart-key.new.patch c.args.symbols.now room.own.place room.own.seed c.put_apart-key.result room.holder room.side P c.put_apart-key.ensures.comes known

pub follow_port-requires-clause-lists : goal.follow_port-requires-clause-lists
follow_port-requires-clause-lists g c =
    let p = c.args.patch.now in
    let room = c.args.room in
    let P = c.requires.can in
    let known = c.port_boxes_are_known.ensures.known p.grove p.web P.can.runs.own (hold_alone p room.own.place room.own.seed room.holder room.side P) P.can.runs.ports.ports P.can.runs.ports.homes P.can.runs.ports.homes_found in
    ready_lists p c.put_apart-key.new.patch c.args.symbols.now room.own.place room.own.seed c.put_apart-key.result room.holder room.side P c.put_apart-key.ensures.comes known room.around c.requires.room.ports

pub follow_port-requires-clause-known : goal.follow_port-requires-clause-known
follow_port-requires-clause-known g c =
    let p = c.args.patch.now in
    let room = c.args.room in
    let P = c.requires.can in
    let known = c.port_boxes_are_known.ensures.known p.grove p.web P.can.runs.own (hold_alone p room.own.place room.own.seed room.holder room.side P) P.can.runs.ports.ports P.can.runs.ports.homes P.can.runs.ports.homes_found in
    ready_known p c.put_apart-key.new.patch c.args.symbols.now room.own.place room.own.seed c.put_apart-key.result room.holder room.side P c.put_apart-key.ensures.comes known

pub follow_port-requires-clause-free : goal.follow_port-requires-clause-free
follow_port-requires-clause-free g c =
    let p = c.args.patch.now in
    let room = c.args.room in
    let P = c.requires.can in
    let known = c.port_boxes_are_known.ensures.known p.grove p.web P.can.runs.own (hold_alone p room.own.place room.own.seed room.holder room.side P) P.can.runs.ports.ports P.can.runs.ports.homes P.can.runs.ports.homes_found in
    ready_free p c.put_apart-key.new.patch c.args.symbols.now room.own.place room.own.seed c.put_apart-key.result room.holder room.side P c.put_apart-key.ensures.comes known

pub follow_port-requires-clause-gone : goal.follow_port-requires-clause-gone
follow_port-requires-clause-gone g c =
    let p = c.args.patch.now in
    let room = c.args.room in
    let P = c.requires.can in
    let known = c.port_boxes_are_known.ensures.known p.grove p.web P.can.runs.own (hold_alone p room.own.place room.own.seed room.holder room.side P) P.can.runs.ports.ports P.can.runs.ports.homes P.can.runs.ports.homes_found in
    ready_bare p c.put_apart-key.new.patch c.args.symbols.now room.own.place room.own.seed c.put_apart-key.result room.holder room.side P c.put_apart-key.ensures.comes known

pub follow_port-requires-clause-meet : goal.follow_port-requires-clause-meet
follow_port-requires-clause-meet g c =
    c.wires_still_meet.ensures c.args.patch.now.web c.put_apart-key.new.patch.web c.put_apart-key.result (λ side. kind_jacks side c.args.room.own.seed.row.kind) (is_made c.args.room.own.seed.row.kind)
    c.put_apart-key.ensures.comes.ports c.requires.can.meet

pub follow_blocks-requires : goal.follow_blocks-requires
follow_blocks-requires g c =
    let p = c.args.patch.now in
    let room = c.args.room in
    let P = c.requires.can in
    let known = c.port_boxes_are_known.ensures.known p.grove p.web P.can.runs.own (hold_alone p room.own.place room.own.seed room.holder room.side P) P.can.runs.ports.ports P.can.runs.ports.homes P.can.runs.ports.homes_found in
    holder_reached p c.put_apart-key.new.patch c.args.symbols.now room c.put_apart-key.result P c.put_apart-key.ensures.comes known c.requires.room

pub place_box-requires-clause-here : goal.place_box-requires-clause-here
place_box-requires-clause-here g c =
    is_there c.args.patch.now c.put_apart-key.new.patch c.args.symbols.now c.args.room.own.place c.args.room.own.seed c.put_apart-key.result c.put_apart-key.ensures.comes c.requires.can.can.forest c.requires.can.can.runs

pub place_box-requires-clause-loose : goal.place_box-requires-clause-loose
place_box-requires-clause-loose g c =
    is_loose c.args.patch.now c.put_apart-key.new.patch c.args.symbols.now c.args.room.own.place c.args.room.own.seed c.put_apart-key.result c.put_apart-key.ensures.comes c.requires.can.can.forest c.requires.can.can.runs

pub place_box-requires-clause-lawful : goal.place_box-requires-clause-lawful
place_box-requires-clause-lawful g c =
    let p = c.args.patch.now in
    let r = c.put_apart-key.new.patch in
    let room = c.args.room in
    let P = c.requires.can in
    let C = c.put_apart-key.ensures.comes in
    let known = c.port_boxes_are_known.ensures.known p.grove p.web P.can.runs.own (hold_alone p room.own.place room.own.seed room.holder room.side P) P.can.runs.ports.ports P.can.runs.ports.homes P.can.runs.ports.homes_found in
    let M = ready_more p r c.args.symbols.now room.own.place room.own.seed c.put_apart-key.result room.holder room.side P C known in
    let O = ready_one_more p r c.args.symbols.now room.own.place room.own.seed c.put_apart-key.result room.holder room.side P C known in
    canvas_lawful r.grove c.follow_port.new.web r.links
    (is_wired p r c.follow_port.new.web c.args.symbols.now room.own.place room.own.seed c.put_apart-key.result room.holder room.side P C known M.place c.follow_port.ensures.follows.ports
    (c.follow_port.ensures.raises M.place (port_jack room.side room.own.seed.row.kind c.put_apart-key.result) O))
    room.own.place.canvas

pub place_box-requires-clause-lacks : goal.place_box-requires-clause-lacks
place_box-requires-clause-lacks g c =
    let r = c.put_apart-key.new.patch in
    let B : AreOrderedBut r.grove r.links r.orders.items c.args.room.own.place.canvas c.put_apart-key.result =
    subst (λ os. AreOrderedBut r.grove r.links os.items c.args.room.own.place.canvas c.put_apart-key.result) (sym c.put_apart-key.ensures.orders)
    (lacks_box c.args.patch.now r c.args.symbols.now c.args.room.own.place c.args.room.own.seed c.put_apart-key.result c.put_apart-key.ensures.comes c.requires.can.can.forest c.requires.can.can.runs) in
    B.lacks

pub place_box-requires-clause-room : goal.place_box-requires-clause-room
place_box-requires-clause-room g c = λ t.
    subst (λ os. HasPlaces (order_in os.items c.args.room.own.place.canvas) 1) (sym c.put_apart-key.ensures.orders) c.requires.room.box.orders

pub returns-clause-put : goal.returns-clause-put
returns-clause-put g c =
    let p = c.args.patch.now in
    let r = c.put_apart-key.new.patch in
    let room = c.args.room in
    let P = c.requires.can in
    let C = c.put_apart-key.ensures.comes in
    let key = c.put_apart-key.result in
    let known = c.port_boxes_are_known.ensures.known p.grove p.web P.can.runs.own (hold_alone p room.own.place room.own.seed room.holder room.side P) P.can.runs.ports.ports P.can.runs.ports.homes P.can.runs.ports.homes_found in
    let M = ready_more p r c.args.symbols.now room.own.place room.own.seed key room.holder room.side P C known in
    let O = ready_one_more p r c.args.symbols.now room.own.place room.own.seed key room.holder room.side P C known in
    let X = c.follow_port.ensures.raises M.place (port_jack room.side room.own.seed.row.kind key) O in
    let B : AreOrderedBut r.grove r.links r.orders.items room.own.place.canvas key =
    subst (λ os. AreOrderedBut r.grove r.links os.items room.own.place.canvas key) (sym c.put_apart-key.ensures.orders)
    (lacks_box p r c.args.symbols.now room.own.place room.own.seed key C P.can.forest P.can.runs) in
    let W = is_wired p r c.follow_port.new.web c.args.symbols.now room.own.place room.own.seed key room.holder room.side P C known M.place c.follow_port.ensures.follows.ports X in
    record {
      ready = r;
      comes = C;
      rest = record { grove = refl; names = refl; links = refl; numbers = refl; clocks = refl; rate = refl; present = refl };
      number = M.place;
      follows = c.follow_port.ensures.follows;
      raises = X;
      known = c.follow_port.ensures.known;
      meet = c.follow_port.ensures.meet;
      wires = c.follow_port.ensures.as_many ∙ as_many_come p r c.args.symbols.now room.own.place room.own.seed key C;
      blocks = blocks_follow p r c.args.symbols.now room key P C known c.requires.room (record r { web = c.follow_port.new.web; values = c.follow_blocks.new.values; orders = c.place_box.new.orders }) M.place X
          c.follow_blocks.ensures.inlets c.follow_blocks.ensures.outlets;
      order = ordered_by_wires r.grove c.follow_port.new.web r.links W c.place_box.new.orders.items (c.place_box.ensures.all B) room.own.place.canvas;
      other_orders = λ d f. c.place_box.ensures.others d f ∙ ap (λ os. order_in os.items d) c.put_apart-key.ensures.orders;
    }

pub returns-clause-last_looks : goal.returns-clause-last_looks
returns-clause-last_looks g c = λ e. c.place_box.ensures.last_looks
    (still_last c.args.patch.now c.put_apart-key.new.patch c.args.symbols.now c.args.room.own.place c.args.room.own.seed c.put_apart-key.result c.put_apart-key.ensures.comes c.requires.can.can.forest c.requires.can.can.runs e)
