use Rattle.std.proofs.Common.{sym, ap, ◌∙◌, subst}
use Rattle.pd_patch.specs.Telling.{order_in}
use Rattle.pd_placing.specs.Placing.{AreOrderedBut}
use Rattle.pd_placing.specs.Room.{HasPlaces}
use Rattle.pd_wiring.proofs.GraphLemmas.{canvas_lawful, ordered_by_wires}
use Rattle.pd_boxes.proofs.BuiltLemmas.{still_wired}
use Rattle.pd_boxes.proofs.SignalLemmas.{is_there, is_loose, lacks_box, still_last}
use Rattle.pd_boxes.proofs.putting.put.Goals as goal

pub place_box-requires-clause-here : goal.place_box-requires-clause-here
place_box-requires-clause-here g c =
    is_there c.args.patch.now c.put_apart-key.new.patch c.args.symbols.now c.args.room.place c.args.room.seed c.put_apart-key.result c.put_apart-key.ensures.comes c.requires.can.forest c.requires.can.runs

pub place_box-requires-clause-loose : goal.place_box-requires-clause-loose
place_box-requires-clause-loose g c =
    is_loose c.args.patch.now c.put_apart-key.new.patch c.args.symbols.now c.args.room.place c.args.room.seed c.put_apart-key.result c.put_apart-key.ensures.comes c.requires.can.forest c.requires.can.runs

pub place_box-requires-clause-lawful : goal.place_box-requires-clause-lawful
place_box-requires-clause-lawful g c =
    let q = c.put_apart-key.new.patch in
    canvas_lawful q.grove q.web q.links
    (still_wired c.args.patch.now q c.args.symbols.now c.args.room.place c.args.room.seed c.put_apart-key.result c.put_apart-key.ensures.comes c.requires.can.forest c.requires.can.runs c.requires.plain)
    c.args.room.place.canvas

pub place_box-requires-clause-lacks : goal.place_box-requires-clause-lacks
place_box-requires-clause-lacks g c =
    let q = c.put_apart-key.new.patch in
    let B : AreOrderedBut q.grove q.links q.orders.items c.args.room.place.canvas c.put_apart-key.result =
    subst (λ os. AreOrderedBut q.grove q.links os.items c.args.room.place.canvas c.put_apart-key.result) (sym c.put_apart-key.ensures.orders)
    (lacks_box c.args.patch.now q c.args.symbols.now c.args.room.place c.args.room.seed c.put_apart-key.result c.put_apart-key.ensures.comes c.requires.can.forest c.requires.can.runs) in
    B.lacks

pub place_box-requires-clause-room : goal.place_box-requires-clause-room
place_box-requires-clause-room g c = λ t.
    subst (λ os. HasPlaces (order_in os.items c.args.room.place.canvas) 1) (sym c.put_apart-key.ensures.orders) c.requires.room.orders

pub returns-clause-put : goal.returns-clause-put
returns-clause-put g c =
    let q = c.put_apart-key.new.patch in
    let C = c.put_apart-key.ensures.comes in
    let B : AreOrderedBut q.grove q.links q.orders.items c.args.room.place.canvas c.put_apart-key.result =
    subst (λ os. AreOrderedBut q.grove q.links os.items c.args.room.place.canvas c.put_apart-key.result) (sym c.put_apart-key.ensures.orders)
    (lacks_box c.args.patch.now q c.args.symbols.now c.args.room.place c.args.room.seed c.put_apart-key.result C c.requires.can.forest c.requires.can.runs) in
    let W = still_wired c.args.patch.now q c.args.symbols.now c.args.room.place c.args.room.seed c.put_apart-key.result C c.requires.can.forest c.requires.can.runs c.requires.plain in
    record {
      comes = record {
        grove = C.grove;
        root = C.root;
        ports = C.ports;
        homes = C.homes;
        owners = C.owners;
        other_owners = C.other_owners;
        links = C.links;
        numbers = C.numbers;
        other_numbers = C.other_numbers;
        blocks = C.blocks;
        clocks = C.clocks;
        clock_room = C.clock_room;
        low = C.low;
        rate = C.rate;
        present = C.present;
      };
      order = ordered_by_wires q.grove q.web q.links W c.place_box.new.orders.items (c.place_box.ensures.all B) c.args.room.place.canvas;
      other_orders = λ d f. c.place_box.ensures.others d f ∙ ap (λ os. order_in os.items d) c.put_apart-key.ensures.orders;
    }

pub returns-clause-last_looks : goal.returns-clause-last_looks
returns-clause-last_looks g c = λ e. c.place_box.ensures.last_looks
    (still_last c.args.patch.now c.put_apart-key.new.patch c.args.symbols.now c.args.room.place c.args.room.seed c.put_apart-key.result c.put_apart-key.ensures.comes c.requires.can.forest c.requires.can.runs e)
