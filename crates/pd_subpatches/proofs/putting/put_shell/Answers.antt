use Rattle.std.proofs.Common.{◌≡◌, ◌≢◌, ℕ, sym, ap, ◌∙◌, subst}
use Rattle.std.proofs.lemmas.Option.{same_Some}
use Rattle.pd_patch.specs.Telling.{order_in}
use Rattle.pd_placing.specs.Room.{IsEmptyOrder}
use Rattle.pd_subpatches.proofs.OrderLemmas.{is_here, loose, lawful, last, other_canvas, holds, lacks, lacks_alone, has_order}
use Rattle.pd_subpatches.proofs.putting.put_shell.Goals as goal

pub place_box-requires-clause-here : goal.place_box-requires-clause-here
place_box-requires-clause-here g c =
    let q = c.put_apart-key.new.patch in
    let C = c.put_apart-key.ensures.comes in
    is_here c.args.patch.now q c.args.symbols.now c.args.room.place c.args.room.seed c.put_apart-key.result C c.requires.shell.canvas c.requires.can.forest c.requires.can.runs

pub place_box-requires-clause-loose : goal.place_box-requires-clause-loose
place_box-requires-clause-loose g c =
    let q = c.put_apart-key.new.patch in
    let C = c.put_apart-key.ensures.comes in
    loose c.args.patch.now q c.args.symbols.now c.args.room.place c.args.room.seed c.put_apart-key.result C c.requires.shell.canvas c.requires.can.forest c.requires.can.runs

pub place_box-requires-clause-lawful : goal.place_box-requires-clause-lawful
place_box-requires-clause-lawful g c =
    let q = c.put_apart-key.new.patch in
    let C = c.put_apart-key.ensures.comes in
    lawful c.args.patch.now q c.args.symbols.now c.args.room.place c.args.room.seed c.put_apart-key.result C c.requires.shell.canvas c.requires.can.forest c.requires.can.runs

pub place_box-requires-clause-lacks : goal.place_box-requires-clause-lacks
place_box-requires-clause-lacks g c =
    let q = c.put_apart-key.new.patch in
    let C = c.put_apart-key.ensures.comes in
    let others : (d : ℕ) → d ≢ C.canvas → order_in c.open_inside.new.orders.items d ≡ order_in c.args.patch.now.orders.items d =
    (λ d f. c.open_inside.ensures.others d (λ e. f (same_Some d C.canvas (sym e ∙ holds c.args.patch.now q c.args.symbols.now c.args.room.place c.args.room.seed c.put_apart-key.result C c.requires.shell.canvas c.requires.can.forest c.requires.can.runs))) ∙ ap (λ os. order_in os.items d) c.put_apart-key.ensures.orders) in
    lacks c.args.patch.now q c.args.symbols.now c.args.room.place c.args.room.seed c.put_apart-key.result C c.requires.shell.canvas c.requires.can.forest c.requires.can.runs c.open_inside.new.orders.items (others c.args.room.place.canvas (λ e. other_canvas c.args.patch.now q c.args.symbols.now c.args.room.place c.args.room.seed c.put_apart-key.result C c.requires.shell.canvas c.requires.can.forest c.requires.can.runs (sym e)))

pub returns-clause-put : goal.returns-clause-put
returns-clause-put g c =
    let q = c.put_apart-key.new.patch in
    let C = c.put_apart-key.ensures.comes in
    let others : (d : ℕ) → d ≢ C.canvas → order_in c.open_inside.new.orders.items d ≡ order_in c.args.patch.now.orders.items d =
    (λ d f. c.open_inside.ensures.others d (λ e. f (same_Some d C.canvas (sym e ∙ holds c.args.patch.now q c.args.symbols.now c.args.room.place c.args.room.seed c.put_apart-key.result C c.requires.shell.canvas c.requires.can.forest c.requires.can.runs))) ∙ ap (λ os. order_in os.items d) c.put_apart-key.ensures.orders) in
    let own : IsEmptyOrder (order_in c.open_inside.new.orders.items C.canvas) = c.open_inside.ensures.empty C.canvas (holds c.args.patch.now q c.args.symbols.now c.args.room.place c.args.room.seed c.put_apart-key.result C c.requires.shell.canvas c.requires.can.forest c.requires.can.runs) in
    record {
      comes = record {
        canvas = C.canvas;
        board = C.board;
        grove = C.grove;
        sheet = C.sheet;
        root = C.root;
        ports = C.ports;
        homes = C.homes;
        owners = C.owners;
        other_owners = C.other_owners;
        links = C.links;
        numbers = C.numbers;
        other_numbers = C.other_numbers;
        blocks = C.blocks;
        clocks = C.clocks;
        clock_room = C.clock_room;
        low = C.low;
        rate = C.rate;
        present = C.present;
      };
      order = has_order c.args.patch.now q c.args.symbols.now c.args.room.place c.args.room.seed c.put_apart-key.result C c.requires.shell.canvas c.requires.can.forest c.requires.can.runs c.place_box.new.orders.items (c.place_box.ensures.all (lacks_alone c.args.patch.now q c.args.symbols.now c.args.room.place c.args.room.seed c.put_apart-key.result C c.requires.shell.canvas c.requires.can.forest c.requires.can.runs c.open_inside.new.orders.items own others));
      own_order = subst IsEmptyOrder (sym (c.place_box.ensures.others C.canvas (other_canvas c.args.patch.now q c.args.symbols.now c.args.room.place c.args.room.seed c.put_apart-key.result C c.requires.shell.canvas c.requires.can.forest c.requires.can.runs))) own;
      other_orders = λ d f h. c.place_box.ensures.others d f ∙ others d h;
    }

pub returns-clause-last_looks : goal.returns-clause-last_looks
returns-clause-last_looks g c =
    let q = c.put_apart-key.new.patch in
    let C = c.put_apart-key.ensures.comes in
    λ e. c.place_box.ensures.last_looks (last c.args.patch.now q c.args.symbols.now c.args.room.place c.args.room.seed c.put_apart-key.result C c.requires.shell.canvas c.requires.can.forest c.requires.can.runs e)
