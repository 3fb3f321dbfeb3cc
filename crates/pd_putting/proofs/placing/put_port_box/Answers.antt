use Rattle.std.proofs.Common.{◌∙◌}
use Rattle.pd_boxes.proofs.RoomLemmas.{room_put}
use Rattle.pd_putting.proofs.StayLemmas.{room_zero, room_wires, room_meets, is_ordered}
use Rattle.pd_putting.proofs.PortLemmas.{own_could, own_lives, own_within, own_last, puts_port, port_zero}
use Rattle.pd_putting.proofs.placing.put_port_box.Goals as goal

pub reserve_port-requires-clause-ordered : goal.reserve_port-requires-clause-ordered
reserve_port-requires-clause-ordered g c = is_ordered c.args.patch.now c.args.place.canvas c.requires.can c.requires.here

pub put_port-requires-clause-can : goal.put_port-requires-clause-can
put_port-requires-clause-can g c =
    own_could c.args.patch.now c.reserve_port.new.patch c.reserve_port.ensures.same c.args.place c.args.seed c.in_ok-room.room c.in_ok-room.ensures.comes
    c.requires.can c.requires.meet c.requires.leaf

pub put_port-requires-clause-here : goal.put_port-requires-clause-here
put_port-requires-clause-here g c =
    own_lives c.args.patch.now c.reserve_port.new.patch c.reserve_port.ensures.same c.args.place c.args.seed c.in_ok-room.room c.in_ok-room.ensures.comes
    c.requires.here

pub put_port-requires-clause-number : goal.put_port-requires-clause-number
put_port-requires-clause-number g c =
    own_within c.args.patch.now c.reserve_port.new.patch c.reserve_port.ensures.same c.args.place c.args.seed c.in_ok-room.room c.in_ok-room.ensures.comes c.requires.number

pub returns-in_err-room-clause-goes_on : goal.returns-in_err-room-clause-goes_on
returns-in_err-room-clause-goes_on g c = room_put c.args.patch.now c.reserve_port.new.patch c.reserve_port.ensures.same c.requires.can

pub returns-in_err-room-clause-meet : goal.returns-in_err-room-clause-meet
returns-in_err-room-clause-meet g c = room_meets c.args.patch.now c.reserve_port.new.patch c.reserve_port.ensures.same c.requires.meet

pub returns-in_err-room-clause-as_many : goal.returns-in_err-room-clause-as_many
returns-in_err-room-clause-as_many g c = room_wires c.args.patch.now c.reserve_port.new.patch c.reserve_port.ensures.same

pub returns-in_err-room-clause-zero : goal.returns-in_err-room-clause-zero
returns-in_err-room-clause-zero g c = room_zero c.args.patch.now c.reserve_port.new.patch c.reserve_port.ensures.same

pub returns-clause-put : goal.returns-clause-put
returns-clause-put g c =
    puts_port c.args.patch.now c.reserve_port.new.patch c.reserve_port.ensures.same c.args.place c.args.seed c.in_ok-room.room c.in_ok-room.ensures.comes
    c.put_port.new.patch c.reserve_port.new.symbols c.args.symbols.now c.put_port.result c.reserve_port.ensures.table c.requires.can c.requires.meet c.requires.leaf c.put_port.ensures.put

pub returns-clause-goes_on : goal.returns-clause-goes_on
returns-clause-goes_on g c =
    let q = c.reserve_port.new.patch in
    let room = c.in_ok-room.room in
    let could = own_could c.args.patch.now q c.reserve_port.ensures.same c.args.place c.args.seed room c.in_ok-room.ensures.comes
    c.requires.can c.requires.meet c.requires.leaf in
    c.patches_run_on_with_ports.ensures.can q c.put_port.new.patch c.reserve_port.new.symbols room.own.place room.own.seed c.put_port.result room.holder room.side could c.put_port.ensures.put

pub returns-clause-meet : goal.returns-clause-meet
returns-clause-meet g c = c.put_port.ensures.put.meet

pub returns-clause-as_many : goal.returns-clause-as_many
returns-clause-as_many g c = c.put_port.ensures.put.wires ∙ room_wires c.args.patch.now c.reserve_port.new.patch c.reserve_port.ensures.same

pub returns-clause-zero : goal.returns-clause-zero
returns-clause-zero g c =
    port_zero c.reserve_port.new.patch c.put_port.new.patch c.reserve_port.new.symbols _ _ _ _ _ c.put_port.ensures.put ∙ room_zero c.args.patch.now c.reserve_port.new.patch c.reserve_port.ensures.same

pub returns-clause-last_looks : goal.returns-clause-last_looks
returns-clause-last_looks g c = λ last.
    c.put_port.ensures.last_looks
    (own_last c.args.patch.now c.reserve_port.new.patch c.reserve_port.ensures.same c.args.place c.args.seed c.in_ok-room.room c.in_ok-room.ensures.comes last)
