use Rattle.std.proofs.Common.{◌∙◌}
use Rattle.pd_boxes.proofs.RoomLemmas.{room_put}
use Rattle.pd_putting.proofs.StayLemmas.{room_wires, room_zero, room_meets, shell_wires, shell_zero}
use Rattle.pd_putting.proofs.placing.put_sub.Goals as goal

pub returns-in_err-key-clause-as_many : goal.returns-in_err-key-clause-as_many
returns-in_err-key-clause-as_many g c = room_wires c.args.patch.now c.add_shell.new.patch c.in_err-key.ensures.short

pub returns-in_err-key-clause-meet : goal.returns-in_err-key-clause-meet
returns-in_err-key-clause-meet g c = room_meets c.args.patch.now c.add_shell.new.patch c.in_err-key.ensures.short c.requires.meet

pub returns-clause-meet : goal.returns-clause-meet
returns-clause-meet g c =
    let L = c.in_ok-key.ensures.put in
    c.wires_still_meet.ensures L.ready.web c.add_shell.new.patch.web c.in_ok-key.key _ _ L.put.comes.ports (room_meets c.args.patch.now L.ready L.room c.requires.meet)

pub returns-clause-as_many : goal.returns-clause-as_many
returns-clause-as_many g c =
    let L = c.in_ok-key.ensures.put in
    shell_wires L.ready c.add_shell.new.patch _ _ _ _ L.put.comes ∙ room_wires c.args.patch.now L.ready L.room

pub returns-clause-zero : goal.returns-clause-zero
returns-clause-zero g c =
    let L = c.in_ok-key.ensures.put in
    shell_zero L.ready c.add_shell.new.patch _ _ _ _ L.put.comes (room_put c.args.patch.now L.ready L.room c.requires.can) ∙ room_zero c.args.patch.now L.ready L.room
