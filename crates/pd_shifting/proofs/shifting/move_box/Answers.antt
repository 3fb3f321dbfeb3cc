use Rattle.std.proofs.Common.{Some}
use Rattle.pd_grove.specs.OwnPaths.{sub_reached}
use Rattle.pd_shifting.proofs.MoveLemmas.{answers_by, as_many_wires, is_moving, is_there, meet_so, moved_so, on_so, refused_so, still_meets, still_put, wires_so, zero_so, zero_stays}
use Rattle.pd_shifting.proofs.PortLemmas.{can_slide, port_known}
use Rattle.pd_shifting.proofs.shifting.move_box.Goals as goal

pub port_to_slide-requires : goal.port_to_slide-requires
port_to_slide-requires c =
    let p = c.args.patch.now in
    let b = c.in_ok-moving.moving in
    let at = is_moving p.grove c.args.number (sub_reached p.grove (Some p.grove.root) c.args.path.now) b.canvas b.key c.in_ok-moving.ensures.is in
    record { known = λ around. port_known p b.canvas b.key c.requires.can (c.requires.can.forest.own.home b.canvas c.args.number b.key at.is) around }

pub slide-requires-clause-can : goal.slide-requires-clause-can
slide-requires-clause-can c =
    let b = c.in_ok-moving.moving in
    let port = c.in-Some.port in
    can_slide c.args.patch.now b.canvas b.key c.requires.can c.requires.meet c.in-Some.ensures.port port.node port.port c.in-Some.ensures.told port.side c.in-Some.ensures.side

pub shift-requires-clause-there : goal.shift-requires-clause-there
shift-requires-clause-there c =
    let b = c.in_ok-moving.moving in
    is_there c.args.patch.now c.args.path.now c.args.number b.canvas b.key c.requires.can c.in_ok-moving.ensures.is

pub returns-in-Some-clause-moved : goal.returns-in-Some-clause-moved
returns-in-Some-clause-moved c =
    let p = c.args.patch.now in
    let q = c.slide.new.patch in
    let b = c.in_ok-moving.moving in
    moved_so p q c.args.path.now c.args.number c.args.x c.args.y c.slide.result
    (answers_by p q c.args.path.now c.args.number c.args.x c.args.y b.canvas b.key c.in_ok-moving.ensures.is c.in-Some.ensures.port c.requires.can c.slide.result c.slide.ensures.moved c.slide.ensures.short)

pub returns-in-Some-clause-refused : goal.returns-in-Some-clause-refused
returns-in-Some-clause-refused c =
    let p = c.args.patch.now in
    let q = c.slide.new.patch in
    let b = c.in_ok-moving.moving in
    refused_so p q c.args.path.now c.args.number c.args.x c.args.y c.slide.result
    (answers_by p q c.args.path.now c.args.number c.args.x c.args.y b.canvas b.key c.in_ok-moving.ensures.is c.in-Some.ensures.port c.requires.can c.slide.result c.slide.ensures.moved c.slide.ensures.short)

pub returns-in-Some-clause-goes_on : goal.returns-in-Some-clause-goes_on
returns-in-Some-clause-goes_on c =
    let p = c.args.patch.now in
    let q = c.slide.new.patch in
    let b = c.in_ok-moving.moving in
    on_so p q c.args.path.now c.args.number c.args.x c.args.y c.slide.result
    (answers_by p q c.args.path.now c.args.number c.args.x c.args.y b.canvas b.key c.in_ok-moving.ensures.is c.in-Some.ensures.port c.requires.can c.slide.result c.slide.ensures.moved c.slide.ensures.short)
    c.requires.can

pub returns-in-Some-clause-meet : goal.returns-in-Some-clause-meet
returns-in-Some-clause-meet c =
    let p = c.args.patch.now in
    let q = c.slide.new.patch in
    let b = c.in_ok-moving.moving in
    meet_so p q c.args.path.now c.args.number c.args.x c.args.y c.slide.result
    (answers_by p q c.args.path.now c.args.number c.args.x c.args.y b.canvas b.key c.in_ok-moving.ensures.is c.in-Some.ensures.port c.requires.can c.slide.result c.slide.ensures.moved c.slide.ensures.short)
    c.requires.meet

pub returns-in-Some-clause-zero : goal.returns-in-Some-clause-zero
returns-in-Some-clause-zero c =
    let p = c.args.patch.now in
    let q = c.slide.new.patch in
    let b = c.in_ok-moving.moving in
    zero_so p q c.args.path.now c.args.number c.args.x c.args.y c.slide.result
    (answers_by p q c.args.path.now c.args.number c.args.x c.args.y b.canvas b.key c.in_ok-moving.ensures.is c.in-Some.ensures.port c.requires.can c.slide.result c.slide.ensures.moved c.slide.ensures.short)

pub returns-in-Some-clause-as_many : goal.returns-in-Some-clause-as_many
returns-in-Some-clause-as_many c =
    let p = c.args.patch.now in
    let q = c.slide.new.patch in
    let b = c.in_ok-moving.moving in
    wires_so p q c.args.path.now c.args.number c.args.x c.args.y c.slide.result
    (answers_by p q c.args.path.now c.args.number c.args.x c.args.y b.canvas b.key c.in_ok-moving.ensures.is c.in-Some.ensures.port c.requires.can c.slide.result c.slide.ensures.moved c.slide.ensures.short)

pub returns-in-None-clause-moved : goal.returns-in-None-clause-moved
returns-in-None-clause-moved c = c.shift.ensures c.args.path.now c.args.number c.in_ok-moving.ensures.is

pub returns-in-None-clause-goes_on : goal.returns-in-None-clause-goes_on
returns-in-None-clause-goes_on c =
    still_put c.args.patch.now c.shift.new.patch c.args.path.now c.args.number c.args.x c.args.y c.shift.result (c.shift.ensures c.args.path.now c.args.number c.in_ok-moving.ensures.is) c.requires.can

pub returns-in-None-clause-meet : goal.returns-in-None-clause-meet
returns-in-None-clause-meet c =
    still_meets c.args.patch.now c.shift.new.patch c.args.path.now c.args.number c.args.x c.args.y c.shift.result (c.shift.ensures c.args.path.now c.args.number c.in_ok-moving.ensures.is) c.requires.meet

pub returns-in-None-clause-zero : goal.returns-in-None-clause-zero
returns-in-None-clause-zero c =
    zero_stays c.args.patch.now c.shift.new.patch c.args.path.now c.args.number c.args.x c.args.y c.shift.result (c.shift.ensures c.args.path.now c.args.number c.in_ok-moving.ensures.is)

pub returns-in-None-clause-as_many : goal.returns-in-None-clause-as_many
returns-in-None-clause-as_many c =
    as_many_wires c.args.patch.now c.shift.new.patch c.args.path.now c.args.number c.args.x c.args.y c.shift.result (c.shift.ensures c.args.path.now c.args.number c.in_ok-moving.ensures.is)
