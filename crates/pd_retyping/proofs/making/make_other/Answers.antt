use Rattle.std.proofs.Common.{arith, sym, ◌∙◌, subst}
use Rattle.pd_atom.specs.Names.{Names}
use Rattle.pd_boxes.proofs.RoomLemmas.{room_put}
use Rattle.pd_refitting.proofs.WireLemmas.{meet_by}
use Rattle.pd_refitting.specs.Room.{TakesRefit}
use Rattle.pd_turning.proofs.LawLemmas.{refit_stays}
use Rattle.pd_retyping.proofs.BecomeLemmas.{lives_there, on_err, ordered_there, room_zero, room_wires}
use Rattle.pd_retyping.proofs.MakeLemmas.{makes_same, reserved_made, reserved_makes}
use Rattle.pd_retyping.proofs.ReadyLemmas.{room_more}
use Rattle.pd_retyping.proofs.making.make_other.Goals as goal

pub reserve_refit-requires-clause-here : goal.reserve_refit-requires-clause-here
reserve_refit-requires-clause-here g c = let C = c.requires.can.1 in lives_there c.args.patch.now c.args.key c.requires.can.0 C.is

pub reserve_refit-requires-clause-apart : goal.reserve_refit-requires-clause-apart
reserve_refit-requires-clause-apart g c = let C = c.requires.can.1 in C.can.apart

pub reserve_refit-requires-clause-ordered : goal.reserve_refit-requires-clause-ordered
reserve_refit-requires-clause-ordered g c = λ n is. let C = c.requires.can.1 in ordered_there c.args.patch.now c.args.key n C.can is

pub reserve_refit-requires-clause-small : goal.reserve_refit-requires-clause-small
reserve_refit-requires-clause-small g c = let C = c.requires.can.1 in C.leaf.small

pub make_reserved-requires-clause-can : goal.make_reserved-requires-clause-can
make_reserved-requires-clause-can g c =
    let p = c.args.patch.now in
    let ready = c.reserve_back.new.patch in
    let S = room_more p c.reserve_refit.new.patch ready c.reserve_refit.ensures.same c.reserve_back.ensures.same in
    let changed = c.args.changed.now in (
      c.requires.can.0,
      reserved_makes p ready c.in_ok-room.room c.args.key c.requires.can.0 c.args.seed changed.gone.items changed.turned.items c.as_slice-gone.result.now c.as_slice-turned.result.now c.in_ok-room.ensures.refits S
          c.as_slice-gone.ensures.value c.as_slice-turned.ensures.value c.requires.can.1,
    )

pub make_reserved-requires-clause-room : goal.make_reserved-requires-clause-room
make_reserved-requires-clause-room g c =
    let ready = c.reserve_back.new.patch in
    subst (λ (t : Names). TakesRefit ready c.in_ok-room.room t) (sym c.reserve_refit.ensures.table)
    (refit_stays c.reserve_refit.new.patch ready c.in_ok-room.room c.args.symbols.now c.reserve_back.ensures.same c.reserve_back.ensures.kept c.in_ok-room.ensures.room)

pub make_reserved-requires-clause-counted : goal.make_reserved-requires-clause-counted
make_reserved-requires-clause-counted g c =
    let p = c.args.patch.now in
    let ready = c.reserve_back.new.patch in
    c.requires.counted ∙ sym (room_wires p ready (room_more p c.reserve_refit.new.patch ready c.reserve_refit.ensures.same c.reserve_back.ensures.same))

pub returns-clause-made : goal.returns-clause-made
returns-clause-made g c = λ n is.
    let p = c.args.patch.now in
    let ready = c.reserve_back.new.patch in
    let S = room_more p c.reserve_refit.new.patch ready c.reserve_refit.ensures.same c.reserve_back.ensures.same in
    let changed = c.args.changed.now in
    let F = c.in_ok-room.ensures.refits in
    let C = makes_same p c.args.key c.requires.can.0 n c.args.seed changed.gone.items changed.turned.items c.requires.can.1 is in
    let R = reserved_makes p ready c.in_ok-room.room c.args.key n c.args.seed changed.gone.items changed.turned.items c.as_slice-gone.result.now c.as_slice-turned.result.now F S c.as_slice-gone.ensures.value
    c.as_slice-turned.ensures.value C in
    reserved_made p ready c.in_ok-room.room c.args.key n c.args.seed changed.gone.items changed.turned.items c.as_slice-gone.result.now c.as_slice-turned.result.now F S c.as_slice-gone.ensures.value
    c.as_slice-turned.ensures.value c.make_reserved.new.patch c.reserve_refit.new.symbols c.args.symbols.now c.args.steps.now c.make_reserved.new.steps c.reserve_refit.ensures.table
    (c.make_reserved.ensures.made n R.is)

pub returns-clause-fewer : goal.returns-clause-fewer
returns-clause-fewer g c =
    let p = c.args.patch.now in
    let ready = c.reserve_back.new.patch in
    let same = room_wires p ready (room_more p c.reserve_refit.new.patch ready c.reserve_refit.ensures.same c.reserve_back.ensures.same) in
    let fewer = c.make_reserved.ensures.fewer in
    omega (arith, same, fewer)

pub returns-clause-zero : goal.returns-clause-zero
returns-clause-zero g c =
    let p = c.args.patch.now in
    let ready = c.reserve_back.new.patch in
    c.make_reserved.ensures.zero ∙ room_zero p ready (room_more p c.reserve_refit.new.patch ready c.reserve_refit.ensures.same c.reserve_back.ensures.same)

pub returns-clause-table : goal.returns-clause-table
returns-clause-table g c = c.make_reserved.ensures.table ∙ c.reserve_refit.ensures.table

pub returns-in_err-room-clause-goes_on : goal.returns-in_err-room-clause-goes_on
returns-in_err-room-clause-goes_on g c = let C = c.requires.can.1 in room_put c.args.patch.now c.reserve_refit.new.patch c.reserve_refit.ensures.same C.can

pub returns-in_err-room-clause-meet : goal.returns-in_err-room-clause-meet
returns-in_err-room-clause-meet g c =
    let S = c.reserve_refit.ensures.same in
    let C = c.requires.can.1 in
    meet_by c.args.patch.now.web c.reserve_refit.new.patch.web S.web.fans S.web.feeds C.meet

pub returns-in_err-room-clause-fewer : goal.returns-in_err-room-clause-fewer
returns-in_err-room-clause-fewer g c = let same = room_wires c.args.patch.now c.reserve_refit.new.patch c.reserve_refit.ensures.same in omega (arith, same)

pub returns-in_err-room-clause-as_many : goal.returns-in_err-room-clause-as_many
returns-in_err-room-clause-as_many g c = on_err c.from_residual.result (room_wires c.args.patch.now c.reserve_refit.new.patch c.reserve_refit.ensures.same)

pub returns-in_err-room-clause-zero : goal.returns-in_err-room-clause-zero
returns-in_err-room-clause-zero g c = room_zero c.args.patch.now c.reserve_refit.new.patch c.reserve_refit.ensures.same

pub returns-in_err-notes-clause-short : goal.returns-in_err-notes-clause-short
returns-in_err-notes-clause-short g c =
    on_err c.from_residual-in_err-notes.result (room_more c.args.patch.now c.reserve_refit.new.patch c.reserve_back.new.patch c.reserve_refit.ensures.same c.reserve_back.ensures.same)

pub returns-in_err-notes-clause-goes_on : goal.returns-in_err-notes-clause-goes_on
returns-in_err-notes-clause-goes_on g c =
    let p = c.args.patch.now in
    let ready = c.reserve_back.new.patch in
    let C = c.requires.can.1 in
    room_put p ready (room_more p c.reserve_refit.new.patch ready c.reserve_refit.ensures.same c.reserve_back.ensures.same) C.can

pub returns-in_err-notes-clause-meet : goal.returns-in_err-notes-clause-meet
returns-in_err-notes-clause-meet g c =
    let p = c.args.patch.now in
    let ready = c.reserve_back.new.patch in
    let S = room_more p c.reserve_refit.new.patch ready c.reserve_refit.ensures.same c.reserve_back.ensures.same in
    let C = c.requires.can.1 in
    meet_by p.web ready.web S.web.fans S.web.feeds C.meet

pub returns-in_err-notes-clause-fewer : goal.returns-in_err-notes-clause-fewer
returns-in_err-notes-clause-fewer g c =
    let p = c.args.patch.now in
    let ready = c.reserve_back.new.patch in
    let same = room_wires p ready (room_more p c.reserve_refit.new.patch ready c.reserve_refit.ensures.same c.reserve_back.ensures.same) in
    omega (arith, same)

pub returns-in_err-notes-clause-as_many : goal.returns-in_err-notes-clause-as_many
returns-in_err-notes-clause-as_many g c =
    let p = c.args.patch.now in
    let ready = c.reserve_back.new.patch in
    on_err c.from_residual-in_err-notes.result (room_wires p ready (room_more p c.reserve_refit.new.patch ready c.reserve_refit.ensures.same c.reserve_back.ensures.same))

pub returns-in_err-notes-clause-zero : goal.returns-in_err-notes-clause-zero
returns-in_err-notes-clause-zero g c =
    let p = c.args.patch.now in
    let ready = c.reserve_back.new.patch in
    room_zero p ready (room_more p c.reserve_refit.new.patch ready c.reserve_refit.ensures.same c.reserve_back.ensures.same)
