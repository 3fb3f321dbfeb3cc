use Rattle.std.proofs.Common.{◌≤◌, length, sym, ◌∙◌, subst, arith}
use Rattle.std.specs.Prelude.{IsSome}
use Rattle.std.proofs.lemmas.Result.{err_from_is_err_and}
use Rattle.slab.specs.Slab.{get}
use Rattle.pd_web.specs.Canvases.{keys_at}
use Rattle.pd_boxes.specs.declared.room.Place.{Place}
use Rattle.pd_boxes.proofs.RoomLemmas.{room_put}
use Rattle.pd_putting.proofs.StayLemmas.{room_lives, room_zero, room_wires, room_last, room_meets, is_ordered}
use Rattle.pd_putting.specs.Places.{HoldsCanvas}
use Rattle.pd_putting.proofs.HolderLemmas.{holder_no_port, puts_part}
use Rattle.pd_putting.proofs.PartLemmas.{part_zero, part_looks, part_looks_anywhere}
use Rattle.pd_putting.proofs.parts.put_boxes.Goals as goal

pub reserve_part-requires-clause-ordered : goal.reserve_part-requires-clause-ordered
reserve_part-requires-clause-ordered g c = is_ordered c.args.patch.now c.args.place.canvas c.requires.can c.requires.here

pub returns-in_err-room-clause-goes_on : goal.returns-in_err-room-clause-goes_on
returns-in_err-room-clause-goes_on g c = room_put c.args.patch.now c.reserve_part.new.patch c.reserve_part.ensures.same c.requires.can

pub returns-in_err-room-clause-meet : goal.returns-in_err-room-clause-meet
returns-in_err-room-clause-meet g c = room_meets c.args.patch.now c.reserve_part.new.patch c.reserve_part.ensures.same c.requires.meet

pub returns-in_err-room-clause-as_many : goal.returns-in_err-room-clause-as_many
returns-in_err-room-clause-as_many g c =
    let p = err_from_is_err_and c.from_residual.result c.from_residual.ensures.1 in
    rw p.1 (room_wires c.args.patch.now c.reserve_part.new.patch c.reserve_part.ensures.same)

pub returns-in_err-room-clause-zero : goal.returns-in_err-room-clause-zero
returns-in_err-room-clause-zero g c = room_zero c.args.patch.now c.reserve_part.new.patch c.reserve_part.ensures.same

pub put_part-requires-clause-can : goal.put_part-requires-clause-can
put_part-requires-clause-can g c = room_put c.args.patch.now c.reserve_part.new.patch c.reserve_part.ensures.same c.requires.can

pub put_part-requires-clause-here : goal.put_part-requires-clause-here
put_part-requires-clause-here g c =
    subst (λ (at : Place). IsSome (get c.reserve_part.new.patch.grove.boards at.canvas)) (sym c.in_ok-room.ensures.place)
    (room_lives c.args.patch.now c.reserve_part.new.patch c.reserve_part.ensures.same c.args.place.canvas c.requires.here)

pub put_part-requires-clause-number : goal.put_part-requires-clause-number
put_part-requires-clause-number g c =
    subst (λ (at : Place). at.number ≤ length (keys_at c.reserve_part.new.patch.grove at.canvas)) (sym c.in_ok-room.ensures.place)
    (omega (arith, c.requires.number, room_last c.args.patch.now c.reserve_part.new.patch c.reserve_part.ensures.same c.args.place.canvas))

pub put_part-requires-clause-plain : goal.put_part-requires-clause-plain
put_part-requires-clause-plain g c =
    holder_no_port c.reserve_part.new.patch c.in_ok-room.room.place _ c.in_ok-room.room.seed _ c.in_ok-room.ensures.boxes c.requires.holder

pub returns-clause-put : goal.returns-clause-put
returns-clause-put g c =
    puts_part c.args.patch.now c.reserve_part.new.patch c.put_part.new.patch c.reserve_part.new.symbols c.args.symbols.now c.args.place c.args.now _ c.in_ok-room.room _
    c.put_part.result.key c.args.steps.now c.put_part.new.steps c.reserve_part.ensures.same c.reserve_part.ensures.table c.in_ok-room.ensures.place
    c.in_ok-room.ensures.boxes c.in_ok-room.ensures.fresh c.in_ok-room.ensures.room c.put_part.ensures.put

pub returns-clause-meet : goal.returns-clause-meet
returns-clause-meet g c = c.put_part.ensures.put.meet (room_meets c.args.patch.now c.reserve_part.new.patch c.reserve_part.ensures.same c.requires.meet)

pub returns-clause-zero : goal.returns-clause-zero
returns-clause-zero g c =
    let p = c.args.patch.now in
    let q = c.reserve_part.new.patch in
    part_zero q c.put_part.new.patch _ _ _ _ c.put_part.result.key _ _ c.put_part.ensures.put (room_put p q c.reserve_part.ensures.same c.requires.can)
    ∙ room_zero p q c.reserve_part.ensures.same

pub returns-clause-looks : goal.returns-clause-looks
returns-clause-looks g c =
    let part = c.requires.part in
    part_looks c.reserve_part.new.patch c.put_part.new.patch _ _ _ _ c.put_part.result.key c.args.steps.now c.put_part.new.steps c.put_part.ensures.put part.tree
    (c.in_ok-room.ensures.boxes ∙ part.is_tree) part.single (subst HoldsCanvas part.is_tree c.requires.holder)

pub returns-clause-anywhere : goal.returns-clause-anywhere
returns-clause-anywhere g c =
    part_looks_anywhere c.reserve_part.new.patch c.put_part.new.patch _ _ _ _ c.put_part.result.key c.args.steps.now c.put_part.new.steps c.put_part.ensures.put
