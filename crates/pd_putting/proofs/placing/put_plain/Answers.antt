use Rattle.std.proofs.Common.{◌≡◌, ◌≤◌, length, sym, ◌∙◌, subst, arith}
use Rattle.std.specs.Prelude.{IsSome}
use Rattle.slab.specs.Slab.{get}
use Rattle.pd_grove.specs.declared.seeds.Seed.{Seed}
use Rattle.pd_web.specs.Canvases.{keys_at}
use Rattle.pd_boxes.specs.declared.room.Place.{Place}
use Rattle.pd_boxes.specs.Put.{IsLeaf, IsNoPort}
use Rattle.pd_putting.proofs.StayLemmas.{room_lives, room_zero, room_wires, room_last, room_no_port, room_meets, is_ordered, more_zero, more_wires, puts_at}
use Rattle.pd_putting.proofs.placing.put_plain.Goals as goal

pub reserve_box-requires-clause-ordered : goal.reserve_box-requires-clause-ordered
reserve_box-requires-clause-ordered g c = is_ordered c.args.patch.now c.args.place.canvas c.requires.can c.requires.here

pub returns-in_err-room-clause-goes_on : goal.returns-in_err-room-clause-goes_on
returns-in_err-room-clause-goes_on g c = c.room_changes_nothing.ensures.can c.args.patch.now c.reserve_box.new.patch c.reserve_box.ensures.same c.requires.can

pub returns-in_err-room-clause-meet : goal.returns-in_err-room-clause-meet
returns-in_err-room-clause-meet g c = room_meets c.args.patch.now c.reserve_box.new.patch c.reserve_box.ensures.same c.requires.meet

pub returns-in_err-room-clause-as_many : goal.returns-in_err-room-clause-as_many
returns-in_err-room-clause-as_many g c = room_wires c.args.patch.now c.reserve_box.new.patch c.reserve_box.ensures.same

pub returns-in_err-room-clause-zero : goal.returns-in_err-room-clause-zero
returns-in_err-room-clause-zero g c = room_zero c.args.patch.now c.reserve_box.new.patch c.reserve_box.ensures.same

pub put-requires-clause-can : goal.put-requires-clause-can
put-requires-clause-can g c = c.room_changes_nothing.ensures.can c.args.patch.now c.reserve_box.new.patch c.reserve_box.ensures.same c.requires.can

pub put-requires-clause-here : goal.put-requires-clause-here
put-requires-clause-here g c =
    subst (λ (at : Place). IsSome (get c.reserve_box.new.patch.grove.boards at.canvas)) (sym c.in_ok-room.ensures.comes.place)
    (room_lives c.args.patch.now c.reserve_box.new.patch c.reserve_box.ensures.same c.args.place.canvas c.requires.here)

pub put-requires-clause-number : goal.put-requires-clause-number
put-requires-clause-number g c =
    subst (λ (at : Place). at.number ≤ length (keys_at c.reserve_box.new.patch.grove at.canvas)) (sym c.in_ok-room.ensures.comes.place)
    (omega (arith, c.requires.number, room_last c.args.patch.now c.reserve_box.new.patch c.reserve_box.ensures.same c.args.place.canvas))

pub put-requires-clause-leaf : goal.put-requires-clause-leaf
put-requires-clause-leaf g c = subst IsLeaf (sym c.in_ok-room.ensures.comes.seed) c.requires.leaf

pub put-requires-clause-plain : goal.put-requires-clause-plain
put-requires-clause-plain g c =
    let p = c.args.patch.now in
    let q = c.reserve_box.new.patch in
    let room = c.in_ok-room.room in
    subst (λ (s : Seed). IsNoPort q room.place s.row.kind) (sym c.in_ok-room.ensures.comes.seed)
    (subst (λ (at : Place). IsNoPort q at c.args.seed.row.kind) (sym c.in_ok-room.ensures.comes.place)
    (room_no_port p q c.reserve_box.ensures.same c.args.place c.args.seed.row.kind c.requires.plain))

pub returns-clause-put : goal.returns-clause-put
returns-clause-put g c =
    puts_at c.args.patch.now c.reserve_box.new.patch c.put.new.patch c.reserve_box.new.symbols c.args.symbols.now c.put.result c.in_ok-room.room c.args.place c.args.seed
    c.reserve_box.ensures.same c.reserve_box.ensures.table c.in_ok-room.ensures.comes c.put.ensures.put

pub returns-clause-goes_on : goal.returns-clause-goes_on
returns-clause-goes_on g c =
    let p = c.args.patch.now in
    let q = c.reserve_box.new.patch in
    let room = c.in_ok-room.room in
    let can = c.room_changes_nothing.ensures.can p q c.reserve_box.ensures.same c.requires.can in
    let leaf = subst IsLeaf (sym c.in_ok-room.ensures.comes.seed) c.requires.leaf in
    let plain : IsNoPort q room.place room.seed.row.kind =
    subst (λ (s : Seed). IsNoPort q room.place s.row.kind) (sym c.in_ok-room.ensures.comes.seed)
    (subst (λ (at : Place). IsNoPort q at c.args.seed.row.kind) (sym c.in_ok-room.ensures.comes.place)
    (room_no_port p q c.reserve_box.ensures.same c.args.place c.args.seed.row.kind c.requires.plain)) in
    c.patches_run_on.ensures.can q c.put.new.patch c.reserve_box.new.symbols room.place room.seed c.put.result can leaf c.put.ensures.put plain

pub returns-clause-meet : goal.returns-clause-meet
returns-clause-meet g c =
    c.wires_still_meet.ensures c.reserve_box.new.patch.web c.put.new.patch.web c.put.result _ _ c.put.ensures.put.comes.ports
    (room_meets c.args.patch.now c.reserve_box.new.patch c.reserve_box.ensures.same c.requires.meet)

pub returns-clause-as_many : goal.returns-clause-as_many
returns-clause-as_many g c =
    let room = c.in_ok-room.room in
    more_wires c.reserve_box.new.patch c.put.new.patch c.reserve_box.new.symbols room.place room.seed c.put.result c.put.ensures.put.comes
    ∙ room_wires c.args.patch.now c.reserve_box.new.patch c.reserve_box.ensures.same

pub returns-clause-zero : goal.returns-clause-zero
returns-clause-zero g c =
    let room = c.in_ok-room.room in
    more_zero c.reserve_box.new.patch c.put.new.patch c.reserve_box.new.symbols room.place room.seed c.put.result c.put.ensures.put.comes
    ∙ room_zero c.args.patch.now c.reserve_box.new.patch c.reserve_box.ensures.same

pub returns-clause-last_looks : goal.returns-clause-last_looks
returns-clause-last_looks g c = λ last.
    let q = c.reserve_box.new.patch in
    let e : c.args.place.number ≡ length (keys_at q.grove c.args.place.canvas) = last ∙ sym (room_last c.args.patch.now q c.reserve_box.ensures.same c.args.place.canvas) in
    c.put.ensures.last_looks (subst (λ (at : Place). at.number ≡ length (keys_at q.grove at.canvas)) (sym c.in_ok-room.ensures.comes.place) e)
