use Rattle.std.proofs.Common.{length, refl, sym, subst}
use Rattle.std.proofs.lemmas.Option.{slice_get_read}
use Rattle.pd_links.specs.Linked.{TakesFrom, TakesInto}
use Rattle.pd_misfits.specs.declared.wires.BoxWire.{BoxWire}
use Rattle.pd_turning.proofs.RoomLemmas.{room_from_all, room_into_all, room_to_next, room_to_none}
use Rattle.pd_turning.proofs.reserving.reserve_links.Goals as goal

pub loop-place-init : goal.loop-place-init
loop-place-init c = room_to_none c.args.wires.now c.args.links.now

pub loop-place-preserved : goal.loop-place-preserved
loop-place-preserved c =
    let ms = c.args.wires.now in
    let i = c.loop-place.place in
    let m = c.index-wires-place.result in
    let at = slice_get_read ms (length ms) i m refl c.loop-place-test.true c.index-wires-place.is in
    let e = c.in_ok-reserve_ends.ensures in
    room_to_next ms c.args.links.now c.loop-place.links c.reserve_ends.new.self i m c.in_ok-from.from c.in_ok-into.into at c.loop-place.invariant c.reserve_ends.ensures.same (c.in_ok-from.ensures m at)
    (c.in_ok-into.ensures m at) (subst (λ (x : BoxWire). TakesFrom c.reserve_ends.new.self x.line.source c.in_ok-from.from) (sym c.index-wires-place.is) e.from)
    (subst (λ (x : BoxWire). TakesInto c.reserve_ends.new.self x.line.sink c.in_ok-into.into) (sym c.index-wires-place.is) e.into)

pub returns-clause-from : goal.returns-clause-from
returns-clause-from c = room_from_all c.args.wires.now c.args.links.now c.loop-place.links c.loop-place.place c.loop-place-test.false c.loop-place.invariant

pub returns-clause-into : goal.returns-clause-into
returns-clause-into c = room_into_all c.args.wires.now c.args.links.now c.loop-place.links c.loop-place.place c.loop-place-test.false c.loop-place.invariant
