use Rattle.std.proofs.Common.{length, refl}
use Rattle.std.proofs.lemmas.Option.{slice_get_read}
use Rattle.pd_turning.proofs.RoomLemmas.{from_step}
use Rattle.pd_turning.proofs.reserving.from_count.Goals as goal

pub loop-wire-preserved : goal.loop-wire-preserved
loop-wire-preserved c =
    let ms = c.args.wires.now in
    let i = c.loop-wire.wire-index in
    let m = c.wire-item.result in
    from_step ms i m (slice_get_read ms (length ms) i m refl c.loop-wire-test.true c.wire-item.is) c.args.node c.loop-wire.count c.in_ok-count.count c.loop-wire.invariant c.in_ok-count.ensures
