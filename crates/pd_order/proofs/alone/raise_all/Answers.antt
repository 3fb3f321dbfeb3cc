use Rattle.std.proofs.Common.{set, ap, ◌∙◌, arith}
use Rattle.std.proofs.lemmas.List.{get_or_default}
use Rattle.std.proofs.lemmas.List.Edits.{map_over_more}
use Rattle.pd_order.specs.Spots.{reseated, place_raised}
use Rattle.pd_order.proofs.ShiftLemmas.{no_spot}
use Rattle.pd_order.proofs.alone.raise_all.Goals as goal

pub loop-spot-preserved : goal.loop-spot-preserved
loop-spot-preserved c =
    ap (λ v. set c.loop-spot.spots c.loop-spot.spot-index v) c.raised.ensures
    ∙ map_over_more (reseated (place_raised c.args.at)) c.args.spots.now c.loop-spot.spots c.loop-spot.spot-index _ (omega arith) c.loop-spot.invariant (get_or_default c.loop-spot.spots c.loop-spot.spot-index no_spot _ (omega arith))
