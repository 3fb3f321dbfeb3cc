use Rattle.std.proofs.Common.{map, take, get_or, false, ap, ◌∙◌, arith}
use Rattle.std.proofs.lemmas.List.{take_more}
use Rattle.slab.specs.Slab.{get}
use Rattle.pd_grove.specs.declared.spots.Spot.{Spot}
use Rattle.pd_grove.specs.TextOrder.{cell_under, keys_of_spots}
use Rattle.pd_adding.specs.Counted.{sound_among}
use Rattle.pd_deleting.proofs.DeleteLemmas.{values_next}
use Rattle.pd_deleting.proofs.deleting.values_of.Goals as goal

abbrev none : Spot
none = record { node = 0; is_top = false }

pub loop-spot-preserved : goal.loop-spot-preserved
loop-spot-preserved c =
    let i = c.loop-spot.spot-index in
    let spots = c.args.part.now in
    let nodes = get c.args.grove.now.nodes in
    let next = ap (λ qs. sound_among c.args.rate (map (cell_under nodes) (keys_of_spots qs))) (take_more spots i none c.loop-spot-test.true)
    ∙ values_next c.args.rate nodes (take i spots) (get_or spots i none) in
    let inv = c.loop-spot.invariant in
    let size = c.values_at.ensures in
    let sum = c.saturating_add-values.ensures in
    omega (arith, next, inv, size, sum)
