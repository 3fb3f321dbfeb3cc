use Rattle.std.proofs.Common.{◌≡◌, ◌+◌, ◌-◌, ◌*◌, ◌++◌, take}
use Rattle.std.specs.List.{flat_map}
use Rattle.slab.specs.Slab.{get}
use Rattle.pd_grove.specs.TextOrder.{box_spots, spots_among}
use Rattle.pd_grove.proofs.spots.+spots.Given as goal

abbrev pub decreases-push_spots : goal.decreases-push_spots
decreases-push_spots l = 2 * l.canvases

abbrev pub decreases-push_box : goal.decreases-push_box
decreases-push_box l = 2 * l.canvases + 1

abbrev pub invariant-push_spots-loop-key : goal.invariant-push_spots-loop-key
invariant-push_spots-loop-key l =
    l.spots.items ≡ l.fn.spots.items
    ++ flat_map (λ k. box_spots (get l.boards) (spots_among (get l.nodes) (get l.boards) (l.canvases - 1)) l.is_top k (get l.nodes k)) (take l.key-index l.keys)
