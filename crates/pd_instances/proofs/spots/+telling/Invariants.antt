use Rattle.std.proofs.Common.{◌≡◌, ◌+◌, ◌-◌, ◌*◌, ◌++◌, length, take, vec_capacity, vec_len}
use Rattle.std.specs.List.{flat_map}
use Rattle.slab.specs.Slab.{get}
use Rattle.pd_grove.specs.TextOrder.{box_spots, spots_among}
use Rattle.pd_instances.proofs.spots.+telling.Given as goal

abbrev pub decreases-push_boxes : goal.decreases-push_boxes
decreases-push_boxes l = 2 * l.canvases

abbrev pub decreases-push_box : goal.decreases-push_box
decreases-push_box l = 2 * l.canvases + 1

abbrev pub invariant-push_boxes-loop-key : goal.invariant-push_boxes-loop-key
invariant-push_boxes-loop-key l = record {
  told : l.spots.items
      ≡ l.fn.spots.items ++ flat_map (λ k. box_spots (get l.grove.boards) (spots_among (get l.grove.nodes) (get l.grove.boards) (l.canvases - 1)) l.is_top k (get l.grove.nodes k)) (take l.key-index l.keys);
  len : vec_len l.spots
      ≡ vec_len l.fn.spots + length (flat_map (λ k. box_spots (get l.grove.boards) (spots_among (get l.grove.nodes) (get l.grove.boards) (l.canvases - 1)) l.is_top k (get l.grove.nodes k)) (take l.key-index l.keys));
  room : vec_capacity l.spots ≡ vec_capacity l.fn.spots;
}
