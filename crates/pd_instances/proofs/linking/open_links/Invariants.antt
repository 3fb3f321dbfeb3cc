use Rattle.std.proofs.Common.{◌≡◌, ℕ, Some, IsTrue, map, take, drop}
use Rattle.std.specs.List.{AllZip, flat_map}
use Rattle.slab.specs.Slab.{get}
use Rattle.pd_links.specs.Linked.{KeepsLinks}
use Rattle.pd_grove.specs.Telling.{inner_in}
use Rattle.pd_grove.specs.TextOrder.{keys_of_spots}
use Rattle.pd_owning.specs.Bound.{is_among}
use Rattle.pd_web.specs.Canvases.{keys_at}
use Rattle.pd_web.specs.Lines.{wires_in}
use Rattle.pd_instances.specs.Lay.{TakesWires}
use Rattle.pd_instances.specs.Needs.{inside_at, AreLinkRooms}
use Rattle.pd_instances.proofs.linking.open_links.Given as goal

abbrev pub invariant-loop-spot : goal.invariant-loop-spot
invariant-loop-spot l = record {
  keeps : KeepsLinks l.fn.links l.links;
  takes : (x c : ℕ) → IsTrue (is_among (keys_of_spots (take l.spot-index l.spots)) x) → inner_in (get l.grove.nodes x) ≡ Some c → TakesWires l.links (keys_at l.grove c) (wires_in (get l.grove.boards c));
  rooms : AllZip AreLinkRooms (flat_map (inside_at l.grove) (keys_of_spots (drop l.spot-index l.spots))) (map (λ v. v.items) l.rooms.items);
}
