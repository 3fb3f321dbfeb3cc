use Rattle.std.proofs.Common.{map, take, drop}
use Rattle.pd_grove.specs.TextOrder.{keys_of_spots}
use Rattle.pd_web.specs.Changes.{KeepsRoom}
use Rattle.pd_instances.specs.Needs.{need_at, AreRoomsFor}
use Rattle.pd_instances.specs.Layers.{OpensAll, PutsBlocks}
use Rattle.pd_instances.proofs.opening.open_all.Given as goal

abbrev pub invariant-loop-spot : goal.invariant-loop-spot
invariant-loop-spot l = record {
  opens : OpensAll l.grove l.fn.web l.web (keys_of_spots (take l.spot-index l.spots));
  blocks : PutsBlocks l.grove (map (λ b. b.items) l.fn.values.items) (map (λ b. b.items) l.values.items) (keys_of_spots (take l.spot-index l.spots));
  room : KeepsRoom l.fn.web l.web;
  rooms : AreRoomsFor (map (need_at l.grove) (keys_of_spots (drop l.spot-index l.spots))) l.rooms.items;
}
