use Rattle.std.proofs.Common.{◌≡◌, ◌++◌, ℕ, List, drop}
use Rattle.slab.specs.Slab.{get}
use Rattle.pd_grove.specs.TextOrder.{keys_of_spots}
use Rattle.pd_owning.specs.Bound.{AreNew, AreOwnersBut}
use Rattle.pd_owning.proofs.TurnLemmas.{HasRooms}
use Rattle.pd_owning.proofs.parts.bind_boxes.Given as goal

abbrev pub invariant-loop-spot : goal.invariant-loop-spot
invariant-loop-spot l = record {
  table : l.symbols ≡ l.fn.symbols;
  room : HasRooms l.names l.fn.symbols (get l.grove.nodes) (drop l.spot-index l.spots);
  binds : (file away : List ℕ) → AreNew (keys_of_spots l.spots) away → AreOwnersBut l.fn.names l.fn.symbols file l.grove (keys_of_spots l.spots ++ away)
      → AreOwnersBut l.names l.fn.symbols file l.grove (keys_of_spots (drop l.spot-index l.spots) ++ away);
}
