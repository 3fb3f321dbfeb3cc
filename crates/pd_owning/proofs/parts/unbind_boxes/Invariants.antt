use Rattle.std.proofs.Common.{◌≡◌, ◌++◌, ℕ, List, take}
use Rattle.pd_grove.specs.TextOrder.{keys_of_spots}
use Rattle.pd_owning.specs.Bound.{AreOwnersBut}
use Rattle.pd_owning.proofs.parts.unbind_boxes.Given as goal

abbrev pub invariant-loop-spot : goal.invariant-loop-spot
invariant-loop-spot l = record {
  table : l.symbols ≡ l.fn.symbols;
  unbinds : (file away : List ℕ) → AreOwnersBut l.fn.names l.fn.symbols file l.grove away
      → AreOwnersBut l.names l.fn.symbols file l.grove (keys_of_spots (take l.spot-index l.spots) ++ away);
}
