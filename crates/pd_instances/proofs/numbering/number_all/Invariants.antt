use Rattle.std.proofs.Common.{ℕ, ◌<◌, length, take}
use Rattle.pd_grove.specs.TextOrder.{keys_of_spots}
use Rattle.pd_instances.specs.Layers.{NumbersAll}
use Rattle.pd_instances.proofs.numbering.number_all.Given as goal

abbrev pub invariant-loop-spot : goal.invariant-loop-spot
invariant-loop-spot l = record {
  numbers : NumbersAll l.grove l.fn.numbers.items l.numbers.items (keys_of_spots (take l.spot-index l.spots));
  reach : (k : ℕ) → k < length l.fn.numbers.items → k < length l.numbers.items;
}
