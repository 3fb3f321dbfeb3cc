use Rattle.std.proofs.Common.{◌≡◌, ◌++◌, map, take, drop}
use Rattle.pd_order.specs.Spots.{reseated, place_raised}
use Rattle.pd_order.proofs.alone.raise_all.Given as goal

abbrev pub invariant-loop-spot : goal.invariant-loop-spot
invariant-loop-spot l = l.spots ≡ map (reseated (place_raised l.at)) (take l.spot-index l.fn.spots) ++ drop l.spot-index l.fn.spots
