use Rattle.std.proofs.Common.{◌≡◌, ℕ, Some, IsTrue, take, drop}
use Rattle.slab.specs.Slab.{get}
use Rattle.pd_grove.specs.Telling.{inner_in}
use Rattle.pd_grove.specs.TextOrder.{keys_of_spots}
use Rattle.pd_owning.specs.Bound.{is_among}
use Rattle.pd_web.specs.Canvases.{keys_at}
use Rattle.pd_web.specs.Lines.{wires_in}
use Rattle.pd_wiring.specs.Graphs.{AreWired}
use Rattle.pd_instances.specs.Lay.{LaysLines, TakesWires}
use Rattle.pd_instances.specs.Part.{lines_of}
use Rattle.pd_instances.proofs.linking.lay_part.Given as goal

abbrev pub invariant-loop-spot : goal.invariant-loop-spot
invariant-loop-spot l = record {
  lays : LaysLines l.fn.web l.web (lines_of l.grove (keys_of_spots (take l.spot-index l.spots)));
  wired : AreWired l.grove l.web l.links;
  takes : (x c : ℕ) → IsTrue (is_among (keys_of_spots (drop l.spot-index l.spots)) x) → inner_in (get l.grove.nodes x) ≡ Some c → TakesWires l.links (keys_at l.grove c) (wires_in (get l.grove.boards c));
}
