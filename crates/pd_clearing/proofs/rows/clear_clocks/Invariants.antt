use Rattle.std.proofs.Common.{◌≡◌, take}
use Rattle.pd_grove.specs.TextOrder.{keys_of_spots}
use Rattle.pd_clearing.specs.Clearing.{without_all}
use Rattle.pd_clearing.proofs.rows.clear_clocks.Given as goal

abbrev pub invariant-loop-spot : goal.invariant-loop-spot
invariant-loop-spot l = record {
  clocks : l.timers.clocks.clocks ≡ without_all (keys_of_spots (take l.spot-index l.spots)) l.fn.timers.clocks.clocks;
  end : l.timers.end ≡ l.fn.timers.end;
}
