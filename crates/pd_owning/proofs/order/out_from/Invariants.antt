use Rattle.std.proofs.Common.{◌≡◌, ◌≤◌}
use Rattle.slab.specs.Slab.{get}
use Rattle.pd_owning.specs.Order.{box_out}
use Rattle.pd_owning.proofs.order.out_from.Given as goal

abbrev pub invariant-loop : goal.invariant-loop
invariant-loop l = record {
  here : l.here ≡ box_out (get l.grove.nodes) (get l.grove.boards) l.counter l.node;
  within : l.counter ≤ l.boxes;
}
