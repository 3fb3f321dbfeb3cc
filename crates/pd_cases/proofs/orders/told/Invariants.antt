use Rattle.pd_order.specs.Wired.{OrdersWires}
use Rattle.pd_cases.proofs.orders.told.Given as goal

abbrev pub invariant-loop-part : goal.invariant-loop-part
invariant-loop-part g l = OrdersWires l.graph.sources.items l.graph.sinks.items l.graph.nodes l.order
