use Rattle.pd_bench_orders.specs.Voices.{OrdersVoices}
use Rattle.pd_bench_orders.proofs.mend.measure_in.Given as goal

abbrev pub invariant-loop-i : goal.invariant-loop-i
invariant-loop-i g l = OrdersVoices l.count l.order

abbrev pub invariant-loop-last : goal.invariant-loop-last
invariant-loop-last g l = OrdersVoices l.count l.order
