use Rattle.pd_instances.proofs.SumLemmas.{rest_next, sum_next}
use Rattle.pd_instances.proofs.needs.take_ports.Goals as goal

pub loop-preserved : goal.loop-preserved
loop-preserved c = (
  sum_next c.args.stack.now.items c.loop.stack.items c.loop.counter c.loop.sum c.in_ok-sum.sum c.loop.invariant.0 c.loop.invariant.1 c.in_ok-sum.ensures.sum,
  rest_next c.args.stack.now.items c.loop.stack.items c.add_first.new.stack.items c.loop.counter c.loop.invariant.1 c.in_ok-sum.ensures.rest,
)
