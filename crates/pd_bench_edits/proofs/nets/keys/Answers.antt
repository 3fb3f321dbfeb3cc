use Rattle.std.proofs.Common.{ap, ◌∙◌, arith}
use Rattle.pd_order.specs.Graph.{tally}
use Rattle.pd_bench_edits.proofs.NetLemmas.{one_key_more}
use Rattle.pd_bench_edits.proofs.nets.keys.Goals as goal

pub loop-key-preserved : goal.loop-key-preserved
loop-key-preserved c = (omega (arith, c.loop-key.invariant.0), λ x. ap (tally x) c.in_ok-push.ensures.items ∙ one_key_more c.loop-key.key x c.loop-key.made.items c.loop-key.invariant.0 (c.loop-key.invariant.1 x))
