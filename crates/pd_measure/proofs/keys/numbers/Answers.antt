use Rattle.std.proofs.Common.{◌∙◌}
use Rattle.pd_order.proofs.WiredLemmas.{one_number_more}
use Rattle.pd_measure.proofs.keys.numbers.Goals as goal

pub loop-number-preserved : goal.loop-number-preserved
loop-number-preserved c = c.in_ok-push.ensures.items ∙ one_number_more c.loop-number.number c.loop-number.made.items c.loop-number.invariant
