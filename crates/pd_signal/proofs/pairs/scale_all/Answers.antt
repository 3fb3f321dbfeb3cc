use Rattle.std.proofs.Common.{arith, ◌∙◌}
use Rattle.pd_signal.proofs.ShortLemmas.{scaled, scaled_long}
use Rattle.pd_signal.proofs.pairs.scale_all.Goals as goal

pub returns-then-are_short : goal.returns-then-are_short
returns-then-are_short c = c.scale_short.ensures ∙ scaled c.args.factor c.args.x.now (omega arith) (c.are_short.ensures c.if-are_short.true)

pub returns-else-is_small : goal.returns-else-is_small
returns-else-is_small c = c.scale_long.ensures ∙ scaled_long c.args.factor c.args.x.now (omega arith)
