use Rattle.pd_canvas.proofs.SortLemmas.{fan_out_last, fan_out_other}
use Rattle.pd_canvas.proofs.laws.fan_outs.Goals as goal

pub returns-clause-last : goal.returns-clause-last
returns-clause-last c = fan_out_last

pub returns-clause-others : goal.returns-clause-others
returns-clause-others c = fan_out_other
