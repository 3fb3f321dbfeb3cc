use Rattle.std.proofs.Common.{ap, ◌∙◌}
use Rattle.pd_stage.specs.Items.{lines_of, samples_of}
use Rattle.pd_stage.proofs.ItemLemmas.{lines-append, samples-append}
use Rattle.pd_stage.proofs.laws.fronts_are_fronts.Goals as goal

pub returns-clause-lines : goal.returns-clause-lines
returns-clause-lines c = λ part whole f. record { rest = lines_of f.rest; is = ap lines_of f.is ∙ lines-append part f.rest }

pub returns-clause-samples : goal.returns-clause-samples
returns-clause-samples c = λ part whole f. record { rest = samples_of f.rest; is = ap samples_of f.is ∙ samples-append part f.rest }
