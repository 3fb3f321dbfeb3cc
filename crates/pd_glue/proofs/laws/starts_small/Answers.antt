use Rattle.pd_glue.proofs.StartLemmas.{start_small}
use Rattle.pd_glue.proofs.laws.starts_small.Goals as goal

pub returns : goal.returns
returns c = λ names k r h t. start_small names k r h t
