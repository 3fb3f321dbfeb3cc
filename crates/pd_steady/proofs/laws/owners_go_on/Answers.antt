use Rattle.pd_steady.proofs.LastLemmas.{begun_lasts, steps_last}
use Rattle.pd_steady.proofs.OwnersLemmas.{begun_serves, run_serves}
use Rattle.pd_steady.proofs.laws.owners_go_on.Goals as goal

pub returns : goal.returns
returns c = record {
  alike = λ file p names base steps ahead l. begun_lasts file p names base ahead steps l;
  onward = λ s steps l. steps_last steps s l;
  steps = λ holds name rate d names table p base steps ahead g k l. begun_serves holds name rate d names table p base ahead g steps k l;
  end = λ holds name rate d names table p base steps ahead g k l. run_serves holds name rate d names table p base ahead g steps k l;
}
