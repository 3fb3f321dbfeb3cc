use Rattle.pd_proper_law.proofs.SavableLemmas.{contents_save}
use Rattle.pd_proper_law.proofs.laws.contents_save_well.Goals as goal

pub returns : goal.returns
returns c = contents_save
