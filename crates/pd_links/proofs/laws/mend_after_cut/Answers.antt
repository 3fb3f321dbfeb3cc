use Rattle.pd_links.proofs.LinkLemmas.{after_cut}
use Rattle.pd_links.proofs.laws.mend_after_cut.Goals as goal

pub returns : goal.returns
returns c = after_cut
