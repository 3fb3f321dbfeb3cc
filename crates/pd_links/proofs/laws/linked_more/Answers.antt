use Rattle.pd_links.proofs.LinkLemmas.{more_linked}
use Rattle.pd_links.proofs.laws.linked_more.Goals as goal

pub returns : goal.returns
returns c = more_linked
