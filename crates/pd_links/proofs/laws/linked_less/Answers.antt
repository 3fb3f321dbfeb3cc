use Rattle.pd_links.proofs.LinkLemmas.{less_linked}
use Rattle.pd_links.proofs.laws.linked_less.Goals as goal

pub returns : goal.returns
returns c = less_linked
