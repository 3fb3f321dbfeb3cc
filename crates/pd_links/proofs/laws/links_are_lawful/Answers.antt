use Rattle.pd_links.proofs.LinkLemmas.{links_lawful}
use Rattle.pd_links.proofs.laws.links_are_lawful.Goals as goal

pub returns : goal.returns
returns c = links_lawful
