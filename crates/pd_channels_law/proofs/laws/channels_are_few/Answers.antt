use Rattle.pd_channels_law.proofs.GrowthLemmas.{patch_few, nodes_few}
use Rattle.pd_channels_law.proofs.laws.channels_are_few.Goals as goal

pub returns-clause-grown : goal.returns-clause-grown
returns-clause-grown c = patch_few

pub returns-clause-nodes : goal.returns-clause-nodes
returns-clause-nodes c = nodes_few
