use Rattle.pd_adding.proofs.AddLemmas.{refused_first, refused_growing, grown_comes, grown_takes}
use Rattle.pd_adding.proofs.laws.steps_come_to_it.Goals as goal

pub returns-clause-coming : goal.returns-clause-coming
returns-clause-coming c = refused_first

pub returns-clause-growing : goal.returns-clause-growing
returns-clause-growing c = λ holds p n name path e k canvas b why comes ends x y.
    refused_growing holds p n name path e k canvas b comes why ends x y

pub returns-clause-counting : goal.returns-clause-counting
returns-clause-counting c = λ holds p n name path e k canvas b files rows w r comes g h.
    grown_comes holds p n name path e k canvas b comes files rows w g r h

pub returns-clause-takes : goal.returns-clause-takes
returns-clause-takes c = grown_takes
