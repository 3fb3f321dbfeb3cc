use Rattle.pd_owning.proofs.LeafLemmas.{leaf_alone}
use Rattle.pd_owning.proofs.PartLemmas.{are_part, part_stands, part_once}
use Rattle.pd_owning.proofs.laws.parts_are_told.Goals as goal

pub returns-clause-part : goal.returns-clause-part
returns-clause-part c = λ nodes boards root p F live. are_part nodes boards root F p.node p.is_top live

pub returns-clause-stand : goal.returns-clause-stand
returns-clause-stand c = λ g p q i j F at h. part_stands g F p i at j q h

pub returns-clause-once : goal.returns-clause-once
returns-clause-once c = λ g p x y i j m F at h f e. part_once g F p i at j m x y h f e

pub returns-clause-alone : goal.returns-clause-alone
returns-clause-alone c = λ nodes boards root k F bare. leaf_alone nodes boards root F k bare
