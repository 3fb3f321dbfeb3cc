use Rattle.pd_block.specs.Nets.{states_of}
use Rattle.pd_sized.proofs.OwnerLemmas.{owner_serves}
use Rattle.pd_sized.proofs.ServeLemmas.{goes_on, owner_finds, owner_found}
use Rattle.pd_sized.proofs.laws.owners_serve.Goals as goal

pub returns-clause-kind : goal.returns-clause-kind
returns-clause-kind c = λ p names file rate k o built e. owner_serves p names file rate built k o e

pub returns-clause-finds : goal.returns-clause-finds
returns-clause-finds c = λ p names file rate k o states built kept e. owner_finds p names file rate built states kept k o e

pub returns-clause-state : goal.returns-clause-state
returns-clause-state c = λ p names file rate k o fresh e. (owner_found p names file rate fresh k o e).1

pub returns-clause-lasts : goal.returns-clause-lasts
returns-clause-lasts c = λ p names file rate k o states fresh e a. goes_on k (states_of p) states o a (owner_found p names file rate fresh k o e)
