use Rattle.pd_bind.proofs.OwningLemmas.{owners_of_tree}
use Rattle.pd_bind.proofs.laws.owners_are_of_the_tree.Goals as goal

pub returns : goal.returns
returns c = λ names g s t G l. owners_of_tree names g s t G l
