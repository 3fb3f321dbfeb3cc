use Rattle.pd_regrowth_law.proofs.TrimLemmas.{tree_twice, zeros_of_trimmed, weight_trimmed}
use Rattle.pd_regrowth_law.proofs.laws.trimming_laws.Goals as goal

pub returns-clause-twice : goal.returns-clause-twice
returns-clause-twice c = tree_twice

pub returns-clause-numbers : goal.returns-clause-numbers
returns-clause-numbers c = zeros_of_trimmed

pub returns-clause-weight : goal.returns-clause-weight
returns-clause-weight c = λ t. weight_trimmed t.boxes
