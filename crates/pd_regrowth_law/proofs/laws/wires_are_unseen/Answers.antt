use Rattle.pd_regrowth_law.proofs.AlikeLemmas.{page_alike, patch_alike, patch_texts, zeros_of_alike, weight_alike}
use Rattle.pd_regrowth_law.proofs.laws.wires_are_unseen.Goals as goal

pub returns-clause-page : goal.returns-clause-page
returns-clause-page c = page_alike

pub returns-clause-patch : goal.returns-clause-patch
returns-clause-patch c = patch_alike

pub returns-clause-numbers : goal.returns-clause-numbers
returns-clause-numbers c = zeros_of_alike

pub returns-clause-weight : goal.returns-clause-weight
returns-clause-weight c = λ t u h. weight_alike t.boxes u.boxes h.boxes

pub returns-clause-texts : goal.returns-clause-texts
returns-clause-texts c = patch_texts
