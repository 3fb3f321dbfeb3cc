use Rattle.pd_guards.proofs.PatchLemmas.{patch_in_order, patch_values, patch_sounds}
use Rattle.pd_guards.proofs.laws.grown_patches_are_in_order.Goals as goal

pub returns-clause-order : goal.returns-clause-order
returns-clause-order c = λ files name root before names n rate p now queue time first proper library tree fresh. patch_in_order files name root before names n rate p queue first proper library tree fresh now time

pub returns-clause-values : goal.returns-clause-values
returns-clause-values c = λ files name root before names n rate p queue. patch_values files name root before names n rate p queue

pub returns-clause-sounds : goal.returns-clause-sounds
returns-clause-sounds c = λ files name root before names n rate p queue. patch_sounds files name root before names n rate p queue
