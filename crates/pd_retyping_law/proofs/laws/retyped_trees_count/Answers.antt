use Rattle.pd_retyping_law.proofs.CountLemmas.{tree_trades, weight_same, zeros_same}
use Rattle.pd_retyping_law.proofs.laws.retyped_trees_count.Goals as goal

pub returns-clause-boxes : goal.returns-clause-boxes
returns-clause-boxes c = weight_same

pub returns-clause-zeros : goal.returns-clause-zeros
returns-clause-zeros c = zeros_same

pub returns-clause-sound : goal.returns-clause-sound
returns-clause-sound c = λ rate g h path canvas key number n n' t B G. tree_trades rate g h path canvas key number n n' B t G
