use Rattle.pd_again_law.proofs.BareLemmas.{bare_leaves}
use Rattle.pd_again_law.proofs.laws.bare_boxes_leave_numbers.Goals as goal

pub returns : goal.returns
returns c = λ s path number m bare x t runs. bare_leaves s path number m x (bare x) t runs
