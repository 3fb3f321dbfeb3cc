use Rattle.pd_panel.proofs.FoldLemmas.{toggles_fold}
use Rattle.pd_panel.proofs.rows.toggle_folds.Goals as goal

pub returns : goal.returns
returns c = toggles_fold
