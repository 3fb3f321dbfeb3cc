use Rattle.pd_patch.proofs.WayLemmas.{path_back}
use Rattle.pd_patch.proofs.laws.paths_lead_back.Goals as goal

pub returns : goal.returns
returns c = λ g numbers s t G own h path k e l. path_back g numbers s t path k G (λ d. h d (own d)) e l
