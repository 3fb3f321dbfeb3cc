use Rattle.pd_inside_law.proofs.WayLemmas.{same_paths}
use Rattle.pd_inside_law.proofs.laws.opened_patches_have_the_canvases.Goals as goal

pub returns : goal.returns
returns c = same_paths
