use Rattle.pd_renaming.proofs.PatchLemmas.{still_built, still_meet}
use Rattle.pd_renaming.proofs.laws.patches_run_on_renamed.Goals as goal

pub returns-clause-meet : goal.returns-clause-meet
returns-clause-meet c = still_meet

pub returns-clause-built : goal.returns-clause-built
returns-clause-built c = still_built
