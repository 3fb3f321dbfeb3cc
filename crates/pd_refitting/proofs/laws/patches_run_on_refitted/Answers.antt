use Rattle.pd_refitting.proofs.BoxLemmas.{still_put}
use Rattle.pd_refitting.proofs.BuiltLemmas.{still_built}
use Rattle.pd_refitting.proofs.WireLemmas.{meet_by}
use Rattle.pd_refitting.proofs.laws.patches_run_on_refitted.Goals as goal

pub returns-clause-can : goal.returns-clause-can
returns-clause-can c = still_put

pub returns-clause-meet : goal.returns-clause-meet
returns-clause-meet c = λ p q table key n s R meet. meet_by p.web q.web R.ports.fans R.ports.feeds meet

pub returns-clause-built : goal.returns-clause-built
returns-clause-built c = still_built
