use Rattle.pd_reload_law.proofs.FreshLemmas.{fresh_savable}
use Rattle.pd_reload_law.proofs.laws.first_states_are_savable.Goals as goal

pub returns : goal.returns
returns c = fresh_savable
