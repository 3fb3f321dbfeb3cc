use Rattle.pd_sound_law.proofs.ReadyLemmas.{all_wires, grown_few}
use Rattle.pd_sound_law.proofs.laws.all_wires_are_summed.Goals as goal

pub returns-clause-few : goal.returns-clause-few
returns-clause-few c = all_wires

pub returns-clause-grown : goal.returns-clause-grown
returns-clause-grown c = grown_few
