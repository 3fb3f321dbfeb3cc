use Rattle.pd_sound_law.proofs.ReadyLemmas.{ready_built, ready_grown, ready_lasts, ready_on}
use Rattle.pd_sound_law.proofs.laws.patches_stay_ready.Goals as goal

pub returns-clause-stands : goal.returns-clause-stands
returns-clause-stands c = λ p names file rate clocks s built few fed kept whole blocks. ready_built p names file rate built few fed clocks s kept whole blocks

pub returns-clause-lasts : goal.returns-clause-lasts
returns-clause-lasts c = ready_lasts

pub returns-clause-block : goal.returns-clause-block
returns-clause-block c = ready_on

pub returns-clause-grown : goal.returns-clause-grown
returns-clause-grown c = ready_grown
