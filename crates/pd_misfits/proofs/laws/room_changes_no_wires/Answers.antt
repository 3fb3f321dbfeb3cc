use Rattle.pd_misfits.specs.declared.wires.Fate.TheVariants.{Goes, Turns}
use Rattle.pd_misfits.proofs.SameLemmas.{picked_still, sheds_since, wires_still}
use Rattle.pd_misfits.proofs.laws.room_changes_no_wires.Goals as goal

pub returns-clause-misfits : goal.returns-clause-misfits
returns-clause-misfits c = picked_still Goes

pub returns-clause-turning : goal.returns-clause-turning
returns-clause-turning c = picked_still Turns

pub returns-clause-wires : goal.returns-clause-wires
returns-clause-wires c = wires_still

pub returns-clause-sheds : goal.returns-clause-sheds
returns-clause-sheds c = sheds_since
