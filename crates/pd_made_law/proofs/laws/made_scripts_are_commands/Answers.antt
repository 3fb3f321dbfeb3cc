use Rattle.pd_made_law.proofs.CommandLemmas.{cut_said, join_said, end_said}
use Rattle.pd_made_law.proofs.ScriptLemmas.{script_told}
use Rattle.pd_made_law.proofs.laws.made_scripts_are_commands.Goals as goal

pub returns-clause-records : goal.returns-clause-records
returns-clause-records c = script_told

pub returns-clause-cuts : goal.returns-clause-cuts
returns-clause-cuts c = cut_said

pub returns-clause-joins : goal.returns-clause-joins
returns-clause-joins c = join_said

pub returns-clause-ends : goal.returns-clause-ends
returns-clause-ends c = end_said
