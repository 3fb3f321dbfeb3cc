use Rattle.pd_reload_law.proofs.LaidLemmas.{laid_saved, fitting_saved}
use Rattle.pd_reload_law.proofs.laws.laid_wires_are_saved.Goals as goal

pub returns-clause-laid : goal.returns-clause-laid
returns-clause-laid c = laid_saved

pub returns-clause-fitting : goal.returns-clause-fitting
returns-clause-fitting c = fitting_saved
