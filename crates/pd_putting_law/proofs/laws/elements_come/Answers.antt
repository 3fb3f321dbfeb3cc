use Rattle.pd_putting_law.proofs.GrownLemmas.{come_again, come_document, come_kept, come_now, come_runs}
use Rattle.pd_putting_law.proofs.laws.elements_come.Goals as goal

pub returns-clause-kept : goal.returns-clause-kept
returns-clause-kept c = come_kept

pub returns-clause-document : goal.returns-clause-document
returns-clause-document c = come_document

pub returns-clause-runs : goal.returns-clause-runs
returns-clause-runs c = come_runs

pub returns-clause-again : goal.returns-clause-again
returns-clause-again c = come_again

pub returns-clause-now : goal.returns-clause-now
returns-clause-now c = come_now
