use Rattle.pd_putting_law.proofs.GrownLemmas.{put_bare, new_grown, put_kept, put_document, put_runs, put_again, put_now}
use Rattle.pd_putting_law.proofs.laws.edits_put_boxes.Goals as goal

pub returns-clause-bare : goal.returns-clause-bare
returns-clause-bare c = put_bare

pub returns-clause-new : goal.returns-clause-new
returns-clause-new c = new_grown

pub returns-clause-kept : goal.returns-clause-kept
returns-clause-kept c = put_kept

pub returns-clause-document : goal.returns-clause-document
returns-clause-document c = put_document

pub returns-clause-runs : goal.returns-clause-runs
returns-clause-runs c = put_runs

pub returns-clause-again : goal.returns-clause-again
returns-clause-again c = put_again

pub returns-clause-now : goal.returns-clause-now
returns-clause-now c = put_now
