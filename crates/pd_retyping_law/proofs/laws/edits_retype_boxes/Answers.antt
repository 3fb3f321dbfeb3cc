use Rattle.pd_retyping_law.proofs.EditLemmas.{retyped_bare, text_again, text_document, text_kept, text_now, text_runs}
use Rattle.pd_retyping_law.proofs.laws.edits_retype_boxes.Goals as goal

pub returns-clause-bare : goal.returns-clause-bare
returns-clause-bare c = retyped_bare

pub returns-clause-kept : goal.returns-clause-kept
returns-clause-kept c = λ g h w numbers path canvas key number lib file t text n n' from after R A P. text_kept g h path canvas key number lib file t text n n' from after R A P w numbers

pub returns-clause-document : goal.returns-clause-document
returns-clause-document c = λ g h w numbers path canvas key number lib file t text n n' from after R A P keeps. text_document g h path canvas key number lib file t text n n' from after R A P w numbers keeps

pub returns-clause-runs : goal.returns-clause-runs
returns-clause-runs c = text_runs

pub returns-clause-again : goal.returns-clause-again
returns-clause-again c = text_again

pub returns-clause-now : goal.returns-clause-now
returns-clause-now c = λ g h w numbers path canvas key number lib file t text n n' from after R A P keeps. text_now g h path canvas key number lib file t text n n' from after R A P w numbers keeps
