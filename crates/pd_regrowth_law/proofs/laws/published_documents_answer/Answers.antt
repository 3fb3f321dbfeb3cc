use Rattle.pd_regrowth_law.proofs.ChangeLemmas.{alike_published, library_published}
use Rattle.pd_regrowth_law.proofs.laws.published_documents_answer.Goals as goal

pub returns-clause-others : goal.returns-clause-others
returns-clause-others c = alike_published

pub returns-clause-library : goal.returns-clause-library
returns-clause-library c = library_published
