use Rattle.pd_reload_law.proofs.ReloadLemmas.{document_grows, document_opens}
use Rattle.pd_reload_law.proofs.laws.saved_documents_grow_again.Goals as goal

pub returns-clause-own : goal.returns-clause-own
returns-clause-own c = document_grows

pub returns-clause-opened : goal.returns-clause-opened
returns-clause-opened c = document_opens
