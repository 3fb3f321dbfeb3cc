use Rattle.pd_reload_law.proofs.EditLemmas.{document_edited}
use Rattle.pd_reload_law.proofs.laws.documents_follow_wires.Goals as goal

pub returns : goal.returns
returns c = document_edited
