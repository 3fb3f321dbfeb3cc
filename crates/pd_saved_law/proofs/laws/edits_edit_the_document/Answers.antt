use Rattle.pd_saved_law.proofs.EditLemmas.{edits_document}
use Rattle.pd_saved_law.proofs.laws.edits_edit_the_document.Goals as goal

pub returns : goal.returns
returns c = edits_document
