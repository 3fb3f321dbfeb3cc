use Rattle.pd_retyping_law.proofs.PageLemmas.{document_renamed}
use Rattle.pd_retyping_law.proofs.renames.documents_follow_renames.Goals as goal

pub returns : goal.returns
returns c = λ g h w numbers path canvas key number n n' text B pd head. document_renamed g h path canvas key number n n' B w numbers text pd head
