use Rattle.pd_shifted_law.proofs.PageLemmas.{document_moved}
use Rattle.pd_shifted_law.proofs.laws.documents_follow_moves.Goals as goal

pub returns : goal.returns
returns c = λ old new path number x y b M C. document_moved old new path number x y b M C
