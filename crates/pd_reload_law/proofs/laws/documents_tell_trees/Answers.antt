use Rattle.pd_reload_law.proofs.NowLemmas.{document_told, tree_zeros, tree_weight}
use Rattle.pd_reload_law.proofs.MadeLemmas.{patch_made}
use Rattle.pd_reload_law.proofs.laws.documents_tell_trees.Goals as goal

pub returns-clause-document : goal.returns-clause-document
returns-clause-document c = λ g web numbers t r m. document_told g web numbers t r.stands r.savable m r.shallow

pub returns-clause-made : goal.returns-clause-made
returns-clause-made c = patch_made

pub returns-clause-numbers : goal.returns-clause-numbers
returns-clause-numbers c = tree_zeros

pub returns-clause-weight : goal.returns-clause-weight
returns-clause-weight c = tree_weight
