use Rattle.pd_retyping_law.proofs.PageLemmas.{document_replaced, document_edited, document_retyped}
use Rattle.pd_retyping_law.proofs.laws.documents_follow_retypes.Goals as goal

pub returns-clause-replaced : goal.returns-clause-replaced
returns-clause-replaced c = λ g h w numbers path canvas key number n n' e B S. document_replaced g h path canvas key number n n' B w numbers e S

pub returns-clause-edited : goal.returns-clause-edited
returns-clause-edited c = λ g h w numbers path canvas key number n n' text e B S T. document_edited g h path canvas key number n n' B w numbers text e S T

pub returns-clause-element : goal.returns-clause-element
returns-clause-element c = λ g h w numbers path canvas key number n n' text B can T. document_retyped g h path canvas key number n n' B w numbers text can T
