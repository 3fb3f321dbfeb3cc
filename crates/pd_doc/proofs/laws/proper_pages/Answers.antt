use Rattle.pd_doc.proofs.ProperLaws.{proper_of_table}
use Rattle.pd_doc.proofs.laws.proper_pages.Goals as goal

pub returns : goal.returns
returns c = λ names p h. proper_of_table names p h
