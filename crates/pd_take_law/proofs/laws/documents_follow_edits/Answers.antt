use Rattle.pd_taking_law.proofs.PageLemmas.{document_less}
use Rattle.pd_take_law.proofs.DeletedLemmas.{cleared_went}
use Rattle.pd_take_law.proofs.GoneLemmas.{wires_gone}
use Rattle.pd_take_law.proofs.PortLemmas.{port_document, port_inside}
use Rattle.pd_take_law.proofs.laws.documents_follow_edits.Goals as goal

pub returns-clause-deleted : goal.returns-clause-deleted
returns-clause-deleted c = λ old new n table path number steps steps' b X C meet.
    let D = cleared_went old new n table path number steps steps' b X C in
    document_less old.grove new.grove old.web new.web old.numbers.items new.numbers.items path b.canvas b.key number D.at (wires_gone old new path b.canvas b.key number X.cleared.part D C)

pub returns-clause-port : goal.returns-clause-port
returns-clause-port c = port_document

pub returns-clause-inside : goal.returns-clause-inside
returns-clause-inside c = λ old new n table path number steps steps' b X C. port_inside old new n table path number steps steps' b X
