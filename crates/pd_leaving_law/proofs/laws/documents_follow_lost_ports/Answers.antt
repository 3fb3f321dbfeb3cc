use Rattle.pd_leaving_law.proofs.DocumentLemmas.{port_gone, takes_at}
use Rattle.pd_leaving_law.proofs.laws.documents_follow_lost_ports.Goals as goal

pub returns-clause-page : goal.returns-clause-page
returns-clause-page c = λ p q table place key holder side port steps steps' path n t C I W G leads. port_gone p q table place key holder side port steps steps' C I W path n t G leads

pub returns-clause-taken : goal.returns-clause-taken
returns-clause-taken c = λ p q table place key holder side port steps steps' inner C I leads. takes_at p q table place key holder side port steps steps' C I inner leads
