use Rattle.pd_web.specs.Hops.{fan_hops}
use Rattle.pd_taking_law.proofs.PageLemmas.{document_less, cut_before}
use Rattle.pd_taking_law.proofs.WireLemmas.{none_gone}
use Rattle.pd_taking_law.proofs.laws.documents_follow_deletes.Goals as goal

pub returns-clause-deleted : goal.returns-clause-deleted
returns-clause-deleted c = document_less

pub returns-clause-gone : goal.returns-clause-gone
returns-clause-gone c = λ w key k outlet h. none_gone key (fan_hops w k outlet) h

pub returns-clause-cut : goal.returns-clause-cut
returns-clause-cut c = cut_before
