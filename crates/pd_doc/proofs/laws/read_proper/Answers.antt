use Rattle.pd_doc.proofs.GoodLaws.{read_is}
use Rattle.pd_doc.proofs.laws.read_proper.Goals as goal

pub returns-clause-proper : goal.returns-clause-proper
returns-clause-proper c = λ names names' p text t h. (read_is names names' p text t h).proper

pub returns-clause-table : goal.returns-clause-table
returns-clause-table c = λ names names' p text t h. (read_is names names' p text t h).table
