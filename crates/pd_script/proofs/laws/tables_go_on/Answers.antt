use Rattle.pd_script.proofs.OriginLemmas.{read_from}
use Rattle.pd_script.proofs.laws.tables_go_on.Goals as goal

pub returns : goal.returns
returns c = λ names after tokens ms s e. read_from names after tokens ms s e
