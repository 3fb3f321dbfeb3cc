use Rattle.pd_num.proofs.ReadLemmas.{read_found, read_only}
use Rattle.pd_num.proofs.numbers.Num.read.Goals as goal

pub returns-clause-found : goal.returns-clause-found
returns-clause-found c = read_found c.args.token.now c.parse.result c.parse.ensures

pub returns-clause-only : goal.returns-clause-only
returns-clause-only c = read_only c.args.token.now c.parse.result c.parse.ensures
