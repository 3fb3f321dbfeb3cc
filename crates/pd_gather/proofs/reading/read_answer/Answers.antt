use Rattle.pd_doc.proofs.GoodLaws.{read_is}
use Rattle.pd_gather.proofs.reading.read_answer.Goals as goal

pub returns-in-Ok-clause-table : goal.returns-in-Ok-clause-table
returns-in-Ok-clause-table c = (read_is c.args.symbols.now c.read.new.symbols c.in-Ok.doc.root c.args.bytes.now c.requires.table c.in-Ok.ensures.exact).table
