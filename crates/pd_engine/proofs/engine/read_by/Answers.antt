use Rattle.pd_script.specs.Tokens.{tokens_of}
use Rattle.pd_engine.proofs.RewireLemmas.{read_more}
use Rattle.pd_engine.proofs.engine.read_by.Goals as goal

pub returns-clause-extends : goal.returns-clause-extends
returns-clause-extends c =
    read_more c.read_command-read.result c.args.symbols.now c.read_command-read.new.symbols (tokens_of c.args.bytes.now)
    (λ ms s is. (c.tables_go_on.ensures c.args.symbols.now c.read_command-read.new.symbols (tokens_of c.args.bytes.now) ms s is).0)
    c.read_command-read.ensures.exact c.read_command-read.ensures.refused
