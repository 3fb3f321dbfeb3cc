use Rattle.std.proofs.Common.{sym, subst}
use Rattle.pd_gather.specs.Gather.{AreProper}
use Rattle.pd_gather.proofs.SuitLemmas.{still_found, found_more}
use Rattle.pd_gather.proofs.learning.learn.Goals as goal

pub returns-clause-found : goal.returns-clause-found
returns-clause-found g c =
    subst (λ files. AreProper c.answer.new.symbols files) (sym c.in_ok-learn.ensures.ok)
    (found_more c.answer.new.symbols c.args.files.now (c.args.name, c.in_ok-answer.answer)
    (still_found c.args.symbols.now c.answer.new.symbols c.answer.ensures.extends c.fetch_by_name.ensures.table c.answer.ensures.table c.args.files.now c.requires.found)
    c.in_ok-answer.ensures.proper)
