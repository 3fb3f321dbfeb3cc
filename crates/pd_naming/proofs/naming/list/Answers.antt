use Rattle.std.proofs.Common.{◌∙◌}
use Rattle.pd_naming.proofs.ArgumentLemmas.{arguments_kept}
use Rattle.pd_naming.proofs.naming.list.Goals as goal

pub list_glue-requires-clause-atoms : goal.list_glue-requires-clause-atoms
list_glue-requires-clause-atoms c = arguments_kept c.args.symbols.now c.args.atoms.now c.as_slice.result.now (c.as_slice.ensures.value ∙ c.in_ok-arguments.ensures.items) c.requires.atoms
