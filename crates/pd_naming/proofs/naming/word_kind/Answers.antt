use Rattle.pd_naming.proofs.ArgumentLemmas.{arguments_kept}
use Rattle.pd_naming.proofs.naming.word_kind.Goals as goal

pub listed_kind-requires-clause-atoms : goal.listed_kind-requires-clause-atoms
listed_kind-requires-clause-atoms c = arguments_kept c.args.symbols.now c.args.atoms.now c.in_ok-arguments.arguments.items c.in_ok-arguments.ensures.items c.requires.atoms
