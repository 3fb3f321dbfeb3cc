use Rattle.pd_patch.proofs.BuiltLemmas.{is_built, is_at_start}
use Rattle.pd_patch.proofs.laws.what_grows_is_built.Goals as goal

pub returns-clause-built : goal.returns-clause-built
returns-clause-built c = is_built

pub returns-clause-start : goal.returns-clause-start
returns-clause-start c = is_at_start
