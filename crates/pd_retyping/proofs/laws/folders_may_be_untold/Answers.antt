use Rattle.pd_retyping.proofs.UntoldLemmas.{refused_untold, retypes_untold, short_untold}
use Rattle.pd_retyping.proofs.laws.folders_may_be_untold.Goals as goal

pub returns-clause-retypes : goal.returns-clause-retypes
returns-clause-retypes c = retypes_untold

pub returns-clause-refused : goal.returns-clause-refused
returns-clause-refused c = refused_untold

pub returns-clause-short : goal.returns-clause-short
returns-clause-short c = short_untold
