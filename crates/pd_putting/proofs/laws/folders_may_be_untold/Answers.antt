use Rattle.pd_putting.proofs.UntoldLemmas.{adds_untold, not_put_untold, short_untold}
use Rattle.pd_putting.proofs.laws.folders_may_be_untold.Goals as goal

pub returns-clause-adds : goal.returns-clause-adds
returns-clause-adds c = λ holds old new n name path now e k after b x. adds_untold holds old new n name path now e k after b x

pub returns-clause-not_put : goal.returns-clause-not_put
returns-clause-not_put c = λ holds p n name path e k why h. not_put_untold holds p n name path e k why h

pub returns-clause-short : goal.returns-clause-short
returns-clause-short c = λ holds old new n name path e k s. short_untold holds old n name path e k new s
