use Rattle.std.proofs.Common.{◌≡◌, true}
use Rattle.pd_contents_law.proofs.RunLemmas.{kind_kept, outcome_kept}
use Rattle.pd_contents_law.proofs.laws.messages_keep_contents.Goals as goal

pub returns-clause-hearing : goal.returns-clause-hearing
returns-clause-hearing c = λ count names k s inlet selector atoms now table six m h. kind_kept count names six s inlet selector atoms now table m h k

pub returns-clause-delivery : goal.returns-clause-delivery
returns-clause-delivery c = λ own counts net now w s h k six a. outcome_kept (λ j. own j ≡ true) counts net now w s h k six a
