use Rattle.pd_wiring.proofs.FeedLemmas.{feeds_ordered, feeds_left}
use Rattle.pd_wiring.proofs.laws.feeds_stay_in_order.Goals as goal

pub returns-clause-more : goal.returns-clause-more
returns-clause-more c = feeds_ordered

pub returns-clause-less : goal.returns-clause-less
returns-clause-less c = feeds_left
