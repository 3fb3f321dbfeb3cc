use Rattle.pd_following.proofs.FeedLemmas.{feeds_raised}
use Rattle.pd_following.proofs.laws.feeds_stay_in_order.Goals as goal

pub returns : goal.returns
returns c = feeds_raised
