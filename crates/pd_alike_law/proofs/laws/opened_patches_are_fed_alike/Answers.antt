use Rattle.pd_alike_law.proofs.FeedLemmas.{feeds_alike}
use Rattle.pd_alike_law.proofs.laws.opened_patches_are_fed_alike.Goals as goal

pub returns : goal.returns
returns c = feeds_alike
