use Rattle.pd_turning.proofs.FollowLemmas.{told_follow}
use Rattle.pd_turning.proofs.laws.turning_wires_follow_fans.Goals as goal

pub returns : goal.returns
returns c = told_follow
