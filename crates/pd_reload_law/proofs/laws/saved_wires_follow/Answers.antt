use Rattle.pd_reload_law.proofs.FollowLemmas.{join_follows, join_elsewhere, cut_follows, cut_elsewhere}
use Rattle.pd_reload_law.proofs.laws.saved_wires_follow.Goals as goal

pub returns-clause-joined : goal.returns-clause-joined
returns-clause-joined c = join_follows

pub returns-clause-joined_elsewhere : goal.returns-clause-joined_elsewhere
returns-clause-joined_elsewhere c = join_elsewhere

pub returns-clause-cut : goal.returns-clause-cut
returns-clause-cut c = cut_follows

pub returns-clause-cut_elsewhere : goal.returns-clause-cut_elsewhere
returns-clause-cut_elsewhere c = cut_elsewhere
