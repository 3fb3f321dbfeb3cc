use Rattle.std.proofs.Common.{sym}
use Rattle.pd_owning.proofs.BoundLemmas.{never_dead}
use Rattle.pd_owning.proofs.bound.is_ahead.Goals as goal

pub returns-in-None-clause-behind : goal.returns-in-None-clause-behind
returns-in-None-clause-behind c = λ P. absurd (never_dead c.args.grove.now P.second c.args.owner P.other_at (sym c.in-None.ensures))
