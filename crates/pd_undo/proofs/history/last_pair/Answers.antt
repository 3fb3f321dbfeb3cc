use Rattle.std.proofs.Common.{refl}
use Rattle.pd_undo.proofs.HistoryLemmas.{last_none}
use Rattle.pd_undo.proofs.history.last_pair.Goals as goal

pub returns-in-None-clause-empty : goal.returns-in-None-clause-empty
returns-in-None-clause-empty c = (λ _. last_none c.args.list.now.items c.in-None.ensures, λ _. refl)
