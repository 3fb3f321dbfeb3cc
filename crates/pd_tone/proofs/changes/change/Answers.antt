use Rattle.pd_tone.proofs.Turning.{change_at, change_small}
use Rattle.pd_tone.proofs.changes.change.Goals as goal

pub returns-clause-value : goal.returns-clause-value
returns-clause-value c = rw c.entry.ensures (change_at c.args.k c.requires)

pub returns-clause-small : goal.returns-clause-small
returns-clause-small c = rw c.entry.ensures (change_small c.args.k c.requires)
