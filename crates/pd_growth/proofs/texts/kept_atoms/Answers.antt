use Rattle.pd_growth.proofs.TextLemmas.{arguments_fewer}
use Rattle.pd_growth.proofs.texts.kept_atoms.Goals as goal

pub returns-clause-few : goal.returns-clause-few
returns-clause-few c = arguments_fewer c.loop-atom.list.items c.args.atoms.now c.loop-atom.atom-index c.loop-atom.invariant
