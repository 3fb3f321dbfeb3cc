use Rattle.pd_naming.proofs.ArgumentLemmas.{arguments_fewer}
use Rattle.pd_naming.proofs.arguments.arguments.Goals as goal

pub returns-clause-few : goal.returns-clause-few
returns-clause-few c = arguments_fewer c.loop-atom.list.items c.args.atoms.now c.loop-atom.atom-index c.loop-atom.invariant
