use Rattle.pd_patch.proofs.FedLemmas.{laid_fed}
use Rattle.pd_patch.proofs.growing.web_of.Goals as goal

pub returns-in-Ok-clause-fed : goal.returns-in-Ok-clause-fed
returns-in-Ok-clause-fed c = laid_fed c.args.grove.now c.in-Ok.web c.in-Ok.ensures.feeds c.in-Ok.ensures.few c.laws.ensures.feeds c.laws.ensures.once_fed
