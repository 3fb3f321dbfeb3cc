use Rattle.pd_guards.proofs.ToldLemmas.{orders_few}
use Rattle.pd_guards.proofs.laws.orders_are_short.Goals as goal

pub returns : goal.returns
returns c = λ lib name root before names n rate p tree fresh path c o leads order. orders_few lib name root before names n rate p tree fresh path c o leads order
