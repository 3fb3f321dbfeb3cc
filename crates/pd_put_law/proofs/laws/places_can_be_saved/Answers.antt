use Rattle.pd_put_law.proofs.WrittenLemmas.{box_proper, box_contents}
use Rattle.pd_put_law.proofs.laws.places_can_be_saved.Goals as goal

pub returns-clause-proper : goal.returns-clause-proper
returns-clause-proper c = λ old new number n name path now e k after b t later x can r a on table few h. box_proper old new number n name path now e k after b x can t r a later on table few h

pub returns-clause-contents : goal.returns-clause-contents
returns-clause-contents c = λ old new number n name path now e k after b t x can r a h. box_contents old new number n name path now e k after b x can t r a h
