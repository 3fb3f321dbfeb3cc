use Rattle.pd_putting.specs.Adds.{next_number}
use Rattle.pd_put_law.proofs.LastLemmas.{adds_at, last_proper}
use Rattle.pd_put_law.proofs.WrittenLemmas.{box_contents}
use Rattle.pd_put_law.proofs.laws.boxes_can_be_saved.Goals as goal

pub returns-clause-proper : goal.returns-clause-proper
returns-clause-proper c = λ old new n name path now e k after b t later x can r a on table few h. last_proper old new n name path now e k after b x can t r a later on table few h

pub returns-clause-contents : goal.returns-clause-contents
returns-clause-contents c = λ old new n name path now e k after b t x can r a h. box_contents old new (next_number old x.added) n name path now e k after b (adds_at old new n name path now e k after b x) can t r a h
