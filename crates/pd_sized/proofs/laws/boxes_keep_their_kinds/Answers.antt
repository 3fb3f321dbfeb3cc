use Rattle.pd_walk.specs.Outcome.{outcome}
use Rattle.pd_block.specs.Blocks.{block_of}
use Rattle.pd_sized.proofs.AlikeRunLemmas.{outcome_alike, left_alike}
use Rattle.pd_sized.proofs.AlikeBlockLemmas.{block_alike}
use Rattle.pd_sized.proofs.KindLemmas.{made_of_kind, kinds_last}
use Rattle.pd_sized.proofs.laws.boxes_keep_their_kinds.Goals as goal

pub returns-clause-made : goal.returns-clause-made
returns-clause-made c = made_of_kind

pub returns-clause-lasts : goal.returns-clause-lasts
returns-clause-lasts c = kinds_last

pub returns-clause-delivery : goal.returns-clause-delivery
returns-clause-delivery c = λ kinds net now w s h. kinds_last kinds w.kept.states (outcome net now w s).kept.states h (outcome_alike net now w s)

pub returns-clause-left : goal.returns-clause-left
returns-clause-left c = λ kinds net now before after budget rest s old new h left. kinds_last kinds before.states after.states h (left_alike net now before after budget rest s old new left)

pub returns-clause-block : goal.returns-clause-block
returns-clause-block c = λ kinds net start s h. kinds_last kinds s.states (block_of net s start).sound.states h (block_alike net start s)
