use Rattle.pd_guards.proofs.BlockLemmas.{block_kept, block_sounds}
use Rattle.pd_guards.proofs.laws.blocks_stay_in_order.Goals as goal

pub returns-clause-kept : goal.returns-clause-kept
returns-clause-kept c = block_kept

pub returns-clause-sounds : goal.returns-clause-sounds
returns-clause-sounds c = block_sounds
