use Rattle.pd_keeping_law.proofs.BlockLemmas.{block_runs}
use Rattle.pd_keeping_law.proofs.laws.blocks_change_boxes.Goals as goal

pub returns : goal.returns
returns c = block_runs
