use Rattle.pd_block.specs.Blocks.{block_of}
use Rattle.pd_keeping_law.proofs.BlockLemmas.{block_runs}
use Rattle.pd_bounds_law.proofs.RunLemmas.{all_run-bounded}
use Rattle.pd_bounds_law.proofs.laws.blocks_keep_bounds.Goals as goal

pub returns : goal.returns
returns c = λ net start s a. record { each = all_run-bounded s.states (block_of net s start).sound.states (block_runs net start s) a.each }
