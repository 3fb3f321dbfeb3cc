use Rattle.pd_ends_law.proofs.BlockLemmas.{block_open}
use Rattle.pd_ends_law.proofs.laws.blocks_end.Goals as goal

pub returns : goal.returns
returns c = λ net start later s kinds l a. record { each = block_open net start later s kinds l a.each }
