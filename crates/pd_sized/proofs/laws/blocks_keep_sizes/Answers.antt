use Rattle.pd_sized.proofs.BlockLemmas.{block_whole}
use Rattle.pd_sized.proofs.laws.blocks_keep_sizes.Goals as goal

pub returns : goal.returns
returns c = block_whole
