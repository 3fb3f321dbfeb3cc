use Rattle.pd_sized.proofs.AlikeBlockLemmas.{block_alike}
use Rattle.pd_sized.proofs.laws.blocks_keep_objects.Goals as goal

pub returns : goal.returns
returns c = block_alike
