use Rattle.std.proofs.Common.{◌≡◌, true}
use Rattle.pd_contents_law.proofs.BlockLemmas.{block_kept}
use Rattle.pd_contents_law.proofs.laws.blocks_keep_contents.Goals as goal

pub returns : goal.returns
returns c = λ own counts names net start s a. block_kept (λ k. own k ≡ true) counts names net start s a
