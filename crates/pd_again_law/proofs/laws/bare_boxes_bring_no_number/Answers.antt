use Rattle.pd_again_law.proofs.PutLemmas.{no_numbers}
use Rattle.pd_again_law.proofs.laws.bare_boxes_bring_no_number.Goals as goal

pub returns : goal.returns
returns c = λ s path e m bare x. no_numbers x.old x.new s.time x.adds.added x.box.key x.adds.put (bare x)
