use Rattle.pd_proper_law.proofs.OwnLemmas.{written_settled}
use Rattle.pd_proper_law.proofs.laws.message_boxes_begin_settled.Goals as goal

pub returns : goal.returns
returns c = λ names p t table G made proper k w. written_settled names p.grove t table G made proper.sound.1 k w
