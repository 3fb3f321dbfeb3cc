use Rattle.pd_leaving.proofs.LawLemmas.{still_taken}
use Rattle.pd_leaving.proofs.laws.loss_room_changes_nothing.Goals as goal

pub returns : goal.returns
returns c = λ p q place key holder side port S C. still_taken p q place key holder side port S C
