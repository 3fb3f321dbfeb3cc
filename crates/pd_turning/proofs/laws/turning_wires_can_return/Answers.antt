use Rattle.pd_turning.proofs.LawLemmas.{can_return}
use Rattle.pd_turning.proofs.laws.turning_wires_can_return.Goals as goal

pub returns : goal.returns
returns c = λ p free q table canvas key steps steps' n s notes runs meet wired once here wires noted loosens sheds can refitted room.
    can_return p free q table key steps steps' n s loosens refitted canvas notes runs meet wired once here wires noted sheds can room
