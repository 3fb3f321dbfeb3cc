use Rattle.pd_sound_law.proofs.ReadyLemmas.{standing_free}
use Rattle.pd_sound_law.proofs.laws.patches_play_freely.Goals as goal

pub returns : goal.returns
returns c = λ p names file rate t clocks s start levels stands low built few fed l kept whole blocks ended top.
    standing_free p names file rate t stands low built few fed clocks s start levels l kept whole blocks ended top
