use Rattle.pd_canvas.proofs.SoundLemmas.{sound_along}
use Rattle.pd_canvas.proofs.laws.edits_keep_proper.Goals as goal

pub returns : goal.returns
returns c = λ names e path p h f b l. record { sound = sound_along names e path p h.sound f b; limits = l }
