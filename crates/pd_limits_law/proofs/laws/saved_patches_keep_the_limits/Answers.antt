use Rattle.slab.specs.Slab.{get}
use Rattle.pd_web.specs.Canvases.{keys_at}
use Rattle.pd_alike_law.proofs.SoundLemmas.{deep_stay}
use Rattle.pd_limits_law.proofs.CountLemmas.{few_fit}
use Rattle.pd_limits_law.proofs.SoundLemmas.{same_sound}
use Rattle.pd_limits_law.proofs.laws.saved_patches_keep_the_limits.Goals as goal

pub returns-clause-wires : goal.returns-clause-wires
returns-clause-wires c = few_fit

pub returns-clause-depth : goal.returns-clause-depth
returns-clause-depth c = λ p t. deep_stay p.web p.numbers.items (get p.grove.nodes) (get p.grove.boards) (keys_at p.grove p.grove.root) t.boxes

pub returns-clause-sound : goal.returns-clause-sound
returns-clause-sound c = same_sound
