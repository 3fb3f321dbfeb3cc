use Rattle.std.proofs.Common.{◌≡◌, ◌≤◌, ℕ, arith}
use Rattle.pd_patch.specs.Sounds.{sound_of}
use Rattle.pd_alike_law.specs.Alike.{now_of}
use Rattle.pd_limits_law.proofs.CountLemmas.{few_fit}
use Rattle.pd_limits_law.proofs.SoundLemmas.{same_sound, memory_alone}
use Rattle.pd_limits_law.proofs.laws.saved_patches_are_refused_for_memory_alone.Goals as goal

as_few : (a b c : ℕ) → a ≡ b → b ≤ c → a ≤ c
as_few a b c e l = omega (arith, e, l)

pub returns : goal.returns
returns c = λ p t names rate s rest why runs made sound r once inside few saves is cause.
    memory_alone rate s (now_of p t) rest why is (few_fit p t runs r once inside few)
    (as_few (sound_of rate (now_of p t).boxes) (sound_of rate t.boxes) 16777216 (same_sound p t names rate runs made saves) sound) cause
