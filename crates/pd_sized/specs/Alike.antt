-- When what boxes keep is of the same objects as before.
use Rattle.std.specs.Prelude.{◌≡◌, ℕ, Option, option_map}
use Rattle.pd_kind.specs.declared.states.State.{State}
use Rattle.pd_kind.specs.Fit.{blank}

-- what a box keeps is of the same objects as what it kept: only its values are others
abbrev pub IsAlike : State → State → Type 0
IsAlike old new = blank new ≡ blank old

-- so is what each box keeps, and one that kept nothing keeps nothing
abbrev pub AreAlike : (ℕ → Option State) → (ℕ → Option State) → Type 0
AreAlike old new = (k : ℕ) → option_map blank (new k) ≡ option_map blank (old k)
