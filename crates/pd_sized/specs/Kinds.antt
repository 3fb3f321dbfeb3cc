-- When what boxes keep is of their kinds.
use Rattle.std.specs.Prelude.{◌≡◌, ℕ, Option, option_map}
use Rattle.slab.specs.Slab.{get}
use Rattle.pd_clock.specs.declared.times.Rate.TheVariants.{R44100}
use Rattle.pd_object.specs.declared.kinds.Kind.{Kind}
use Rattle.pd_kind.specs.declared.states.State.{State}
use Rattle.pd_kind.specs.Fit.{blank}
use Rattle.pd_kind.specs.States.{start_of}
use Rattle.pd_grove.specs.Telling.{kind_in}
use Rattle.pd_patch.specs.declared.patch.Patch.{Patch}

-- the kinds of the boxes of a patch, by their keys
abbrev pub kinds_of : Patch → ℕ → Option Kind
kinds_of p k = kind_in (get p.grove.nodes k)

-- the objects that a kind keeps at first, without their values
abbrev pub blank_of : Kind → State
blank_of k = blank (start_of k R44100)

-- each box keeps the objects that its kind keeps at first, whatever their values, and under a key without a box nothing is kept
abbrev pub KeepsOfKind : (ℕ → Option Kind) → (ℕ → Option State) → Type 0
KeepsOfKind kinds states = (k : ℕ) → option_map blank (states k) ≡ option_map blank_of (kinds k)
