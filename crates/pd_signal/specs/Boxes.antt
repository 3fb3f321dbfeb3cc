-- Boxes that run for a block of 64 samples.
use Rattle.std.specs.Prelude.{◌≡◌, ℕ, ℤ, ◌^◌, ◌<◌, ◌≤◌, List, [], length, slice_index_or, slice_set}
use Rattle.pd_object.specs.declared.kinds.Kind.{Kind}
use Rattle.pd_kind.specs.declared.states.State.{State}
use Rattle.pd_kind.specs.declared.states.State.TheVariants as state
use Rattle.pd_object.specs.Ports.{ports_of}

-- what a box keeps once it has run, and the blocks of its signal outlets
pub record Ran : Type 0 where
  pub state : State
  pub outs : List (List ℤ)

-- it keeps this, and gives a block at its outlet
abbrev pub gives : State → List (List ℤ) → List ℤ → Ran
gives s outs block = record { state = s; outs = slice_set outs 0 block }

-- it keeps this, and its outlets stay
abbrev pub keeps : State → List (List ℤ) → Ran
keeps s outs = record { state = s; outs = outs }

-- the block of a signal inlet
abbrev pub inlet : List (List ℤ) → ℕ → List ℤ
inlet ins i = slice_index_or ins i []

-- there is a block for each signal inlet and for each signal outlet
pub record HasBlocks (kind : Kind) (ins outs : List (List ℤ)) : Type 0 where
  pub inlets : length ins ≡ (ports_of kind).signal_inlets
  pub outlets : length outs ≡ (ports_of kind).signal_outlets

-- a ring has room for a block, and the place of the next sample is in it
abbrev pub IsRing : List ℤ → ℕ → Type 0
IsRing ring next = (64 ≤ length ring) × (next < length ring) × (length ring ≤ 2 ^ 32)

-- what a box keeps has the sizes that it was made with
abbrev pub IsSized : State → Type 0
IsSized (state.Delwrite held ring next ran) = IsRing ring next
IsSized (state.SignalSend held block) = length block ≡ 64
IsSized (state.Catch sum) = length sum ≡ 64
IsSized _ = Unit {0}
