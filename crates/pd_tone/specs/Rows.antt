-- What a block of `phasor~`, `osc~` and `noise~` gives, and what the box keeps after it.
use Rattle.std.specs.Prelude.{ℕ, ℤ, List, [], ◌∷◌, map}
use Rattle.pd_clock.specs.declared.times.Rate.{Rate}
use Rattle.pd_clock.specs.Rates.{samples}
use Rattle.pd_object.specs.declared.kinds.Kind.{Kind}
use Rattle.pd_object.specs.declared.kinds.Kind.TheVariants as kind
use Rattle.pd_object.specs.declared.kinds.Tone.{Tone}
use Rattle.pd_object.specs.declared.kinds.Tone.TheVariants as tone
use Rattle.pd_kind.specs.declared.states.State.{State}
use Rattle.pd_kind.specs.declared.states.State.TheVariants as state
use Rattle.pd_tone.specs.Cosine.{cosine}
use Rattle.pd_tone.specs.Tones.{circle, phases, phase_after, share, seeds, seed_after, noise}

-- what the box keeps, and the blocks of its outlets
pub record Ran : Type 0 where
  pub state : State
  pub outs : List (List ℤ)

-- a phasor gives the share of the circle before each phase
abbrev pub phasor_row : ℤ → ℕ → Rate → List ℤ → Ran
phasor_row held p rate input =
    record { state = state.Phasor held (phase_after (circle rate) p input) rate; outs = map (share (samples rate)) (phases (circle rate) p input) ∷ [] }

-- an oscillator gives the cosine at each phase
abbrev pub osc_row : ℤ → ℕ → Rate → List ℤ → Ran
osc_row held p rate input =
    record { state = state.Osc held (phase_after (circle rate) p input) rate; outs = map (cosine (circle rate)) (phases (circle rate) p input) ∷ [] }

-- noise gives the next 64 numbers
abbrev pub noise_row : ℕ → Ran
noise_row s = record { state = state.Noise (seed_after 64 s); outs = map noise (seeds 64 s) ∷ [] }

-- a box of each kind, with the blocks of its inlets and what its outlets had; other kinds and other states change nothing
unfoldable pub tone_row : Tone → State → List (List ℤ) → List (List ℤ) → Ran
tone_row (tone.Phasor z) (state.Phasor held p rate) (input ∷ []) (out ∷ []) = phasor_row held p rate input
tone_row (tone.Osc z) (state.Osc held p rate) (input ∷ []) (out ∷ []) = osc_row held p rate input
tone_row tone.Noise (state.Noise s) [] (out ∷ []) = noise_row s
tone_row t s ins outs = record { state = s; outs = outs }

unfoldable pub row : Kind → State → List (List ℤ) → List (List ℤ) → Ran
row (kind.Tone t) s ins outs = tone_row t s ins outs
row k s ins outs = record { state = s; outs = outs }
