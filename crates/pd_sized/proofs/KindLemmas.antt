-- What boxes keep is of their kinds.
use Rattle.std.proofs.Common.{◌≡◌, ℕ, Option, Some, None, option_map, refl, ap, ◌∙◌}
use Rattle.slab.specs.Slab.{get}
use Rattle.pd_clock.specs.declared.times.Rate.{Rate}
use Rattle.pd_clock.specs.declared.times.Rate.TheVariants.{R44100}
use Rattle.pd_object.specs.declared.kinds.Kind.{Kind}
use Rattle.pd_object.specs.declared.kinds.Kind.TheVariants as kind
use Rattle.pd_object.specs.declared.kinds.Arith.{Arith}
use Rattle.pd_object.specs.declared.kinds.Arith.TheVariants as arith_kind
use Rattle.pd_object.specs.declared.kinds.Glue.{Glue}
use Rattle.pd_object.specs.declared.kinds.Glue.TheVariants as glue
use Rattle.pd_object.specs.declared.kinds.Panel.{Panel}
use Rattle.pd_object.specs.declared.kinds.Panel.TheVariants as panel
use Rattle.pd_object.specs.declared.kinds.Signal.{Signal}
use Rattle.pd_object.specs.declared.kinds.Signal.TheVariants as signal
use Rattle.pd_object.specs.declared.kinds.Tone.{Tone}
use Rattle.pd_object.specs.declared.kinds.Tone.TheVariants as tone
use Rattle.pd_kind.specs.declared.states.State.{State}
use Rattle.pd_kind.specs.Fit.{blank}
use Rattle.pd_kind.specs.States.{start_of, arith_start, glue_start, tone_start, signal_start, panel_start}
use Rattle.pd_kind.specs.Tables.{started}
use Rattle.pd_grove.specs.declared.nodes.Node.{Node}
use Rattle.pd_grove.specs.States.{NodesFresh}
use Rattle.pd_grove.specs.Telling.{kind_in, state_in}
use Rattle.pd_patch.specs.declared.patch.Patch.{Patch}
use Rattle.pd_block.specs.Nets.{states_of}
use Rattle.pd_sized.specs.Alike.{AreAlike}
use Rattle.pd_sized.specs.Kinds.{kinds_of, blank_of, KeepsOfKind}

-- what a kind keeps at first is of the same objects at each rate and time
arith_blank : (a : Arith) (now : ℕ) → blank (started (arith_start a) now) ≡ blank (arith_start a)
arith_blank (arith_kind.Operation o z) now = refl
arith_blank a now = refl

glue_blank : (g : Glue) (rate : Rate) (now : ℕ) → blank (started (glue_start g rate) now) ≡ blank (glue_start g R44100)
glue_blank (glue.Message text) rate now = refl
glue_blank g rate now = refl

tone_blank : (t : Tone) (rate : Rate) (now : ℕ) → blank (started (tone_start t rate) now) ≡ blank (tone_start t R44100)
tone_blank (tone.Phasor z) rate now = refl
tone_blank t rate now = refl

signal_blank : (g : Signal) (rate : Rate) (now : ℕ) → blank (started (signal_start g rate) now) ≡ blank (signal_start g R44100)
signal_blank (signal.Sig z) rate now = refl
signal_blank g rate now = refl

panel_blank : (p : Panel) (now : ℕ) → blank (started (panel_start p) now) ≡ blank (panel_start p)
panel_blank (panel.Bng b) now = refl
panel_blank (panel.Tgl b) now = refl

first_blank : (k : Kind) (rate : Rate) (now : ℕ) → blank (started (start_of k rate) now) ≡ blank_of k
first_blank (kind.Arith a) rate now = arith_blank a now
first_blank (kind.Glue g) rate now = glue_blank g rate now
first_blank (kind.Tone t) rate now = tone_blank t rate now
first_blank (kind.Signal g) rate now = signal_blank g rate now
first_blank (kind.Panel p) rate now = panel_blank p now
first_blank kind.Vline rate now = refl
first_blank kind.Unmade rate now = refl
first_blank kind.Canvas rate now = refl

node_of_kind : (rate : Rate) (now : ℕ) (o : Option Node) → ((n : Node) → o ≡ Some n → n.state ≡ Some (started (start_of n.kind rate) now))
    → option_map blank (state_in o) ≡ option_map blank_of (kind_in o)
node_of_kind rate now None h = refl
node_of_kind rate now (Some n) h = ap (option_map blank) (h n refl) ∙ ap (λ (s : State). Some s) (first_blank n.kind rate now)

pub made_of_kind : (p : Patch) (rate : Rate) (now : ℕ) → NodesFresh rate now (get p.grove.nodes) → KeepsOfKind (kinds_of p) (states_of p)
made_of_kind p rate now fresh k = node_of_kind rate now (get p.grove.nodes k) (fresh k)

pub kinds_last : (kinds : ℕ → Option Kind) (old new : ℕ → Option State) → KeepsOfKind kinds old → AreAlike old new → KeepsOfKind kinds new
kinds_last kinds old new h a k = a k ∙ h k
