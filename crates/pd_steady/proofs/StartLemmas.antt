-- What a box keeps at first, whenever it comes.
use Rattle.std.proofs.Common.{◌≡◌, ℕ, refl}
use Rattle.pd_clock.specs.declared.times.Rate.{Rate}
use Rattle.pd_clock.specs.declared.times.Rate.TheVariants.{R44100}
use Rattle.pd_atom.specs.Names.{Names}
use Rattle.pd_object.specs.declared.kinds.Kind.{Kind}
use Rattle.pd_object.specs.declared.kinds.Kind.TheVariants as kind
use Rattle.pd_object.specs.declared.kinds.Arith.{Arith}
use Rattle.pd_object.specs.declared.kinds.Arith.TheVariants as arith_kind
use Rattle.pd_object.specs.declared.kinds.Glue.{Glue}
use Rattle.pd_object.specs.declared.kinds.Glue.TheVariants as glue
use Rattle.pd_object.specs.declared.kinds.Panel.{Panel}
use Rattle.pd_object.specs.declared.kinds.Panel.TheVariants as panel
use Rattle.pd_object.specs.declared.kinds.Signal.{Signal}
use Rattle.pd_object.specs.declared.kinds.Signal.TheVariants as signal
use Rattle.pd_object.specs.declared.kinds.Tone.{Tone}
use Rattle.pd_object.specs.declared.kinds.Tone.TheVariants as tone
use Rattle.pd_object.specs.Ports.{IsSmallKind}
use Rattle.pd_kind.specs.declared.states.State.{State}
use Rattle.pd_kind.specs.declared.states.State.TheVariants as state
use Rattle.pd_kind.specs.Fit.{blank}
use Rattle.pd_kind.specs.States.{start_of, arith_start, glue_start, tone_start, signal_start, panel_start}
use Rattle.pd_kind.specs.Tables.{started}
use Rattle.pd_channels_law.specs.Channels.{HasFewChannels}
use Rattle.pd_guards.specs.Order.{IsKept}
use Rattle.pd_guards.specs.Sounds.{HasValues}
use Rattle.pd_sized.specs.Kinds.{blank_of}

-- it is of the objects of its kind
arith_blank : (a : Arith) (now : ℕ) → blank (started (arith_start a) now) ≡ blank (arith_start a)
arith_blank (arith_kind.Operation o z) now = refl
arith_blank a now = refl

glue_blank : (g : Glue) (rate : Rate) (now : ℕ) → blank (started (glue_start g rate) now) ≡ blank (glue_start g R44100)
glue_blank (glue.Message text) rate now = refl
glue_blank g rate now = refl

tone_blank : (t : Tone) (rate : Rate) (now : ℕ) → blank (started (tone_start t rate) now) ≡ blank (tone_start t R44100)
tone_blank (tone.Phasor z) rate now = refl
tone_blank t rate now = refl

signal_blank : (g : Signal) (rate : Rate) (now : ℕ) → blank (started (signal_start g rate) now) ≡ blank (signal_start g R44100)
signal_blank (signal.Sig z) rate now = refl
signal_blank g rate now = refl

panel_blank : (p : Panel) (now : ℕ) → blank (started (panel_start p) now) ≡ blank (panel_start p)
panel_blank (panel.Bng b) now = refl
panel_blank (panel.Tgl b) now = refl

pub first_blank : (k : Kind) (rate : Rate) (now : ℕ) → blank (started (start_of k rate) now) ≡ blank_of k
first_blank (kind.Arith a) rate now = arith_blank a now
first_blank (kind.Glue g) rate now = glue_blank g rate now
first_blank (kind.Tone t) rate now = tone_blank t rate now
first_blank (kind.Signal g) rate now = signal_blank g rate now
first_blank (kind.Panel p) rate now = panel_blank p now
first_blank kind.Vline rate now = refl
first_blank kind.Unmade rate now = refl
first_blank kind.Canvas rate now = refl

-- a `timer` that counts from another time stays in order
pub started_kept : (names : Names) (now from : ℕ) (s : State) → IsKept names now s → IsKept names now (started s from)
started_kept names now from (state.Timer reset rate) h = tt
started_kept names now from s h = h

pub started_values : (s : State) (from : ℕ) → HasValues s → HasValues (started s from)
started_values (state.Timer reset rate) from h = tt
started_values s from h = h

-- a kind with no more ports than a text can give it
pub small_few : (k : Kind) → IsSmallKind k → HasFewChannels k
small_few (kind.Signal g) h = h
small_few k h = tt
