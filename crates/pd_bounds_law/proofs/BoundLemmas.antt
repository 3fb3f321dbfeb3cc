-- Numbers that rows bound, and what a box keeps when it is made.
use Rattle.std.proofs.Common.{◌≡◌, ℕ, ℤ, pos, max, false, if◌then◌else◌, Option, Some, None, IfSome, refl, ap, sym, subst, ◌∙◌, true≢false, arith}
use Rattle.slab.specs.Slab.{get}
use Rattle.pd_clock.specs.declared.times.Rate.{Rate}
use Rattle.pd_object.specs.declared.kinds.Arith.{Arith}
use Rattle.pd_object.specs.declared.kinds.Arith.TheVariants as arith_kind
use Rattle.pd_object.specs.declared.kinds.Glue.{Glue}
use Rattle.pd_object.specs.declared.kinds.Glue.TheVariants as glue
use Rattle.pd_object.specs.declared.kinds.Kind.{Kind}
use Rattle.pd_object.specs.declared.kinds.Kind.TheVariants as kind
use Rattle.pd_object.specs.declared.kinds.Panel.{Panel}
use Rattle.pd_object.specs.declared.kinds.Panel.TheVariants as panel
use Rattle.pd_object.specs.declared.kinds.Signal.{Signal}
use Rattle.pd_object.specs.declared.kinds.Signal.TheVariants as signal
use Rattle.pd_object.specs.declared.kinds.Tone.{Tone}
use Rattle.pd_object.specs.declared.kinds.Tone.TheVariants as tone
use Rattle.pd_kind.specs.declared.states.State.{State}
use Rattle.pd_kind.specs.declared.states.State.TheVariants as state
use Rattle.pd_kind.specs.States.{units_of, whole_at_least, or_one, start_of, arith_start, glue_start, tone_start, signal_start, panel_start}
use Rattle.pd_kind.specs.Tables.{started}
use Rattle.pd_panel.specs.Rows.{is_zero}
use Rattle.pd_grove.specs.declared.nodes.Node.{Node}
use Rattle.pd_grove.specs.States.{NodesFresh}
use Rattle.pd_grove.specs.Telling.{state_in}
use Rattle.pd_patch.specs.declared.patch.Patch.{Patch}
use Rattle.pd_block.specs.Nets.{states_of}
use Rattle.pd_keeping_law.proofs.FactLemmas.{either_by}
use Rattle.pd_bounds_law.specs.Bounds.{IsWholeFrom, HasBounds}

-- all boxes keep what is within its bounds
abbrev pub AllBounded : (ℕ → Option State) → Type 0
AllBounded states = (k : ℕ) → IfSome (states k) HasBounds

pub least_whole : (least : ℕ) (z : ℤ) → IsWholeFrom least (whole_at_least least z)
least_whole least z = record { count = max least (units_of z); is = refl; enough = omega arith }

nonzero_by : (z : ℤ) → is_zero z ≡ false → ¬ (z ≡ pos 0)
nonzero_by z h e = true≢false (ap is_zero (sym e) ∙ h)

-- a number in place of another one, but not 0
pub kept_nonzero : (z other : ℤ) → ¬ (other ≡ pos 0) → ¬ ((if is_zero z then other else z) ≡ pos 0)
kept_nonzero z other h = either_by (λ (x : ℤ). ¬ (x ≡ pos 0)) (is_zero z) other z (λ e. h) (nonzero_by z)

nonzero_start : (z : ℤ) → ¬ (or_one z ≡ pos 0)
nonzero_start z = either_by (λ (x : ℤ). ¬ (x ≡ pos 0)) (is_zero z) (pos 1000000) z (λ e. nonzero_by (pos 1000000) refl) (nonzero_by z)

arith_bounded : (a : Arith) → HasBounds (arith_start a)
arith_bounded (arith_kind.Operation o z) = tt
arith_bounded a = tt

glue_bounded : (g : Glue) (rate : Rate) → HasBounds (glue_start g rate)
glue_bounded (glue.Random z) rate = least_whole 1 z
glue_bounded (glue.ListSplit z) rate = least_whole 0 z
glue_bounded g rate = tt

tone_bounded : (t : Tone) (rate : Rate) → HasBounds (tone_start t rate)
tone_bounded (tone.Phasor z) rate = tt
tone_bounded t rate = tt

signal_bounded : (g : Signal) (rate : Rate) → HasBounds (signal_start g rate)
signal_bounded (signal.Sig z) rate = tt
signal_bounded g rate = tt

panel_bounded : (p : Panel) → HasBounds (panel_start p)
panel_bounded (panel.Bng button) = tt
panel_bounded (panel.Tgl toggle) = nonzero_start toggle.other

start_bounded : (k : Kind) (rate : Rate) → HasBounds (start_of k rate)
start_bounded (kind.Arith a) rate = arith_bounded a
start_bounded (kind.Glue g) rate = glue_bounded g rate
start_bounded (kind.Tone t) rate = tone_bounded t rate
start_bounded (kind.Signal g) rate = signal_bounded g rate
start_bounded (kind.Panel p) rate = panel_bounded p
start_bounded k rate = tt

pub started_bounded : (s : State) (now : ℕ) → HasBounds s → HasBounds (started s now)
started_bounded (state.Timer reset rate) now h = tt
started_bounded s now h = h

pub made_bounded : (k : Kind) (rate : Rate) (now : ℕ) → HasBounds (started (start_of k rate) now)
made_bounded k rate now = started_bounded (start_of k rate) now (start_bounded k rate)

some_bounded : (o : Option State) (s : State) → o ≡ Some s → HasBounds s → IfSome o HasBounds
some_bounded o s e h = subst (λ (x : Option State). IfSome x HasBounds) (sym e) h

node_bounded : (o : Option Node) → ((n : Node) → o ≡ Some n → IfSome n.state HasBounds) → IfSome (state_in o) HasBounds
node_bounded None h = tt
node_bounded (Some n) h = h n refl

pub grown_bounded : (p : Patch) (rate : Rate) (now : ℕ) → NodesFresh rate now (get p.grove.nodes) → AllBounded (states_of p)
grown_bounded p rate now fresh k =
    node_bounded (get p.grove.nodes k) (λ n e. some_bounded n.state (started (start_of n.kind rate) now) (fresh k n e) (made_bounded n.kind rate now))
