-- What a box keeps when it is made has its sizes.
use Rattle.std.proofs.Common.{◌≡◌, ℕ, pos, ◌+◌, ◌≤◌, ◌<◌, ◌^◌, true, ◌&&◌, nat_le, nat_lt, ◌==◌, replicate, length, Option, Some, None, IfSome, refl, sym, ap, subst, ◌∙◌, arith}
use Rattle.std.proofs.lemmas.Bool.{le-leb, eq-eqb}
use Rattle.std.proofs.lemmas.List.{length-replicate}
use Rattle.slab.specs.Slab.{get}
use Rattle.pd_atom.proofs.NameLemmas.{lt_true}
use Rattle.pd_clock.specs.declared.times.Rate.{Rate}
use Rattle.pd_object.specs.declared.kinds.Kind.{Kind}
use Rattle.pd_object.specs.declared.kinds.Kind.TheVariants as kind
use Rattle.pd_object.specs.declared.kinds.Arith.{Arith}
use Rattle.pd_object.specs.declared.kinds.Arith.TheVariants as arith_kind
use Rattle.pd_object.specs.declared.kinds.Glue.{Glue}
use Rattle.pd_object.specs.declared.kinds.Glue.TheVariants as glue
use Rattle.pd_object.specs.declared.kinds.Panel.{Panel}
use Rattle.pd_object.specs.declared.kinds.Panel.TheVariants as panel
use Rattle.pd_object.specs.declared.kinds.Signal.{Signal}
use Rattle.pd_object.specs.declared.kinds.Signal.TheVariants as signal
use Rattle.pd_object.specs.declared.kinds.Tone.{Tone}
use Rattle.pd_object.specs.declared.kinds.Tone.TheVariants as tone
use Rattle.pd_kind.specs.declared.states.State.{State}
use Rattle.pd_kind.specs.declared.states.State.TheVariants as state
use Rattle.pd_kind.specs.States.{line_length, silent_block, size_of, start_of, arith_start, glue_start, tone_start, signal_start, panel_start}
use Rattle.pd_kind.specs.Tables.{started}
use Rattle.pd_turn.specs.Rows.{is_ring}
use Rattle.pd_grove.specs.declared.nodes.Node.{Node}
use Rattle.pd_grove.specs.States.{NodesFresh}
use Rattle.pd_grove.specs.Telling.{state_in}
use Rattle.pd_patch.specs.declared.patch.Patch.{Patch}
use Rattle.pd_block.specs.Nets.{states_of}
use Rattle.pd_guards.proofs.GuardLemmas.{true_and}
use Rattle.pd_sized.specs.Sizes.{HasSizes, HaveSizes, HasSmallBoxes}

pub ring_true : (count next : ℕ) → 64 ≤ count → count ≤ 4294967296 → next < count → is_ring count next ≡ true
ring_true count next low high within = true_and (nat_le 64 count) (nat_le count 4294967296 && nat_lt next count) (le-leb 64 count low) (true_and (nat_le count 4294967296) (nat_lt next count) (le-leb count 4294967296 high) (lt_true next count within))

line_sized : (n : ℕ) → n + 64 ≤ 2 ^ 32 → is_ring (length (replicate (n + 64) (pos 0))) 0 ≡ true
line_sized n h = ap (λ (x : ℕ). is_ring x 0) (length-replicate (n + 64) (pos 0)) ∙ ring_true (n + 64) 0 (omega arith) (omega arith) (omega arith)

-- a block of silence has 64 values
pub silent_count : length silent_block ≡ 64
unfolding silent_block
silent_count = length-replicate 64 (pos 0)

pub silent_sized : (length silent_block == 64) ≡ true
silent_sized = eq-eqb (length silent_block) 64 silent_count

arith_sized : (a : Arith) → HasSizes (arith_start a)
arith_sized (arith_kind.Operation o z) = refl
arith_sized a = refl

glue_sized : (g : Glue) (rate : Rate) → HasSizes (glue_start g rate)
glue_sized (glue.Message text) rate = refl
glue_sized g rate = refl

tone_sized : (t : Tone) (rate : Rate) → HasSizes (tone_start t rate)
tone_sized (tone.Phasor z) rate = refl
tone_sized t rate = refl

panel_sized : (p : Panel) → HasSizes (panel_start p)
panel_sized (panel.Bng button) = refl
panel_sized p = refl

signal_sized : (g : Signal) (rate : Rate) → size_of (kind.Signal g) rate ≤ 2 ^ 32 → HasSizes (signal_start g rate)
signal_sized (signal.Delwrite name z) rate h = line_sized (line_length rate z) h
signal_sized (signal.Send w name) rate h = silent_sized
signal_sized (signal.Catch name) rate h = silent_sized
signal_sized g rate h = refl

start_sized : (k : Kind) (rate : Rate) → size_of k rate ≤ 2 ^ 32 → HasSizes (start_of k rate)
start_sized (kind.Arith a) rate h = arith_sized a
start_sized (kind.Glue g) rate h = glue_sized g rate
start_sized (kind.Tone t) rate h = tone_sized t rate
start_sized (kind.Signal g) rate h = signal_sized g rate h
start_sized (kind.Panel p) rate h = panel_sized p
start_sized k rate h = refl

started_sized : (s : State) (now : ℕ) → HasSizes s → HasSizes (started s now)
started_sized (state.Timer reset rate) now h = refl
started_sized s now h = h

pub made_sized : (k : Kind) (rate : Rate) (now : ℕ) → size_of k rate ≤ 2 ^ 32 → HasSizes (started (start_of k rate) now)
made_sized k rate now h = started_sized (start_of k rate) now (start_sized k rate h)

some_sized : (o : Option State) (s : State) → o ≡ Some s → HasSizes s → IfSome o HasSizes
some_sized o s e h = subst (λ (x : Option State). IfSome x HasSizes) (sym e) h

node_sized : (o : Option Node) → ((n : Node) → o ≡ Some n → IfSome n.state HasSizes) → IfSome (state_in o) HasSizes
node_sized None h = tt
node_sized (Some n) h = h n refl

pub grown_sized : (p : Patch) (rate : Rate) (now : ℕ) → NodesFresh rate now (get p.grove.nodes) → HasSmallBoxes p rate → HaveSizes (states_of p)
grown_sized p rate now fresh small k =
    node_sized (get p.grove.nodes k) (λ n e. some_sized n.state (started (start_of n.kind rate) now) (fresh k n e) (made_sized n.kind rate now (small k n e)))
