-- Of no kind do more ports carry signals than there are.
use Rattle.std.proofs.Common.{ℕ, ◌+◌, ◌≤◌, ℤ, Bool, true, false, cond, ◌==◌, length, Option, Some, None, le_refl, lit≤, arith}
use Rattle.pd_object.specs.declared.kinds.Kind.{Kind}
use Rattle.pd_object.specs.declared.kinds.Kind.TheVariants as kind
use Rattle.pd_object.specs.declared.kinds.Arith.{Arith}
use Rattle.pd_object.specs.declared.kinds.Arith.TheVariants as arith
use Rattle.pd_object.specs.declared.kinds.Glue.{Glue}
use Rattle.pd_object.specs.declared.kinds.Glue.TheVariants as glue
use Rattle.pd_object.specs.declared.kinds.Side.TheVariants as side
use Rattle.pd_object.specs.declared.kinds.Tone.{Tone}
use Rattle.pd_object.specs.declared.kinds.Tone.TheVariants as tone
use Rattle.pd_object.specs.declared.kinds.Signal.{Signal}
use Rattle.pd_object.specs.declared.kinds.Signal.TheVariants as signal
use Rattle.pd_object.specs.Ports.{Ports, ports_of, control, sounding, arith_ports, choice_ports, send_inlets_of, glue_ports, tone_ports, operation_ports_of, signal_ports}

-- no more ports carry signals than there are
pub record IsSound (p : Ports) : Type 0 where
  pub ins : p.signal_inlets ≤ p.inlets
  pub outs : p.signal_outlets ≤ p.outlets

nothing_below : (n : ℕ) → 0 ≤ n
nothing_below n = omega arith

control_sound : (i o : ℕ) → IsSound (control i o)
control_sound i o = record { ins = nothing_below i; outs = nothing_below o }

sounding_sound : (i s o : ℕ) → s ≤ i → IsSound (sounding i s o)
sounding_sound i s o h = record { ins = h; outs = le_refl o }

choice_by : (b : Bool) (n : ℕ) → IsSound (cond b (control 2 2) (control 1 (n + 1)))
choice_by true n = control_sound 2 2
choice_by false n = control_sound 1 (n + 1)

choice_sound : (n : ℕ) → IsSound (choice_ports n)
choice_sound n = choice_by (n == 1) n

arith_sound : (a : Arith) → IsSound (arith_ports a)
arith_sound (arith.Operation o z) = control_sound 2 1
arith_sound (arith.Comparison c z) = control_sound 2 1
arith_sound (arith.Division d z) = control_sound 2 1
arith_sound (arith.Function f) = control_sound 1 1
arith_sound (arith.Clip l h) = control_sound 3 1

operation_sound : (o : Option ℤ) → IsSound (operation_ports_of o)
operation_sound (Some z) = sounding_sound 2 1 1 (lit≤ tt)
operation_sound None = sounding_sound 2 2 1 (lit≤ tt)

glue_sound : (g : Glue) → IsSound (glue_ports g)
glue_sound (glue.Message t) = control_sound 1 1
glue_sound (glue.FloatBox t) = control_sound 1 1
glue_sound (glue.SymbolBox t) = control_sound 1 1
glue_sound glue.Comment = control_sound 0 0
glue_sound (glue.Array t vs) = control_sound 0 0
glue_sound (glue.Bang w) = control_sound 1 1
glue_sound (glue.Float w z) = control_sound 2 1
glue_sound (glue.Int w z) = control_sound 2 1
glue_sound (glue.Symbol s) = control_sound 2 1
glue_sound (glue.Trigger w outs) = control_sound 1 (length outs)
glue_sound (glue.Pack slots) = control_sound (length slots) 1
glue_sound (glue.Unpack slots) = control_sound 1 (length slots)
glue_sound (glue.Route args) = choice_sound (length args)
glue_sound (glue.Select w args) = choice_sound (length args)
glue_sound (glue.Moses z) = control_sound 2 2
glue_sound (glue.Spigot z) = control_sound 2 1
glue_sound (glue.Swap z) = control_sound 2 2
glue_sound (glue.Change z) = control_sound 1 1
glue_sound glue.Until = control_sound 2 1
glue_sound glue.Loadbang = control_sound 0 1
glue_sound (glue.Print ws) = control_sound 1 0
glue_sound (glue.Send w name) = control_sound (send_inlets_of name) 0
glue_sound (glue.Receive w name) = control_sound 0 1
glue_sound (glue.Metro z) = control_sound 2 1
glue_sound (glue.Delay w z) = control_sound 2 1
glue_sound glue.Timer = control_sound 2 1
glue_sound (glue.Random z) = control_sound 2 1
glue_sound (glue.ListAppend w atoms) = control_sound 2 1
glue_sound (glue.ListPrepend atoms) = control_sound 2 1
glue_sound (glue.ListSplit z) = control_sound 2 3
glue_sound glue.ListTrim = control_sound 1 1
glue_sound glue.ListLength = control_sound 1 1
glue_sound (glue.Port side.Inlet) = control_sound 0 1
glue_sound (glue.Port side.Outlet) = control_sound 1 0
glue_sound (glue.Table name z) = control_sound 0 0
glue_sound (glue.Tabread name) = control_sound 1 1
glue_sound (glue.Tabwrite name) = control_sound 2 0

tone_sound : (t : Tone) → IsSound (tone_ports t)
tone_sound (tone.Phasor z) = sounding_sound 2 1 1 (lit≤ tt)
tone_sound (tone.Osc z) = sounding_sound 2 1 1 (lit≤ tt)
tone_sound tone.Noise = sounding_sound 1 0 1 (lit≤ tt)

signal_sound : (s : Signal) → IsSound (signal_ports s)
signal_sound (signal.Sig z) = sounding_sound 1 0 1 (lit≤ tt)
signal_sound (signal.Operation o z) = operation_sound z
signal_sound (signal.Function f) = sounding_sound 1 1 1 (lit≤ tt)
signal_sound (signal.Clip l h) = sounding_sound 3 1 1 (lit≤ tt)
signal_sound signal.Line = sounding_sound 2 0 1 (lit≤ tt)
signal_sound signal.Samphold = sounding_sound 2 2 1 (lit≤ tt)
signal_sound (signal.Lop z) = sounding_sound 2 1 1 (lit≤ tt)
signal_sound (signal.Hip z) = sounding_sound 2 1 1 (lit≤ tt)
signal_sound (signal.Delwrite name z) = sounding_sound 1 1 0 (lit≤ tt)
signal_sound (signal.Delread name z) = sounding_sound 1 0 1 (lit≤ tt)
signal_sound (signal.Send w name) = sounding_sound 1 1 0 (lit≤ tt)
signal_sound (signal.Receive w name) = sounding_sound 1 0 1 (lit≤ tt)
signal_sound (signal.Throw name) = sounding_sound 1 1 0 (lit≤ tt)
signal_sound (signal.Catch name) = sounding_sound 0 0 1 (lit≤ tt)
signal_sound signal.Snapshot = record { ins = lit≤ tt; outs = lit≤ tt }
signal_sound (signal.Tabread name) = sounding_sound 1 1 1 (lit≤ tt)
signal_sound (signal.Dac channels) = sounding_sound (length channels) (length channels) 0 (le_refl _)
signal_sound signal.Inlet = sounding_sound 0 0 1 (lit≤ tt)
signal_sound signal.Outlet = sounding_sound 1 1 0 (lit≤ tt)

-- of no kind do more ports carry signals than there are
pub ports_sound : (k : Kind) → IsSound (ports_of k)
ports_sound (kind.Arith a) = arith_sound a
ports_sound (kind.Glue g) = glue_sound g
ports_sound (kind.Tone t) = tone_sound t
ports_sound (kind.Signal s) = signal_sound s
ports_sound (kind.Panel p) = control_sound 1 1
ports_sound kind.Vline = sounding_sound 3 0 1 (lit≤ tt)
ports_sound kind.Unmade = control_sound 32 32
ports_sound kind.Canvas = control_sound 0 0
