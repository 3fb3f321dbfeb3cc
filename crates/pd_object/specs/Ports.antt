-- The ports of each kind.
use Rattle.std.specs.Prelude.{ℕ, ℤ, ◌+◌, ◌==◌, ◌≤◌, length, Option, Some, None, if◌then◌else◌}
use Rattle.pd_object.specs.declared.kinds.Kind.{Kind}
use Rattle.pd_object.specs.declared.kinds.Kind.TheVariants as kind
use Rattle.pd_object.specs.declared.kinds.Named.{Named}
use Rattle.pd_object.specs.declared.kinds.Named.TheVariants as named
use Rattle.pd_object.specs.declared.kinds.Arith.{Arith}
use Rattle.pd_object.specs.declared.kinds.Arith.TheVariants as arith
use Rattle.pd_object.specs.declared.kinds.Glue.{Glue}
use Rattle.pd_object.specs.declared.kinds.Glue.TheVariants as glue
use Rattle.pd_object.specs.declared.kinds.Side.TheVariants as side
use Rattle.pd_object.specs.declared.kinds.Tone.{Tone}
use Rattle.pd_object.specs.declared.kinds.Tone.TheVariants as tone
use Rattle.pd_object.specs.declared.kinds.Signal.{Signal}
use Rattle.pd_object.specs.declared.kinds.Signal.TheVariants as signal

-- how many ports there are; of the inlets and of the outlets the first so many carry signals
pub record Ports : Type 0 where
  pub inlets : ℕ
  pub signal_inlets : ℕ
  pub outlets : ℕ
  pub signal_outlets : ℕ

abbrev pub control : ℕ → ℕ → Ports
control i o = record { inlets = i; signal_inlets = 0; outlets = o; signal_outlets = 0 }

-- so many inlets, of which the first some carry signals, and so many outlets that all do
abbrev pub sounding : ℕ → ℕ → ℕ → Ports
sounding i s o = record { inlets = i; signal_inlets = s; outlets = o; signal_outlets = o }

abbrev pub arith_ports : Arith → Ports
arith_ports (arith.Operation o z) = control 2 1
arith_ports (arith.Comparison c z) = control 2 1
arith_ports (arith.Division d z) = control 2 1
arith_ports (arith.Function f) = control 1 1
arith_ports (arith.Clip l h) = control 3 1

-- `route` and `select` with so many arguments: a second inlet stores a single one
abbrev pub choice_ports : ℕ → Ports
choice_ports n = if n == 1 then control 2 2 else control 1 (n + 1)

-- a `send` without a name has a second inlet for it
abbrev pub send_inlets_of : Option ℕ → ℕ
send_inlets_of (Some s) = 1
send_inlets_of None = 2

abbrev pub glue_ports : Glue → Ports
glue_ports (glue.Message t) = control 1 1
glue_ports (glue.FloatBox t) = control 1 1
glue_ports (glue.SymbolBox t) = control 1 1
glue_ports glue.Comment = control 0 0
glue_ports (glue.Array t vs) = control 0 0
glue_ports (glue.Bang w) = control 1 1
glue_ports (glue.Float w z) = control 2 1
glue_ports (glue.Int w z) = control 2 1
glue_ports (glue.Symbol s) = control 2 1
glue_ports (glue.Trigger w outs) = control 1 (length outs)
glue_ports (glue.Pack slots) = control (length slots) 1
glue_ports (glue.Unpack slots) = control 1 (length slots)
glue_ports (glue.Route args) = choice_ports (length args)
glue_ports (glue.Select w args) = choice_ports (length args)
glue_ports (glue.Moses z) = control 2 2
glue_ports (glue.Spigot z) = control 2 1
glue_ports (glue.Swap z) = control 2 2
glue_ports (glue.Change z) = control 1 1
glue_ports glue.Until = control 2 1
glue_ports glue.Loadbang = control 0 1
glue_ports (glue.Print ws) = control 1 0
glue_ports (glue.Send w name) = control (send_inlets_of name) 0
glue_ports (glue.Receive w name) = control 0 1
glue_ports (glue.Metro z) = control 2 1
glue_ports (glue.Delay w z) = control 2 1
glue_ports glue.Timer = control 2 1
glue_ports (glue.Random z) = control 2 1
glue_ports (glue.ListAppend w atoms) = control 2 1
glue_ports (glue.ListPrepend atoms) = control 2 1
glue_ports (glue.ListSplit z) = control 2 3
glue_ports glue.ListTrim = control 1 1
glue_ports glue.ListLength = control 1 1
glue_ports (glue.Port side.Inlet) = control 0 1
glue_ports (glue.Port side.Outlet) = control 1 0
glue_ports (glue.Table name z) = control 0 0
glue_ports (glue.Tabread name) = control 1 1
glue_ports (glue.Tabwrite name) = control 2 0

abbrev pub tone_ports : Tone → Ports
tone_ports (tone.Phasor z) = sounding 2 1 1
tone_ports (tone.Osc z) = sounding 2 1 1
tone_ports tone.Noise = sounding 1 0 1

-- with an argument inlet 1 is a control port
abbrev pub operation_ports_of : Option ℤ → Ports
operation_ports_of (Some z) = sounding 2 1 1
operation_ports_of None = sounding 2 2 1

abbrev pub signal_ports : Signal → Ports
signal_ports (signal.Sig z) = sounding 1 0 1
signal_ports (signal.Operation o z) = operation_ports_of z
signal_ports (signal.Function f) = sounding 1 1 1
signal_ports (signal.Clip l h) = sounding 3 1 1
signal_ports signal.Line = sounding 2 0 1
signal_ports signal.Samphold = sounding 2 2 1
signal_ports (signal.Lop z) = sounding 2 1 1
signal_ports (signal.Hip z) = sounding 2 1 1
signal_ports (signal.Delwrite name z) = sounding 1 1 0
signal_ports (signal.Delread name z) = sounding 1 0 1
signal_ports (signal.Send w name) = sounding 1 1 0
signal_ports (signal.Receive w name) = sounding 1 0 1
signal_ports (signal.Throw name) = sounding 1 1 0
signal_ports (signal.Catch name) = sounding 0 0 1
signal_ports signal.Snapshot = record { inlets = 1; signal_inlets = 1; outlets = 1; signal_outlets = 0 }
signal_ports (signal.Tabread name) = sounding 1 1 1
signal_ports (signal.Dac channels) = sounding (length channels) (length channels) 0
signal_ports signal.Inlet = sounding 0 0 1
signal_ports signal.Outlet = sounding 1 1 0

-- The ports of a kind. Those of a canvas are the boxes in it, which its kind doesn't tell.
abbrev pub ports_of : Kind → Ports
ports_of (kind.Arith a) = arith_ports a
ports_of (kind.Glue g) = glue_ports g
ports_of (kind.Tone t) = tone_ports t
ports_of (kind.Signal s) = signal_ports s
ports_of (kind.Panel p) = control 1 1
ports_of kind.Vline = sounding 3 0 1
ports_of kind.Unmade = control 32 32
ports_of kind.Canvas = control 0 0

-- the arguments of each list are at most so many as a text has
abbrev pub IsSmallGlue : Glue → Type 0
IsSmallGlue (glue.Message t) = length t ≤ 1024
IsSmallGlue (glue.FloatBox t) = length t ≤ 1024
IsSmallGlue (glue.SymbolBox t) = length t ≤ 1024
IsSmallGlue (glue.Array t vs) = length t ≤ 1024
IsSmallGlue (glue.Trigger w outs) = length outs ≤ 1024
IsSmallGlue (glue.Pack slots) = length slots ≤ 1024
IsSmallGlue (glue.Unpack slots) = length slots ≤ 1024
IsSmallGlue (glue.Route args) = length args ≤ 1024
IsSmallGlue (glue.Select w args) = length args ≤ 1024
IsSmallGlue (glue.Print ws) = length ws ≤ 1024
IsSmallGlue (glue.ListAppend w atoms) = length atoms ≤ 1024
IsSmallGlue (glue.ListPrepend atoms) = length atoms ≤ 1024
IsSmallGlue _ = Unit {0}

abbrev pub IsSmallSignal : Signal → Type 0
IsSmallSignal (signal.Dac channels) = length channels ≤ 1024
IsSmallSignal _ = Unit {0}

abbrev pub IsSmallKind : Kind → Type 0
IsSmallKind (kind.Glue g) = IsSmallGlue g
IsSmallKind (kind.Signal s) = IsSmallSignal s
IsSmallKind _ = Unit {0}

-- the kind that a text names, where it names one
abbrev pub IsSmallNamed : Named → Type 0
IsSmallNamed (named.Kind k) = IsSmallKind k
IsSmallNamed _ = Unit {0}
