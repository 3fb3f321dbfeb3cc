-- Boxes that have at most two signal inlets and one signal outlet.
use Rattle.std.specs.Prelude.{◌≡◌, ℕ, ◌≤◌, Option, Some, None}
use Rattle.pd_object.specs.declared.kinds.Kind.{Kind}
use Rattle.pd_object.specs.declared.kinds.Kind.TheVariants as kind
use Rattle.pd_object.specs.declared.kinds.Signal.{Signal}
use Rattle.pd_object.specs.declared.kinds.Signal.TheVariants as signal
use Rattle.pd_object.specs.declared.kinds.Tone.{Tone}
use Rattle.pd_object.specs.declared.kinds.Tone.TheVariants as tone
use Rattle.pd_turn.specs.declared.sizes.Few.{Few}
use Rattle.pd_object.specs.Ports.{Ports, ports_of, signal_ports, tone_ports}

-- so many signal inlets and signal outlets
abbrev pub few : ℕ → ℕ → Option Few
few i o = Some (record { inlets = i; outlets = o })

abbrev pub few_of_tone : Tone → Option Few
few_of_tone (tone.Phasor hertz) = few 1 1
few_of_tone (tone.Osc hertz) = few 1 1
few_of_tone tone.Noise = few 0 1

abbrev pub few_of_signal : Signal → Option Few
few_of_signal (signal.Sig z) = few 0 1
few_of_signal (signal.Operation o None) = few 2 1
few_of_signal (signal.Operation o (Some right)) = few 1 1
few_of_signal (signal.Function f) = few 1 1
few_of_signal (signal.Clip low high) = few 1 1
few_of_signal signal.Line = few 0 1
few_of_signal signal.Samphold = few 2 1
few_of_signal (signal.Lop hertz) = few 1 1
few_of_signal (signal.Hip hertz) = few 1 1
few_of_signal (signal.Delwrite name time) = few 1 0
few_of_signal (signal.Delread name time) = few 0 1
few_of_signal (signal.Send spelling name) = few 1 0
few_of_signal (signal.Receive spelling name) = few 0 1
few_of_signal (signal.Throw name) = few 1 0
few_of_signal (signal.Catch name) = few 0 1
few_of_signal signal.Snapshot = few 1 0
few_of_signal (signal.Tabread name) = few 1 1
few_of_signal (signal.Dac channels) = None
few_of_signal signal.Inlet = None
few_of_signal signal.Outlet = None

-- the signal ports of a box that runs of its own, beside another or beside a table
abbrev pub few_of : Kind → Option Few
few_of (kind.Tone t) = few_of_tone t
few_of (kind.Signal s) = few_of_signal s
few_of kind.Vline = few 0 1
few_of _ = None

-- these are the numbers of the signal ports
pub record AreFew (ports : Ports) (inlets outlets : ℕ) : Type 0 where
  pub inlets_are : ports.signal_inlets ≡ inlets
  pub outlets_are : ports.signal_outlets ≡ outlets
  pub few_inlets : inlets ≤ 2
  pub few_outlets : outlets ≤ 1

abbrev pub ArePorts : Kind → ℕ → ℕ → Type 0
ArePorts k i o = AreFew (ports_of k) i o

abbrev pub AreTonePorts : Tone → ℕ → ℕ → Type 0
AreTonePorts t i o = AreFew (tone_ports t) i o

abbrev pub AreSignalPorts : Signal → ℕ → ℕ → Type 0
AreSignalPorts s i o = AreFew (signal_ports s) i o
