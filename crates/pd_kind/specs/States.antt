-- What a box of each kind keeps at first, and how many values its table or delay line counts.
use Rattle.std.specs.Prelude.{ℕ, ℤ, pos, negsuc, ◌+◌, ◌*◌, ◌/◌, ◌==◌, Bool, true, false, List, [], map, max, unsigned_abs, replicate, length, Option, Some, None, if◌then◌else◌}
use Rattle.pd_num.specs.Scale.{whole_of}
use Rattle.pd_atom.specs.declared.Atom.{Atom}
use Rattle.pd_atom.specs.declared.Atom.TheVariants as atom
use Rattle.pd_clock.specs.declared.times.Rate.{Rate}
use Rattle.pd_clock.specs.Rates.{samples}
use Rattle.pd_object.specs.declared.kinds.Kind.{Kind}
use Rattle.pd_object.specs.declared.kinds.Kind.TheVariants as kind
use Rattle.pd_object.specs.declared.kinds.Arith.{Arith}
use Rattle.pd_object.specs.declared.kinds.Arith.TheVariants as arith
use Rattle.pd_object.specs.declared.kinds.Glue.{Glue}
use Rattle.pd_object.specs.declared.kinds.Glue.TheVariants as glue
use Rattle.pd_object.specs.declared.kinds.Slot.{Slot}
use Rattle.pd_object.specs.declared.kinds.Slot.TheVariants as slot
use Rattle.pd_object.specs.declared.kinds.Tone.{Tone}
use Rattle.pd_object.specs.declared.kinds.Tone.TheVariants as tone
use Rattle.pd_object.specs.declared.kinds.Signal.{Signal}
use Rattle.pd_object.specs.declared.kinds.Signal.TheVariants as signal
use Rattle.pd_object.specs.declared.kinds.Panel.{Panel}
use Rattle.pd_object.specs.declared.kinds.Panel.TheVariants as panel
use Rattle.pd_kind.specs.declared.states.State.{State}
use Rattle.pd_kind.specs.declared.states.State.TheVariants as state

-- a number's whole units, 0 where it is negative
abbrev pub units_of : ℤ → ℕ
units_of (pos n) = n / 1000000
units_of (negsuc n) = 0

-- whole units, but at least so many
abbrev pub whole_at_least : ℕ → ℤ → ℤ
whole_at_least least z = pos (max least (units_of z) * 1000000)

-- how many values a table of this size has
abbrev pub table_size : ℤ → ℕ
table_size z = max 1 (units_of z)

-- how many samples a time in milliseconds is, 0 where it is negative
abbrev pub line_length : Rate → ℤ → ℕ
line_length rate (pos n) = n * samples rate / 1000000000
line_length rate (negsuc n) = 0

-- the first value of a slot
abbrev pub slot_start : Slot → Atom
slot_start (slot.Number z) = atom.Number z
slot_start slot.Symbol = atom.Symbol 2

-- 0 counts as 1
abbrev pub or_one : ℤ → ℤ
or_one z = if unsigned_abs z == 0 then pos 1000000 else z

abbrev pub or_zero : Option ℤ → ℤ
or_zero (Some z) = z
or_zero None = pos 0

abbrev pub arith_start : Arith → State
arith_start (arith.Operation o z) = state.Operation (pos 0) z
arith_start (arith.Comparison c z) = state.Comparison (pos 0) z
arith_start (arith.Division d z) = state.Division (pos 0) z
arith_start (arith.Function f) = state.Bare
arith_start (arith.Clip low high) = state.Clip low high

abbrev pub glue_start : Glue → Rate → State
glue_start (glue.Message text) rate = state.Message text
glue_start (glue.FloatBox text) rate = state.FloatBox (pos 0)
glue_start (glue.SymbolBox text) rate = state.SymbolBox 2
glue_start glue.Comment rate = state.Bare
glue_start (glue.Array text values) rate = state.Array values
glue_start (glue.Bang w) rate = state.Bare
glue_start (glue.Float w z) rate = state.Float z
glue_start (glue.Int w z) rate = state.Int (whole_of z)
glue_start (glue.Symbol s) rate = state.Symbol s
glue_start (glue.Trigger w outs) rate = state.Bare
glue_start (glue.Pack slots) rate = state.Pack (map slot_start slots)
glue_start (glue.Unpack slots) rate = state.Bare
glue_start (glue.Route args) rate = state.Route args
glue_start (glue.Select w args) rate = state.Select args
glue_start (glue.Moses z) rate = state.Moses z
glue_start (glue.Spigot z) rate = state.Spigot z
glue_start (glue.Swap z) rate = state.Swap (pos 0) z
glue_start (glue.Change z) rate = state.Change z
glue_start glue.Until rate = state.Until false (Some 0)
glue_start glue.Loadbang rate = state.Bare
glue_start (glue.Print ws) rate = state.Bare
glue_start (glue.Send w name) rate = state.Send name
glue_start (glue.Receive w name) rate = state.Bare
glue_start (glue.Metro z) rate = state.Metro z
glue_start (glue.Delay w z) rate = state.Delay z
glue_start glue.Timer rate = state.Timer 0 rate
glue_start (glue.Random z) rate = state.Random 1 (whole_at_least 1 z)
glue_start (glue.ListAppend w atoms) rate = state.ListAppend atoms
glue_start (glue.ListPrepend atoms) rate = state.ListPrepend atoms
glue_start (glue.ListSplit z) rate = state.ListSplit (whole_at_least 0 z)
glue_start glue.ListTrim rate = state.Bare
glue_start glue.ListLength rate = state.Bare
glue_start (glue.Port s) rate = state.Bare
glue_start (glue.Table name z) rate = state.Table (replicate (table_size z) (pos 0))
glue_start (glue.Tabread name) rate = state.Bare
glue_start (glue.Tabwrite name) rate = state.Tabwrite (pos 0)

abbrev pub tone_start : Tone → Rate → State
tone_start (tone.Phasor z) rate = state.Phasor z 0 rate
tone_start (tone.Osc z) rate = state.Osc z 0 rate
tone_start tone.Noise rate = state.Noise 1

-- a block of 64 values of 0
unfoldable pub silent_block : List ℤ
silent_block = replicate 64 (pos 0)

abbrev pub signal_start : Signal → Rate → State
signal_start (signal.Sig z) rate = state.Sig z
signal_start (signal.Operation o z) rate = state.SignalOperation (pos 0) (or_zero z)
signal_start (signal.Function f) rate = state.SignalFunction (pos 0)
signal_start (signal.Clip low high) rate = state.SignalClip (pos 0) low high
signal_start signal.Line rate = state.Line (record { time = pos 0; start = pos 0; target = pos 0; length = 0; at = 0; rate = rate })
signal_start signal.Samphold rate = state.Samphold (pos 0) (pos 0) (pos 0) (pos 0)
signal_start (signal.Lop z) rate = state.Lop (pos 0) z (pos 0) rate
signal_start (signal.Hip z) rate = state.Hip (pos 0) z (pos 0) rate
signal_start (signal.Delwrite name z) rate = state.Delwrite (pos 0) (replicate (line_length rate z + 64) (pos 0)) 0 false
signal_start (signal.Delread name z) rate = state.Delread z rate
signal_start (signal.Send w name) rate = state.SignalSend (pos 0) silent_block
signal_start (signal.Receive w name) rate = state.Bare
signal_start (signal.Throw name) rate = state.Throw (pos 0)
signal_start (signal.Catch name) rate = state.Catch silent_block
signal_start signal.Snapshot rate = state.Snapshot (pos 0) (pos 0)
signal_start (signal.Tabread name) rate = state.SignalTabread (pos 0)
signal_start (signal.Dac channels) rate = state.Dac (replicate (length channels) (pos 0))
signal_start signal.Inlet rate = state.SignalInlet (pos 0)
signal_start signal.Outlet rate = state.SignalOutlet (pos 0)

abbrev pub panel_start : Panel → State
panel_start (panel.Bng button) = state.Bare
panel_start (panel.Tgl toggle) = state.Toggle toggle.value (or_one toggle.other) toggle.is_whole

-- what a box keeps when it is made
abbrev pub start_of : Kind → Rate → State
start_of (kind.Arith a) rate = arith_start a
start_of (kind.Glue g) rate = glue_start g rate
start_of (kind.Tone t) rate = tone_start t rate
start_of (kind.Signal s) rate = signal_start s rate
start_of (kind.Panel p) rate = panel_start p
start_of kind.Vline rate = state.Vline (record { time = pos 0; delay = pos 0; end = 0; base = None; ramps = []; rate = rate })
start_of kind.Unmade rate = state.Bare
start_of kind.Canvas rate = state.Bare

abbrev pub glue_size : Glue → ℕ
glue_size (glue.Array text values) = length values
glue_size (glue.Table name z) = table_size z
glue_size _ = 0

abbrev pub signal_size : Rate → Signal → ℕ
signal_size rate (signal.Delwrite name z) = line_length rate z + 64
signal_size rate _ = 0

-- how many values the table, the array or the delay line of a kind counts
abbrev pub size_of : Kind → Rate → ℕ
size_of (kind.Glue g) rate = glue_size g
size_of (kind.Signal s) rate = signal_size rate s
size_of _ rate = 0

-- the objects that keep a list
abbrev pub keeps_list : Glue → Bool
keeps_list (glue.Message text) = true
keeps_list (glue.Array text values) = true
keeps_list (glue.Pack slots) = true
keeps_list (glue.Route args) = true
keeps_list (glue.Select w args) = true
keeps_list (glue.ListAppend w atoms) = true
keeps_list (glue.ListPrepend atoms) = true
keeps_list (glue.Table name z) = true
keeps_list _ = false

abbrev pub keeps_samples : Signal → Bool
keeps_samples (signal.Delwrite name z) = true
keeps_samples (signal.Send w name) = true
keeps_samples (signal.Catch name) = true
keeps_samples (signal.Dac channels) = true
keeps_samples _ = false
