-- How messages change what boxes keep.
use Rattle.std.specs.Prelude.{◌≡◌, ℕ, ℤ, Bool, List, slice_get, slice_set, Option, Some, None, if◌then◌else◌}
use Rattle.pd_num.specs.Scale.{signal_of}
use Rattle.pd_atom.specs.Names.{Names}
use Rattle.pd_atom.specs.declared.Atom.{Atom}
use Rattle.pd_atom.specs.declared.Atom.TheVariants as atom
use Rattle.pd_clock.specs.declared.times.Rate.{Rate}
use Rattle.pd_kind.specs.Books.{with_times, with_ramp_last}
use Rattle.pd_kind.specs.States.{whole_at_least}
use Rattle.pd_kind.specs.declared.states.Ramps.{Ramps}
use Rattle.pd_kind.specs.declared.states.Slope.{Slope}
use Rattle.pd_kind.specs.declared.states.State.{State}
use Rattle.pd_kind.specs.declared.states.State.TheVariants as state
use Rattle.pd_held.specs.Slopes.{slope_to, slope_held}
use Rattle.pd_held.specs.Stores.{phase_of, with_time, held_at}
use Rattle.pd_message.specs.Rows.{edited}
use Rattle.pd_panel.specs.Rows.{is_zero}
use Rattle.pd_vline.specs.Rows.{stop_ramp}
use Rattle.pd_vline.specs.Taken.{present}

-- what messages say: which numbers, and how they edit texts
pub record Sayings : Type 1 where
  pub numbers : ℤ → Type 0
  pub edits : List Atom → List Atom → Type 0

-- one message: the numbers that stand among its atoms, and what a message box makes of it
abbrev pub said_by : Names → ℕ → List Atom → Sayings
said_by names selector atoms =
    record { numbers = λ z. (i : ℕ) × (slice_get atoms i ≡ Some (atom.Number z)); edits = λ text next. next ≡ (edited names text selector atoms).text }

-- no message, and any messages
abbrev pub nothing : Sayings
nothing = record { numbers = λ z. ⊥; edits = λ text next. ⊥ }

abbrev pub anything : Sayings
anything = record { numbers = λ z. Unit {0}; edits = λ text next. Unit {0} }

-- What a box may keep after messages that say so much: the same, or of the same object with other values. A control object may keep any; but
-- a text is edited as they say, the range of a `random` and the count of a `list split` are whole and at least so much, and 0 leaves the other
-- value of a `tgl`. A signal object holds and stores numbers that are said, and a `vline~` gets ramps that lead to one or hold the present value.
pub data Becomes (Said : Sayings) : State → State → Type 0 where
  same : {s : State} → Becomes Said s s
  further : {s t u : State} → Becomes Said s t → Becomes Said t u → Becomes Said s u
  message : {text next : List Atom} → Said.edits text next → Becomes Said (state.Message text) (state.Message next)
  float_box : {value next : ℤ} → Becomes Said (state.FloatBox value) (state.FloatBox next)
  symbol_box : {value next : ℕ} → Becomes Said (state.SymbolBox value) (state.SymbolBox next)
  array : {values : List ℤ} (i : ℕ) (z : ℤ) → Becomes Said (state.Array values) (state.Array (slice_set values i z))
  table : {values : List ℤ} (i : ℕ) (z : ℤ) → Becomes Said (state.Table values) (state.Table (slice_set values i z))
  float : {value next : ℤ} → Becomes Said (state.Float value) (state.Float next)
  int : {value next : ℤ} → Becomes Said (state.Int value) (state.Int next)
  symbol : {value next : ℕ} → Becomes Said (state.Symbol value) (state.Symbol next)
  pack : {slots next : List Atom} → Becomes Said (state.Pack slots) (state.Pack next)
  route : {args next : List Atom} → Becomes Said (state.Route args) (state.Route next)
  select : {args next : List Atom} → Becomes Said (state.Select args) (state.Select next)
  moses : {bound next : ℤ} → Becomes Said (state.Moses bound) (state.Moses next)
  spigot : {gate next : ℤ} → Becomes Said (state.Spigot gate) (state.Spigot next)
  swap : {left right first second : ℤ} → Becomes Said (state.Swap left right) (state.Swap first second)
  change : {value next : ℤ} → Becomes Said (state.Change value) (state.Change next)
  until : {running runs : Bool} {count next : Option ℕ} → Becomes Said (state.Until running count) (state.Until runs next)
  send : {name next : Option ℕ} → Becomes Said (state.Send name) (state.Send next)
  metro : {period next : ℤ} → Becomes Said (state.Metro period) (state.Metro next)
  delay : {time next : ℤ} → Becomes Said (state.Delay time) (state.Delay next)
  timer : {reset next : ℕ} {rate : Rate} → Becomes Said (state.Timer reset rate) (state.Timer next rate)
  random : {seed next : ℕ} {range : ℤ} (z : ℤ) → Becomes Said (state.Random seed range) (state.Random next (whole_at_least 1 z))
  list_append : {stored next : List Atom} → Becomes Said (state.ListAppend stored) (state.ListAppend next)
  list_prepend : {stored next : List Atom} → Becomes Said (state.ListPrepend stored) (state.ListPrepend next)
  list_split : {count : ℤ} (z : ℤ) → Becomes Said (state.ListSplit count) (state.ListSplit (whole_at_least 0 z))
  tabwrite : {index next : ℤ} → Becomes Said (state.Tabwrite index) (state.Tabwrite next)
  operation : {left right first second : ℤ} → Becomes Said (state.Operation left right) (state.Operation first second)
  comparison : {left right first second : ℤ} → Becomes Said (state.Comparison left right) (state.Comparison first second)
  division : {left right first second : ℤ} → Becomes Said (state.Division left right) (state.Division first second)
  clip : {low high least most : ℤ} → Becomes Said (state.Clip low high) (state.Clip least most)
  toggle : {value next other : ℤ} {saved : Bool} → Becomes Said (state.Toggle value other saved) (state.Toggle next other saved)
  toggle_other : {value other : ℤ} {saved : Bool} (z : ℤ) → Becomes Said (state.Toggle value other saved) (state.Toggle value (if is_zero z then other else z) saved)
  sig : {value z : ℤ} → Said.numbers z → Becomes Said (state.Sig value) (state.Sig z)
  phasor : {held z : ℤ} {phase : ℕ} {rate : Rate} → Said.numbers z → Becomes Said (state.Phasor held phase rate) (state.Phasor z phase rate)
  phasor_phase : {held : ℤ} {phase : ℕ} {rate : Rate} (z : ℤ) → Said.numbers z → Becomes Said (state.Phasor held phase rate) (state.Phasor held (phase_of z rate) rate)
  osc : {held z : ℤ} {phase : ℕ} {rate : Rate} → Said.numbers z → Becomes Said (state.Osc held phase rate) (state.Osc z phase rate)
  osc_phase : {held : ℤ} {phase : ℕ} {rate : Rate} (z : ℤ) → Said.numbers z → Becomes Said (state.Osc held phase rate) (state.Osc held (phase_of z rate) rate)
  signal_left : {left right z : ℤ} → Said.numbers z → Becomes Said (state.SignalOperation left right) (state.SignalOperation z right)
  signal_right : {left right z : ℤ} → Said.numbers z → Becomes Said (state.SignalOperation left right) (state.SignalOperation left z)
  signal_function : {held z : ℤ} → Said.numbers z → Becomes Said (state.SignalFunction held) (state.SignalFunction z)
  signal_clip : {held low high z : ℤ} → Said.numbers z → Becomes Said (state.SignalClip held low high) (state.SignalClip z low high)
  signal_low : {held low high z : ℤ} → Said.numbers z → Becomes Said (state.SignalClip held low high) (state.SignalClip held z high)
  signal_high : {held low high z : ℤ} → Said.numbers z → Becomes Said (state.SignalClip held low high) (state.SignalClip held low z)
  line_to : {slope : Slope} (z : ℤ) → Said.numbers z → Becomes Said (state.Line slope) (state.Line (slope_to slope z))
  line_time : {slope : Slope} (z : ℤ) → Said.numbers z → Becomes Said (state.Line slope) (state.Line (with_time slope z))
  line_stop : {slope : Slope} → Becomes Said (state.Line slope) (state.Line (slope_held slope))
  samphold : {held control last kept z : ℤ} → Said.numbers z → Becomes Said (state.Samphold held control last kept) (state.Samphold z control last kept)
  samphold_control : {held control last kept z : ℤ} → Said.numbers z → Becomes Said (state.Samphold held control last kept) (state.Samphold held z last kept)
  lop : {held hertz value z : ℤ} {rate : Rate} → Said.numbers z → Becomes Said (state.Lop held hertz value rate) (state.Lop z hertz value rate)
  lop_hertz : {held hertz value z : ℤ} {rate : Rate} → Said.numbers z → Becomes Said (state.Lop held hertz value rate) (state.Lop held z value rate)
  hip : {held hertz value z : ℤ} {rate : Rate} → Said.numbers z → Becomes Said (state.Hip held hertz value rate) (state.Hip z hertz value rate)
  hip_hertz : {held hertz value z : ℤ} {rate : Rate} → Said.numbers z → Becomes Said (state.Hip held hertz value rate) (state.Hip held z value rate)
  delwrite : {held z : ℤ} {values : List ℤ} {next : ℕ} {ran : Bool} → Said.numbers z → Becomes Said (state.Delwrite held values next ran) (state.Delwrite z values next ran)
  delread : {time z : ℤ} {rate : Rate} → Said.numbers z → Becomes Said (state.Delread time rate) (state.Delread z rate)
  signal_send : {held z : ℤ} {block : List ℤ} → Said.numbers z → Becomes Said (state.SignalSend held block) (state.SignalSend z block)
  throw : {held z : ℤ} → Said.numbers z → Becomes Said (state.Throw held) (state.Throw z)
  snapshot : {held last z : ℤ} → Said.numbers z → Becomes Said (state.Snapshot held last) (state.Snapshot z last)
  signal_tabread : {held z : ℤ} → Said.numbers z → Becomes Said (state.SignalTabread held) (state.SignalTabread z)
  dac : {held : List ℤ} (i : ℕ) (z : ℤ) → Said.numbers z → Becomes Said (state.Dac held) (state.Dac (held_at held i z))
  signal_inlet : {held z : ℤ} → Said.numbers z → Becomes Said (state.SignalInlet held) (state.SignalInlet z)
  signal_outlet : {held z : ℤ} → Said.numbers z → Becomes Said (state.SignalOutlet held) (state.SignalOutlet z)
  vline_times : {ramps : Ramps} (time delay : ℤ) → Becomes Said (state.Vline ramps) (state.Vline (with_times ramps time delay))
  vline_ramp : {ramps : Ramps} (kept start end : ℕ) (z : ℤ) → Said.numbers z
      → Becomes Said (state.Vline ramps) (state.Vline (with_ramp_last ramps kept (record { start = start; end = end; target = signal_of z })))
  vline_stop : {ramps : Ramps} (kept now : ℕ) → Becomes Said (state.Vline ramps) (state.Vline (with_ramp_last ramps kept (stop_ramp now (present ramps now))))

-- What a box may keep after its turns in blocks: the same, or of the same object with other values. The numbers that inlets hold and store stay,
-- but for a `line~` and a `vline~`, of which all but the object may change.
pub data RunsOn : State → State → Type 0 where
  silent : {s : State} → RunsOn s s
  later : {s t u : State} → RunsOn s t → RunsOn t u → RunsOn s u
  phasor_on : {held : ℤ} {phase next : ℕ} {rate : Rate} → RunsOn (state.Phasor held phase rate) (state.Phasor held next rate)
  osc_on : {held : ℤ} {phase next : ℕ} {rate : Rate} → RunsOn (state.Osc held phase rate) (state.Osc held next rate)
  noise_on : {seed next : ℕ} → RunsOn (state.Noise seed) (state.Noise next)
  line_on : {slope next : Slope} → RunsOn (state.Line slope) (state.Line next)
  samphold_on : {held control last kept lasts keeps : ℤ} → RunsOn (state.Samphold held control last kept) (state.Samphold held control lasts keeps)
  lop_on : {held hertz value next : ℤ} {rate : Rate} → RunsOn (state.Lop held hertz value rate) (state.Lop held hertz next rate)
  hip_on : {held hertz value next : ℤ} {rate : Rate} → RunsOn (state.Hip held hertz value rate) (state.Hip held hertz next rate)
  delwrite_on : {held : ℤ} {values written : List ℤ} {place next : ℕ} {ran runs : Bool} → RunsOn (state.Delwrite held values place ran) (state.Delwrite held written next runs)
  send_on : {held : ℤ} {block next : List ℤ} → RunsOn (state.SignalSend held block) (state.SignalSend held next)
  catch_on : {sum next : List ℤ} → RunsOn (state.Catch sum) (state.Catch next)
  snapshot_on : {held last next : ℤ} → RunsOn (state.Snapshot held last) (state.Snapshot held next)
  vline_on : {ramps next : Ramps} → RunsOn (state.Vline ramps) (state.Vline next)

-- such a change under a key, where nothing may be kept
pub data Passes (R : State → State → Type 0) : Option State → Option State → Type 0 where
  absent : Passes R None None
  kept : {s t : State} → R s t → Passes R (Some s) (Some t)

-- such changes of all boxes
abbrev pub AllPass : (State → State → Type 0) → (ℕ → Option State) → (ℕ → Option State) → Type 0
AllPass R old new = (k : ℕ) → Passes R (old k) (new k)

abbrev pub AllBecome : Sayings → (ℕ → Option State) → (ℕ → Option State) → Type 0
AllBecome Said old new = AllPass (Becomes Said) old new

abbrev pub AllRunOn : (ℕ → Option State) → (ℕ → Option State) → Type 0
AllRunOn old new = AllPass RunsOn old new
