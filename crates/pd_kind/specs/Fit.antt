-- When a state is of a kind.
use Rattle.std.specs.Prelude.{ℕ, ℤ, pos, false, ◌≡◌, ◌<◌, ◌≤◌, ◌*◌, ◌^◌, length, List, [], None}
use Rattle.pd_clock.specs.declared.times.Rate.TheVariants.{R44100}
use Rattle.pd_clock.specs.Rates.{samples}
use Rattle.pd_object.specs.declared.kinds.Kind.{Kind}
use Rattle.pd_kind.specs.declared.states.State.{State}
use Rattle.pd_kind.specs.declared.states.State.TheVariants as state
use Rattle.pd_kind.specs.States.{start_of}

-- the state of the same objects with each number 0 and each list empty, at one rate; whether a toggle is saved with its values never changes
abbrev pub blank : State → State
blank state.Bare = state.Bare
blank (state.Message text) = state.Message []
blank (state.FloatBox value) = state.FloatBox (pos 0)
blank (state.SymbolBox value) = state.SymbolBox 0
blank (state.Array values) = state.Array []
blank (state.Float value) = state.Float (pos 0)
blank (state.Int value) = state.Int (pos 0)
blank (state.Symbol value) = state.Symbol 0
blank (state.Pack slots) = state.Pack []
blank (state.Route args) = state.Route []
blank (state.Select args) = state.Select []
blank (state.Moses bound) = state.Moses (pos 0)
blank (state.Spigot gate) = state.Spigot (pos 0)
blank (state.Swap left right) = state.Swap (pos 0) (pos 0)
blank (state.Change value) = state.Change (pos 0)
blank (state.Until running count) = state.Until false None
blank (state.Send name) = state.Send None
blank (state.Metro period) = state.Metro (pos 0)
blank (state.Delay time) = state.Delay (pos 0)
blank (state.Timer reset rate) = state.Timer 0 R44100
blank (state.Random seed range) = state.Random 0 (pos 0)
blank (state.ListAppend stored) = state.ListAppend []
blank (state.ListPrepend stored) = state.ListPrepend []
blank (state.ListSplit count) = state.ListSplit (pos 0)
blank (state.Operation left right) = state.Operation (pos 0) (pos 0)
blank (state.Comparison left right) = state.Comparison (pos 0) (pos 0)
blank (state.Division left right) = state.Division (pos 0) (pos 0)
blank (state.Clip low high) = state.Clip (pos 0) (pos 0)
blank (state.Table values) = state.Table []
blank (state.Tabwrite index) = state.Tabwrite (pos 0)
blank (state.Toggle value other saved) = state.Toggle (pos 0) (pos 0) saved
blank (state.Phasor held phase rate) = state.Phasor (pos 0) 0 R44100
blank (state.Osc held phase rate) = state.Osc (pos 0) 0 R44100
blank (state.Noise seed) = state.Noise 0
blank (state.Sig value) = state.Sig (pos 0)
blank (state.SignalOperation left right) = state.SignalOperation (pos 0) (pos 0)
blank (state.SignalFunction held) = state.SignalFunction (pos 0)
blank (state.SignalClip held low high) = state.SignalClip (pos 0) (pos 0) (pos 0)
blank (state.Line slope) = state.Line (record { time = pos 0; start = pos 0; target = pos 0; length = 0; at = 0; rate = R44100 })
blank (state.Samphold held control last kept) = state.Samphold (pos 0) (pos 0) (pos 0) (pos 0)
blank (state.Lop held hertz value rate) = state.Lop (pos 0) (pos 0) (pos 0) R44100
blank (state.Hip held hertz value rate) = state.Hip (pos 0) (pos 0) (pos 0) R44100
blank (state.Delwrite held values next ran) = state.Delwrite (pos 0) [] 0 false
blank (state.Delread time rate) = state.Delread (pos 0) R44100
blank (state.SignalSend held block) = state.SignalSend (pos 0) []
blank (state.Throw held) = state.Throw (pos 0)
blank (state.Catch sum) = state.Catch []
blank (state.Snapshot held last) = state.Snapshot (pos 0) (pos 0)
blank (state.SignalTabread held) = state.SignalTabread (pos 0)
blank (state.Dac held) = state.Dac []
blank (state.SignalInlet held) = state.SignalInlet (pos 0)
blank (state.SignalOutlet held) = state.SignalOutlet (pos 0)
blank (state.Vline ramps) = state.Vline (record { time = pos 0; delay = pos 0; end = 0; base = None; ramps = []; rate = R44100 })

-- how many values the list has whose length never changes
abbrev pub fixed_count : State → ℕ
fixed_count (state.Array values) = length values
fixed_count (state.Pack slots) = length slots
fixed_count (state.Route args) = length args
fixed_count (state.Select args) = length args
fixed_count (state.Table values) = length values
fixed_count (state.SignalSend held block) = length block
fixed_count (state.Catch sum) = length sum
fixed_count (state.Dac held) = length held
fixed_count _ = 0

-- a ring of at least a block, and the place of the next sample in it
pub record IsRing (values : List ℤ) (next : ℕ) : Type 0 where
  pub block : 64 ≤ length values
  pub within : next < length values

-- what the rows say of the other values: texts and stored atoms are at most 1,024, phases below the rate times 10^9, ramps at most 256
abbrev pub IsWithin : State → Type 0
IsWithin (state.Message text) = length text ≤ 1024
IsWithin (state.ListAppend stored) = length stored ≤ 1024
IsWithin (state.ListPrepend stored) = length stored ≤ 1024
IsWithin (state.Phasor held phase rate) = phase < samples rate * 10 ^ 9
IsWithin (state.Osc held phase rate) = phase < samples rate * 10 ^ 9
IsWithin (state.Delwrite held values next ran) = IsRing values next
IsWithin (state.Vline ramps) = length ramps.ramps ≤ 256
IsWithin _ = Unit {0}

-- The state keeps what the kind's row names, within the row's bounds: it is of the objects of the kind's first state, with as many values in
-- a list of fixed length. The first state is taken at one rate, since these don't depend on it.
pub record IsOfKind (k : Kind) (s : State) : Type 0 where
  pub same : blank s ≡ blank (start_of k R44100)
  pub count : fixed_count s ≡ fixed_count (start_of k R44100)
  pub within : IsWithin s

-- Another state of the same objects: it has as many values in a list of fixed length, and is within the bounds where the first one is.
pub record IsLike (old new : State) : Type 0 where
  pub same : blank new ≡ blank old
  pub count : fixed_count new ≡ fixed_count old
  pub within : IsWithin old → IsWithin new
