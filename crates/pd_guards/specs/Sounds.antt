-- When the values of signals are in their range: those that boxes keep, and those of the blocks of their outlets.
use Rattle.std.specs.Prelude.{ℕ, ℤ, ◌<◌, List, Option, IfSome}
use Rattle.std.specs.List.{AllByRecursion}
use Rattle.pd_num.specs.Scale.{billionths, IsInRange}
use Rattle.pd_kind.specs.declared.states.Ramp.{Ramp}
use Rattle.pd_kind.specs.declared.states.Ramps.{Ramps}
use Rattle.pd_kind.specs.declared.states.State.{State}
use Rattle.pd_kind.specs.declared.states.State.TheVariants as state
use Rattle.pd_tone.specs.Tones.{circle}
use Rattle.pd_hearing.specs.Worlds.{Net, Kept}
use Rattle.pd_block.specs.Nets.{Sound}
use Rattle.pd_guards.specs.Order.{IsNumber}

-- a value of a signal, and a block or a ring of them
abbrev pub IsValue : ℤ → Type 0
IsValue v = IsInRange billionths v

abbrev pub AreValues : List ℤ → Type 0
AreValues values = AllByRecursion IsValue values

-- a ramp leads to a value, and a base starts at one too
abbrev pub IsRamp : Ramp → Type 0
IsRamp r = IsValue r.target

abbrev pub IsBase : Ramp × ℤ → Type 0
IsBase base = IsRamp base.0 × IsValue base.1

pub record AreRamps (r : Ramps) : Type 0 where
  pub base : IfSome r.base IsBase
  pub ramps : AllByRecursion IsRamp r.ramps

-- The numbers of which a box makes values of signals, and the values of signals that it keeps, are in their ranges; the phase of a
-- `phasor~` lies on its circle. What `IsKept` says is not said again: of the values of tables, and of the value that a `snapshot~` keeps.
abbrev pub HasValues : State → Type 0
HasValues (state.Phasor held phase rate) = IsNumber held × (phase < circle rate)
HasValues (state.Osc held phase rate) = IsNumber held
HasValues (state.Sig z) = IsNumber z
HasValues (state.SignalOperation left right) = IsNumber left × IsNumber right
HasValues (state.SignalFunction held) = IsNumber held
HasValues (state.SignalClip held low high) = IsNumber held × IsNumber low × IsNumber high
HasValues (state.Line slope) = IsValue slope.start × IsValue slope.target
HasValues (state.Samphold held control last kept) = IsNumber held × IsNumber control × IsValue last × IsValue kept
HasValues (state.Lop held hertz value rate) = IsNumber held × IsValue value
HasValues (state.Hip held hertz value rate) = IsNumber held × IsValue value
HasValues (state.Delwrite held values next ran) = IsNumber held × AreValues values
HasValues (state.SignalSend held block) = IsNumber held × AreValues block
HasValues (state.Throw held) = IsNumber held
HasValues (state.Catch sum) = AreValues sum
HasValues (state.Snapshot held last) = IsNumber held
HasValues (state.SignalTabread held) = IsNumber held
HasValues (state.Dac held) = AllByRecursion IsNumber held
HasValues (state.SignalInlet held) = IsNumber held
HasValues (state.SignalOutlet held) = IsNumber held
HasValues (state.Vline r) = AreRamps r
HasValues s = Unit {0}

-- all boxes
abbrev pub HaveValues : (ℕ → Option State) → Type 0
HaveValues states = (k : ℕ) → IfSome (states k) HasValues

-- all boxes, and the blocks of their outlets
pub record IsSounding (s : Sound) : Type 0 where
  pub states : HaveValues s.states
  pub blocks : AllByRecursion (AllByRecursion AreValues) s.blocks

-- what boxes keep, beside the blocks of the outlets of a net
abbrev pub sound_with : Net → Kept → Sound
sound_with net kept = record { states = kept.states; blocks = net.blocks }
