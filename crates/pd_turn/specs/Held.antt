-- The numbers that signal inlets hold: the last that came to each.
use Rattle.std.specs.Prelude.{ℕ, zero, suc, ℤ, pos, List, replicate, slice_index_or}
use Rattle.pd_num.specs.Scale.{signal_of}
use Rattle.pd_kind.specs.declared.states.State.{State}
use Rattle.pd_kind.specs.declared.states.State.TheVariants as state

abbrev pub held_first : State → ℤ
held_first (state.Phasor held phase rate) = held
held_first (state.Osc held phase rate) = held
held_first (state.SignalOperation left right) = left
held_first (state.SignalFunction held) = held
held_first (state.SignalClip held low high) = held
held_first (state.Samphold held control last kept) = held
held_first (state.Lop held hertz value rate) = held
held_first (state.Hip held hertz value rate) = held
held_first (state.Delwrite held values next ran) = held
held_first (state.SignalSend held block) = held
held_first (state.Throw held) = held
held_first (state.Snapshot held last) = held
held_first (state.SignalTabread held) = held
held_first (state.Dac held) = slice_index_or held 0 (pos 0)
held_first (state.SignalInlet held) = held
held_first (state.SignalOutlet held) = held
held_first _ = pos 0

abbrev pub held_later : State → ℕ → ℤ
held_later (state.SignalOperation left right) i = right
held_later (state.Samphold held control last kept) i = control
held_later (state.Dac held) i = slice_index_or held i (pos 0)
held_later _ i = pos 0

-- the number that an inlet holds, counted from 0
abbrev pub held_of : State → ℕ → ℤ
held_of s zero = held_first s
held_of s (suc i) = held_later s (suc i)

-- the number that the first inlet holds, in each sample of a block
unfoldable pub held_block : State → List ℤ
held_block s = replicate 64 (signal_of (held_of s 0))
