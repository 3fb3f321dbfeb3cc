-- What the signal objects keep and give that need nothing of another box.
use Rattle.std.specs.Prelude.{ℤ, pos, negsuc, ◌*◌, ◌/◌, min, true, List, map, length, replicate, slice_index_or, Option, Some, None}
use Rattle.pd_num.specs.Scale.{billionths, signal_of, sum_of, difference_of, product_of, quotient_of}
use Rattle.pd_clock.specs.declared.times.Rate.{Rate}
use Rattle.pd_clock.specs.Rates.{samples}
use Rattle.pd_object.specs.declared.kinds.Kind.{Kind}
use Rattle.pd_object.specs.declared.kinds.Kind.TheVariants as kind
use Rattle.pd_object.specs.declared.kinds.Signal.{Signal}
use Rattle.pd_object.specs.declared.kinds.Signal.TheVariants as signal
use Rattle.pd_object.specs.declared.kinds.SignalOperation.{SignalOperation}
use Rattle.pd_object.specs.declared.kinds.SignalOperation.TheVariants as operation
use Rattle.pd_object.specs.declared.kinds.SignalFunction.{SignalFunction}
use Rattle.pd_object.specs.declared.kinds.SignalFunction.TheVariants as function
use Rattle.pd_kind.specs.declared.states.State.{State}
use Rattle.pd_kind.specs.declared.states.State.TheVariants as state
use Rattle.pd_kind.specs.States.{silent_block}
use Rattle.pd_signal.specs.Samples.{zip_with, greater_of, lesser_of, magnitude_of, wrapped, clipped, last_of, low_passed, high_passed, kept_values}
use Rattle.pd_signal.specs.Ramps.{ramp_of, slope_after}
use Rattle.pd_signal.specs.Rings.{written, places_on}
use Rattle.pd_signal.specs.Boxes.{Ran, gives, keeps, inlet}

-- `sig~`
abbrev pub sig_row : State → List (List ℤ) → Ran
sig_row (state.Sig z) outs = gives (state.Sig z) outs (replicate 64 (signal_of z))
sig_row s outs = keeps s outs

-- what `+~` `-~` `*~` `/~` `max~` `min~` give of two samples
abbrev pub operation_of : SignalOperation → ℤ → ℤ → ℤ
operation_of operation.Add = sum_of billionths
operation_of operation.Subtract = difference_of billionths
operation_of operation.Multiply = product_of billionths
operation_of operation.Divide = quotient_of billionths
operation_of operation.Greatest = greater_of
operation_of operation.Least = lesser_of

-- their right block: the stored number where they have an argument, and else the second inlet
abbrev pub right_block : Option ℤ → ℤ → List (List ℤ) → List ℤ
right_block (Some argument) right ins = replicate 64 (signal_of right)
right_block None right ins = inlet ins 1

abbrev pub operation_row : SignalOperation → Option ℤ → State → List (List ℤ) → List (List ℤ) → Ran
operation_row o argument (state.SignalOperation left right) ins outs =
    gives (state.SignalOperation left right) outs (zip_with (operation_of o) (inlet ins 0) (right_block argument right ins))
operation_row o argument s ins outs = keeps s outs

-- what `abs~` and `wrap~` give of a sample
abbrev pub function_of : SignalFunction → ℤ → ℤ
function_of function.Magnitude = magnitude_of
function_of function.Wrap = wrapped

abbrev pub function_row : SignalFunction → State → List (List ℤ) → List (List ℤ) → Ran
function_row f (state.SignalFunction held) ins outs = gives (state.SignalFunction held) outs (map (function_of f) (inlet ins 0))
function_row f s ins outs = keeps s outs

-- `clip~`
abbrev pub clip_row : State → List (List ℤ) → List (List ℤ) → Ran
clip_row (state.SignalClip held low high) ins outs =
    gives (state.SignalClip held low high) outs (map (clipped (signal_of low) (signal_of high)) (inlet ins 0))
clip_row s ins outs = keeps s outs

-- `line~`
abbrev pub line_row : State → List (List ℤ) → Ran
line_row (state.Line slope) outs = gives (state.Line (slope_after slope)) outs (ramp_of slope)
line_row s outs = keeps s outs

-- the last sample of a block
abbrev pub last_sample : List ℤ → ℤ
last_sample block = slice_index_or block 63 (pos 0)

-- `samphold~`
abbrev pub samphold_row : State → List (List ℤ) → List (List ℤ) → Ran
samphold_row (state.Samphold held control last kept) ins outs =
    gives (state.Samphold held control (last_sample (inlet ins 1)) (last_of kept (kept_values last kept (inlet ins 0) (inlet ins 1)))) outs
    (kept_values last kept (inlet ins 0) (inlet ins 1))
samphold_row s ins outs = keeps s outs

-- the factor of a low pass: 2 pi times the frequency over the rate, from 0 to 1
abbrev pub factor_of : Rate → ℤ → ℤ
factor_of rate (pos n) = pos (min (n * 6283185307 / (samples rate * 1000000)) billionths.unit)
factor_of rate (negsuc n) = pos 0

-- `lop~` and `hip~`
abbrev pub lop_row : State → List (List ℤ) → List (List ℤ) → Ran
lop_row (state.Lop held hertz value rate) ins outs =
    gives (state.Lop held hertz (last_of value (low_passed (factor_of rate hertz) value (inlet ins 0))) rate) outs
    (low_passed (factor_of rate hertz) value (inlet ins 0))
lop_row s ins outs = keeps s outs

abbrev pub hip_row : State → List (List ℤ) → List (List ℤ) → Ran
hip_row (state.Hip held hertz value rate) ins outs =
    gives (state.Hip held hertz (last_of value (low_passed (factor_of rate hertz) value (inlet ins 0))) rate) outs
    (high_passed (factor_of rate hertz) value (inlet ins 0))
hip_row s ins outs = keeps s outs

-- `delwrite~`: the block is written into the ring, and the box has run
abbrev pub delwrite_row : State → List (List ℤ) → List (List ℤ) → Ran
delwrite_row (state.Delwrite held ring next ran) ins outs =
    keeps (state.Delwrite held (written ring next (inlet ins 0)) (places_on (length ring) next 64) true) outs
delwrite_row s ins outs = keeps s outs

-- `send~`
abbrev pub send_row : State → List (List ℤ) → List (List ℤ) → Ran
send_row (state.SignalSend held block) ins outs = keeps (state.SignalSend held (inlet ins 0)) outs
send_row s ins outs = keeps s outs

-- `catch~`: it gives its sum, and clears it
abbrev pub catch_row : State → List (List ℤ) → Ran
catch_row (state.Catch sum) outs = gives (state.Catch silent_block) outs sum
catch_row s outs = keeps s outs

-- `snapshot~`
abbrev pub snapshot_row : State → List (List ℤ) → List (List ℤ) → Ran
snapshot_row (state.Snapshot held last) ins outs = keeps (state.Snapshot held (last_sample (inlet ins 0))) outs
snapshot_row s ins outs = keeps s outs

abbrev pub signal_row : Signal → State → List (List ℤ) → List (List ℤ) → Ran
signal_row (signal.Sig z) s ins outs = sig_row s outs
signal_row (signal.Operation o argument) s ins outs = operation_row o argument s ins outs
signal_row (signal.Function f) s ins outs = function_row f s ins outs
signal_row (signal.Clip low high) s ins outs = clip_row s ins outs
signal_row signal.Line s ins outs = line_row s outs
signal_row signal.Samphold s ins outs = samphold_row s ins outs
signal_row (signal.Lop hertz) s ins outs = lop_row s ins outs
signal_row (signal.Hip hertz) s ins outs = hip_row s ins outs
signal_row (signal.Delwrite name time) s ins outs = delwrite_row s ins outs
signal_row (signal.Send spelling name) s ins outs = send_row s ins outs
signal_row (signal.Catch name) s ins outs = catch_row s outs
signal_row signal.Snapshot s ins outs = snapshot_row s ins outs
signal_row _ s ins outs = keeps s outs

-- What a box of this kind keeps and gives that keeps this, when these blocks come to its signal inlets. A box of another kind keeps and
-- gives what it did.
unfoldable pub run_of : Kind → State → List (List ℤ) → List (List ℤ) → Ran
run_of (kind.Signal s) st ins outs = signal_row s st ins outs
run_of _ st ins outs = keeps st outs
