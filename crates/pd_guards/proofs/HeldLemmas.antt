-- What a message changes leaves the values of signals that boxes keep in their range.
use Rattle.std.proofs.Common.{ℕ, ℤ, pos, negsuc, ◌*◌, ◌*ℤ◌, ◌+ℤ◌, ◌-ℤ◌, int_div, int_le, ◌<◌, nat_lt, nat_le, unsigned_abs, List, [], ◌∷◌, length, take, slice_set, suc, arith}
use Rattle.std.specs.Int.{int_rem_euclid}
use Rattle.std.specs.List.{AllByRecursion}
use Rattle.pd_num.specs.Scale.{signal_of}
use Rattle.pd_atom.specs.Names.{Names}
use Rattle.pd_atom.specs.declared.Atom.{Atom}
use Rattle.pd_atom.specs.declared.Atom.TheVariants as atom
use Rattle.pd_clock.specs.declared.times.Rate.{Rate}
use Rattle.pd_clock.specs.declared.times.Rate.TheVariants.{R44100, R48000, R88200, R96000}
use Rattle.pd_clock.specs.Rates.{samples}
use Rattle.pd_kind.specs.Books.{with_ramp_last}
use Rattle.pd_kind.specs.declared.states.Ramp.{Ramp}
use Rattle.pd_kind.specs.declared.states.Ramps.{Ramps}
use Rattle.pd_kind.specs.declared.states.Slope.{Slope}
use Rattle.pd_kind.specs.declared.states.State.{State}
use Rattle.pd_kind.specs.declared.states.State.TheVariants as state
use Rattle.pd_held.specs.Slopes.{slope_value, slope_to}
use Rattle.pd_held.specs.Stores.{phase_of}
use Rattle.pd_tone.specs.Tones.{circle}
use Rattle.pd_vline.specs.Rows as line
use Rattle.pd_vline.specs.Taken.{taken, present}
use Rattle.pd_keeping_law.specs.Changes.{Sayings, Becomes}
use Rattle.pd_keeping_law.specs.Changes as change
use Rattle.pd_keeping_law.proofs.ChangeLemmas.{IsNumberSaid, IsSaid}
use Rattle.pd_guards.specs.Order.{IsNumber, IsAtom, AreAtoms}
use Rattle.pd_guards.specs.Sounds.{IsValue, IsRamp, AreRamps, HasValues}
use Rattle.pd_guards.proofs.FactLemmas.{either, all-append, all-take, all-set, all-weaker}
use Rattle.pd_guards.proofs.SignalLemmas.{saturated_value, signal_value, base_value, taken_in}

-- what messages in order say
abbrev pub in_order : Sayings
in_order = record { numbers = IsNumber; edits = λ text next. Unit {0} }

number_said : (names : Names) (a : Atom) → IsAtom names a → IsNumberSaid in_order a
number_said names (atom.Number z) h = h.1
number_said names a h = tt

pub order_said : (names : Names) (selector : ℕ) (atoms : List Atom) → AreAtoms names atoms → IsSaid in_order names selector atoms
order_said names selector atoms h = record { numbers = all-weaker (IsAtom names) (IsNumberSaid in_order) (number_said names) atoms h; edits = λ text. tt }

-- a phase that a number sets
rest_small : (z : ℤ) → unsigned_abs (int_rem_euclid z (pos 1000000000)) < 1000000000
rest_small (pos n) = omega arith
rest_small (negsuc n) = omega arith

times_less : (n : ℕ) (rate : Rate) → n < 1000000000 → n * samples rate < circle rate
times_less n R44100 h = omega arith
times_less n R48000 h = omega arith
times_less n R88200 h = omega arith
times_less n R96000 h = omega arith

phase_small : (z : ℤ) (rate : Rate) → phase_of z rate < circle rate
phase_small z rate = times_less (unsigned_abs (int_rem_euclid (z *ℤ pos 1000) (pos 1000000000))) rate (rest_small (z *ℤ pos 1000))

-- `line~`
slope_value-in : (s : Slope) → IsValue s.target → IsValue (slope_value s)
slope_value-in s h = either IsValue (nat_le s.length s.at) s.target _ h (saturated_value (s.start +ℤ int_div ((s.target -ℤ s.start) *ℤ pos s.at) (pos s.length)))

slope_to-in : (s : Slope) (z : ℤ) → IsNumber z → HasValues (state.Line s) → HasValues (state.Line (slope_to s z))
slope_to-in s z n h = either (λ (x : Slope). HasValues (state.Line x)) (int_le s.time (pos 0)) _ _ (h.0, signal_value z n) (slope_value-in s h.1, signal_value z n)

-- `vline~`
present_value : (r : Ramps) (now : ℕ) → AreRamps r → IsValue (present r now)
present_value r now h = base_value (taken (suc now) r.base r.ramps).base now (taken_in (suc now) r.base r.ramps h.base h.ramps).base

ramp_sounds : (r : Ramps) (count : ℕ) (new : Ramp) → IsRamp new → AreRamps r → AreRamps (with_ramp_last r count new)
ramp_sounds r count new n h = record { base = h.base; ramps = all-append IsRamp (take count r.ramps) (new ∷ []) (all-take IsRamp count r.ramps h.ramps) (n, tt) }

-- what a box may keep next
pub value_kept : {s t : State} → Becomes in_order s t → HasValues s → HasValues t
value_kept change.same h = h
value_kept (change.further r q) h = value_kept q (value_kept r h)
value_kept (change.sig n) h = n
value_kept (change.phasor n) h = (n, h.1)
value_kept (change.phasor_phase {rate = rate} z n) h = (h.0, phase_small z rate)
value_kept (change.osc n) h = n
value_kept (change.signal_left n) h = (n, h.1)
value_kept (change.signal_right n) h = (h.0, n)
value_kept (change.signal_function n) h = n
value_kept (change.signal_clip n) h = (n, h.1, h.2)
value_kept (change.signal_low n) h = (h.0, n, h.2)
value_kept (change.signal_high n) h = (h.0, h.1, n)
value_kept (change.line_to {slope = slope} z n) h = slope_to-in slope z n h
value_kept (change.line_stop {slope = slope}) h = (h.0, slope_value-in slope h.1)
value_kept (change.samphold n) h = (n, h.1, h.2, h.3)
value_kept (change.samphold_control n) h = (h.0, n, h.2, h.3)
value_kept (change.lop n) h = (n, h.1)
value_kept (change.hip n) h = (n, h.1)
value_kept (change.delwrite n) h = (n, h.1)
value_kept (change.signal_send n) h = (n, h.1)
value_kept (change.throw n) h = n
value_kept (change.snapshot n) h = n
value_kept (change.signal_tabread n) h = n
value_kept (change.dac {held = held} i z n) h = either (AllByRecursion IsNumber) (nat_lt i (length held)) (slice_set held i z) held (all-set IsNumber held i z n h) h
value_kept (change.signal_inlet n) h = n
value_kept (change.signal_outlet n) h = n
value_kept (change.vline_times time delay) h = record { base = h.base; ramps = h.ramps }
value_kept (change.vline_ramp {ramps = r} count start end z n) h = ramp_sounds r count (record { start = start; end = end; target = signal_of z }) (signal_value z n) h
value_kept (change.vline_stop {ramps = r} count now) h = ramp_sounds r count (line.stop_ramp now (present r now)) (present_value r now h) h
value_kept r h = h
