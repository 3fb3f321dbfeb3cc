-- A block leaves in order what the boxes keep, and in their range the values that they keep and that their outlets give.
use Rattle.std.proofs.Common.{ℕ, ℤ, pos, zero, suc, ◌+◌, ◌*◌, ◌≤◌, Bool, true, false, List, [], ◌∷◌, length, map, replicate, Option, Some, None, IfSome, option_and_then, arith}
use Rattle.std.specs.List.{AllByRecursion, range_with_len}
use Rattle.pd_num.specs.Scale.{signal_of}
use Rattle.pd_atom.specs.Names.{Names}
use Rattle.pd_object.specs.declared.kinds.Kind.{Kind}
use Rattle.pd_object.specs.declared.kinds.Kind.TheVariants as kind
use Rattle.pd_object.specs.declared.kinds.Signal.{Signal}
use Rattle.pd_object.specs.declared.kinds.Signal.TheVariants as signal
use Rattle.pd_object.specs.declared.kinds.SignalOperation.{SignalOperation}
use Rattle.pd_object.specs.declared.kinds.SignalFunction.{SignalFunction}
use Rattle.pd_object.specs.declared.kinds.Tone.{Tone}
use Rattle.pd_object.specs.declared.kinds.Tone.TheVariants as tone
use Rattle.pd_kind.specs.declared.states.State.{State}
use Rattle.pd_kind.specs.declared.states.State.TheVariants as state
use Rattle.pd_kind.specs.declared.tables.Line.{Line}
use Rattle.pd_object.specs.Ports.{ports_of}
use Rattle.pd_kind.specs.States.{silent_block}
use Rattle.pd_kind.specs.Tables.{table_of, shared_of, with_shared, block_begun}
use Rattle.pd_tone.specs.Tones.{circle, phases}
use Rattle.pd_tone.specs.Rows.{Ran as ToneRan, tone_row, row}
use Rattle.pd_signal.specs.Boxes.{Ran as SignalRan, gives, inlet}
use Rattle.pd_signal.specs.Rows.{operation_of, right_block, function_of, last_sample, factor_of, sig_row, operation_row, function_row, clip_row, line_row, samphold_row, lop_row, hip_row, delwrite_row, send_row, catch_row, snapshot_row, signal_row, run_of}
use Rattle.pd_signal.specs.Delays.{delayed}
use Rattle.pd_signal.specs.Ramps.{ramp_of}
use Rattle.pd_signal.specs.Samples.{zip_with, low_passed, kept_values}
use Rattle.pd_signal.specs.SharedRows.{RanShared, or_silence, heard_from, receive_row, throw_row, delread_row, shared_row, shared_run_of, tabread_row, table_row, table_run_of}
use Rattle.pd_vline.specs.Taken.{taken, left_by_run, state_at}
use Rattle.pd_turn.specs.Held.{held_first, held_later, held_of}
use Rattle.pd_turn.specs.Rows.{ran, still, silent_outs, is_sized, may_run, vline_if, values_from, signal_ran, table_ran, own_ran, is_fitting}
use Rattle.pd_turn.specs.Pairs.{RanWith, line_at, ran_beside, ran_alone, with_values, by_values, pair_by}
use Rattle.pd_block.specs.Inlets.{steady}
use Rattle.pd_block.specs.Nets.{Net, Sound}
use Rattle.pd_block.specs.Blocks.{values_in, begun, block_of}
use Rattle.pd_guards.specs.Order.{IsNumber, IsKept}
use Rattle.pd_guards.specs.Worlds.{AreKept}
use Rattle.pd_guards.specs.Sounds.{IsValue, AreValues, HasValues, IsSounding}
use Rattle.pd_keeping_law.proofs.SoundLemmas.{RanIn, PairIn, SoundIn, IsLeftByTurns, whole_in}
use Rattle.pd_guards.proofs.FactLemmas.{either, all-take, all-set, all-index, all-made}
use Rattle.pd_guards.proofs.WalkLemmas.{kept_later}
use Rattle.pd_guards.proofs.NumberLemmas.{near_pos, get_in}
use Rattle.pd_guards.proofs.SignalLemmas.{zero_value, signal_value, all-same, zip_values, sum_values, silent_values, operation_value, function_values, clipped_values, ramp_values, last_value, kept_in, low_values, high_values, written_values, read_values, table_values, base_value, FrontIn, taken_in, phase_less, share_values, cosine_values, noise_values}

-- blocks of values
abbrev InRange : List (List ℤ) → Type 0
InRange blocks = AllByRecursion AreValues blocks

abbrev AreNumbers : List ℤ → Type 0
AreNumbers values = AllByRecursion IsNumber values

zero_number : IsNumber (pos 0)
zero_number = near_pos 0 (omega arith)

-- the numbers that inlets hold
first_in : (s : State) → HasValues s → IsNumber (held_first s)
first_in (state.Phasor held phase rate) h = h.0
first_in (state.Osc held phase rate) h = h
first_in (state.SignalOperation left right) h = h.0
first_in (state.SignalFunction held) h = h
first_in (state.SignalClip held low high) h = h.0
first_in (state.Samphold held control last kept) h = h.0
first_in (state.Lop held hertz value rate) h = h.0
first_in (state.Hip held hertz value rate) h = h.0
first_in (state.Delwrite held values next ran) h = h.0
first_in (state.SignalSend held block) h = h.0
first_in (state.Throw held) h = h
first_in (state.Snapshot held last) h = h
first_in (state.SignalTabread held) h = h
first_in (state.Dac held) h = get_in held 0 h
first_in (state.SignalInlet held) h = h
first_in (state.SignalOutlet held) h = h
first_in s h = zero_number

later_in : (s : State) (i : ℕ) → HasValues s → IsNumber (held_later s i)
later_in (state.SignalOperation left right) i h = h.1
later_in (state.Samphold held control last kept) i h = h.1
later_in (state.Dac held) i h = get_in held i h
later_in s i h = zero_number

held_in : (s : State) (i : ℕ) → HasValues s → IsNumber (held_of s i)
held_in s zero h = first_in s h
held_in s (suc i) h = later_in s (suc i) h

-- what comes to inlets
inlet_in : (ins : List (List ℤ)) (i : ℕ) → InRange ins → AreValues (inlet ins i)
inlet_in ins i h = all-index AreValues ins i [] tt h

last_in : (ins : List (List ℤ)) (i : ℕ) → InRange ins → IsValue (last_sample (inlet ins i))
last_in ins i h = all-index IsValue (inlet ins i) 63 (pos 0) zero_value (inlet_in ins i h)

steady_in : (z : ℤ) → IsNumber z → AreValues (steady z)
unfolding steady
steady_in z h = all-same IsValue 64 (signal_of z) (signal_value z h)

-- blocks that outlets give
outs_in : (count : ℕ) → InRange (silent_outs count)
outs_in count = all-take AreValues count (silent_block ∷ []) (silent_values, tt)

values_are : (o : Option (List ℤ)) → IfSome o AreNumbers → AreNumbers (values_in o)
values_are None h = tt
values_are (Some values) h = h

or_values : (shared : List ℤ) → AreValues shared → AreValues (or_silence shared)
or_values [] h = silent_values
or_values (x ∷ xs) h = h

heard_values : (shared block : List ℤ) → AreValues block → AreValues (heard_from shared block)
heard_values [] block h = silent_values
heard_values (x ∷ xs) block h = h

right_in : (a : Option ℤ) (right : ℤ) (ins : List (List ℤ)) → IsNumber right → InRange ins → AreValues (right_block a right ins)
right_in (Some argument) right ins h i = all-same IsValue 64 (signal_of right) (signal_value right h)
right_in None right ins h i = inlet_in ins 1 i

module _ (names : Names) (later : ℕ) where
  abbrev P : State → Type 0
  P s = IsKept names later s × HasValues s

  -- the rows
  record RowIn (r : SignalRan) : Type 0 where
    state : P r.state
    outs : InRange r.outs

  stays : (s : State) (outs : List (List ℤ)) → P s → InRange outs → RowIn (record { state = s; outs = outs })
  stays s outs h o = record { state = h; outs = o }

  giving : (s : State) (outs : List (List ℤ)) (block : List ℤ) → P s → InRange outs → AreValues block → RowIn (gives s outs block)
  giving s outs block h o b = record { state = h; outs = all-set AreValues outs 0 block b o }

  sig_in : (s : State) (outs : List (List ℤ)) → P s → InRange outs → RowIn (sig_row s outs)
  sig_in (state.Sig z) outs h o = giving (state.Sig z) outs (replicate 64 (signal_of z)) h o (all-same IsValue 64 (signal_of z) (signal_value z h.1))
  sig_in s outs h o = stays s outs h o

  operation_in : (p : SignalOperation) (a : Option ℤ) (s : State) (ins outs : List (List ℤ)) → P s → InRange ins → InRange outs → RowIn (operation_row p a s ins outs)
  operation_in p a (state.SignalOperation left right) ins outs h i o =
      giving (state.SignalOperation left right) outs (zip_with (operation_of p) (inlet ins 0) (right_block a right ins)) h o
      (zip_values (operation_of p) (operation_value p) (inlet ins 0) (right_block a right ins) (inlet_in ins 0 i) (right_in a right ins h.1.1 i))
  operation_in p a s ins outs h i o = stays s outs h o

  function_in : (f : SignalFunction) (s : State) (ins outs : List (List ℤ)) → P s → InRange ins → InRange outs → RowIn (function_row f s ins outs)
  function_in f (state.SignalFunction held) ins outs h i o =
      giving (state.SignalFunction held) outs (map (function_of f) (inlet ins 0)) h o (function_values f (inlet ins 0) (inlet_in ins 0 i))
  function_in f s ins outs h i o = stays s outs h o

  clip_in : (s : State) (ins outs : List (List ℤ)) → P s → InRange ins → InRange outs → RowIn (clip_row s ins outs)
  clip_in (state.SignalClip held low high) ins outs h i o =
      giving (state.SignalClip held low high) outs _ h o
      (clipped_values (signal_of low) (signal_of high) (inlet ins 0) (signal_value low h.1.1) (signal_value high h.1.2) (inlet_in ins 0 i))
  clip_in s ins outs h i o = stays s outs h o

  line_in : (s : State) (outs : List (List ℤ)) → P s → InRange outs → RowIn (line_row s outs)
  line_in (state.Line slope) outs h o = giving _ outs (ramp_of slope) h o (ramp_values slope h.1.1)
  line_in s outs h o = stays s outs h o

  samphold_in : (s : State) (ins outs : List (List ℤ)) → P s → InRange ins → InRange outs → RowIn (samphold_row s ins outs)
  samphold_in (state.Samphold held control last kept) ins outs h i o =
      let b : AreValues (kept_values last kept (inlet ins 0) (inlet ins 1)) = kept_in last kept (inlet ins 0) (inlet ins 1) h.1.3 (inlet_in ins 0 i) in
      giving _ outs (kept_values last kept (inlet ins 0) (inlet ins 1))
      (tt, (h.1.0, h.1.1, last_in ins 1 i, last_value kept (kept_values last kept (inlet ins 0) (inlet ins 1)) h.1.3 b)) o b
  samphold_in s ins outs h i o = stays s outs h o

  lop_in : (s : State) (ins outs : List (List ℤ)) → P s → InRange ins → InRange outs → RowIn (lop_row s ins outs)
  lop_in (state.Lop held hertz value rate) ins outs h i o =
      let b : AreValues (low_passed (factor_of rate hertz) value (inlet ins 0)) = low_values (factor_of rate hertz) value (inlet ins 0) in
      giving _ outs (low_passed (factor_of rate hertz) value (inlet ins 0)) (tt, (h.1.0, last_value value (low_passed (factor_of rate hertz) value (inlet ins 0)) h.1.1 b)) o b
  lop_in s ins outs h i o = stays s outs h o

  hip_in : (s : State) (ins outs : List (List ℤ)) → P s → InRange ins → InRange outs → RowIn (hip_row s ins outs)
  hip_in (state.Hip held hertz value rate) ins outs h i o =
      let b : AreValues (low_passed (factor_of rate hertz) value (inlet ins 0)) = low_values (factor_of rate hertz) value (inlet ins 0) in
      giving _ outs _ (tt, (h.1.0, last_value value (low_passed (factor_of rate hertz) value (inlet ins 0)) h.1.1 b)) o
      (high_values (factor_of rate hertz) value (inlet ins 0) (inlet_in ins 0 i))
  hip_in s ins outs h i o = stays s outs h o

  delwrite_in : (s : State) (ins outs : List (List ℤ)) → P s → InRange ins → InRange outs → RowIn (delwrite_row s ins outs)
  delwrite_in (state.Delwrite held ring next ran) ins outs h i o = stays _ outs (tt, (h.1.0, written_values ring next (inlet ins 0) h.1.1 (inlet_in ins 0 i))) o
  delwrite_in s ins outs h i o = stays s outs h o

  send_in : (s : State) (ins outs : List (List ℤ)) → P s → InRange ins → InRange outs → RowIn (send_row s ins outs)
  send_in (state.SignalSend held block) ins outs h i o = stays _ outs (tt, (h.1.0, inlet_in ins 0 i)) o
  send_in s ins outs h i o = stays s outs h o

  catch_in : (s : State) (outs : List (List ℤ)) → P s → InRange outs → RowIn (catch_row s outs)
  catch_in (state.Catch sum) outs h o = giving (state.Catch silent_block) outs sum (tt, silent_values) o h.1
  catch_in s outs h o = stays s outs h o

  snapshot_in : (s : State) (ins outs : List (List ℤ)) → P s → InRange ins → InRange outs → RowIn (snapshot_row s ins outs)
  snapshot_in (state.Snapshot held last) ins outs h i o = stays _ outs (last_in ins 0 i, h.1) o
  snapshot_in s ins outs h i o = stays s outs h o

  signal_row-in : (g : Signal) (s : State) (ins outs : List (List ℤ)) → P s → InRange ins → InRange outs → RowIn (signal_row g s ins outs)
  signal_row-in (signal.Sig z) s ins outs h i o = sig_in s outs h o
  signal_row-in (signal.Operation p a) s ins outs h i o = operation_in p a s ins outs h i o
  signal_row-in (signal.Function f) s ins outs h i o = function_in f s ins outs h i o
  signal_row-in (signal.Clip low high) s ins outs h i o = clip_in s ins outs h i o
  signal_row-in signal.Line s ins outs h i o = line_in s outs h o
  signal_row-in signal.Samphold s ins outs h i o = samphold_in s ins outs h i o
  signal_row-in (signal.Lop hertz) s ins outs h i o = lop_in s ins outs h i o
  signal_row-in (signal.Hip hertz) s ins outs h i o = hip_in s ins outs h i o
  signal_row-in (signal.Delwrite name time) s ins outs h i o = delwrite_in s ins outs h i o
  signal_row-in (signal.Send w name) s ins outs h i o = send_in s ins outs h i o
  signal_row-in (signal.Catch name) s ins outs h i o = catch_in s outs h o
  signal_row-in signal.Snapshot s ins outs h i o = snapshot_in s ins outs h i o
  signal_row-in g s ins outs h i o = stays s outs h o

  run_in : (k : Kind) (s : State) (ins outs : List (List ℤ)) → P s → InRange ins → InRange outs → RowIn (run_of k s ins outs)
  unfolding run_of
  run_in (kind.Signal g) s ins outs h i o = signal_row-in g s ins outs h i o
  run_in k s ins outs h i o = stays s outs h o

  -- beside another box's values
  record SharedIn (r : RanShared) : Type 0 where
    ran : RowIn r.ran
    shared : AreValues r.shared

  receive_in : (s : State) (outs : List (List ℤ)) (shared : List ℤ) → P s → InRange outs → AreValues shared → RowIn (receive_row s outs shared)
  receive_in state.Bare outs shared h o v = giving state.Bare outs (or_silence shared) h o (or_values shared v)
  receive_in s outs shared h o v = stays s outs h o

  throw_in : (s : State) (ins outs : List (List ℤ)) (shared : List ℤ) → P s → InRange ins → InRange outs → AreValues shared → SharedIn (throw_row s ins outs shared)
  throw_in (state.Throw held) ins outs shared h i o v = record { ran = stays (state.Throw held) outs h o; shared = sum_values shared (inlet ins 0) v (inlet_in ins 0 i) }
  throw_in s ins outs shared h i o v = record { ran = stays s outs h o; shared = v }

  delread_in : (s : State) (outs : List (List ℤ)) (shared : List ℤ) (line : Line) → P s → InRange outs → AreValues shared → RowIn (delread_row s outs shared line)
  delread_in (state.Delread time rate) outs shared line h o v =
      giving (state.Delread time rate) outs _ h o (heard_values shared (delayed shared line rate time) (read_values shared _ v))
  delread_in s outs shared line h o v = stays s outs h o

  shared_in : (g : Signal) (s : State) (ins outs : List (List ℤ)) (shared : List ℤ) (line : Line) → P s → InRange ins → InRange outs → AreValues shared → SharedIn (shared_row g s ins outs shared line)
  shared_in (signal.Receive w name) s ins outs shared line h i o v = record { ran = receive_in s outs shared h o v; shared = v }
  shared_in (signal.Throw name) s ins outs shared line h i o v = throw_in s ins outs shared h i o v
  shared_in (signal.Delread name time) s ins outs shared line h i o v = record { ran = delread_in s outs shared line h o v; shared = v }
  shared_in g s ins outs shared line h i o v = record { ran = stays s outs h o; shared = v }

  shared_run : (k : Kind) (s : State) (ins outs : List (List ℤ)) (shared : List ℤ) (line : Line) → P s → InRange ins → InRange outs → AreValues shared → SharedIn (shared_run_of k s ins outs shared line)
  unfolding shared_run_of
  shared_run (kind.Signal g) s ins outs shared line h i o v = shared_in g s ins outs shared line h i o v
  shared_run k s ins outs shared line h i o v = record { ran = stays s outs h o; shared = v }

  -- beside a table
  tabread_in : (s : State) (ins outs : List (List ℤ)) (table : List ℤ) → P s → InRange outs → AreNumbers table → RowIn (tabread_row s ins outs table)
  tabread_in (state.SignalTabread held) ins outs table h o v = giving (state.SignalTabread held) outs _ h o (table_values table (inlet ins 0) v)
  tabread_in s ins outs table h o v = stays s outs h o

  table_signal : (g : Signal) (s : State) (ins outs : List (List ℤ)) (table : List ℤ) → P s → InRange outs → AreNumbers table → RowIn (table_row g s ins outs table)
  table_signal (signal.Tabread name) s ins outs table h o v = tabread_in s ins outs table h o v
  table_signal g s ins outs table h o v = stays s outs h o

  table_run : (k : Kind) (s : State) (ins outs : List (List ℤ)) (table : List ℤ) → P s → InRange outs → AreNumbers table → RowIn (table_run_of k s ins outs table)
  unfolding table_run_of
  table_run (kind.Signal g) s ins outs table h o v = table_signal g s ins outs table h o v
  table_run k s ins outs table h o v = stays s outs h o

  -- tones
  record ToneIn (r : ToneRan) : Type 0 where
    state : P r.state
    outs : InRange r.outs

  tone_in : (t : Tone) (s : State) (ins outs : List (List ℤ)) → P s → InRange outs → ToneIn (tone_row t s ins outs)
  unfolding tone_row
  tone_in (tone.Phasor z) (state.Phasor held p rate) (input ∷ []) (out ∷ []) h o =
      record { state = (tt, (h.1.0, phase_less (circle rate) p input h.1.1)); outs = (share_values rate p input h.1.1, tt) }
  tone_in (tone.Osc z) (state.Osc held p rate) (input ∷ []) (out ∷ []) h o = record { state = h; outs = (cosine_values rate (phases (circle rate) p input), tt) }
  tone_in tone.Noise (state.Noise s) [] (out ∷ []) h o = record { state = h; outs = (noise_values 64 s, tt) }
  tone_in t s ins outs h o = record { state = h; outs = o }

  tone_run : (k : Kind) (s : State) (ins outs : List (List ℤ)) → P s → InRange outs → ToneIn (row k s ins outs)
  unfolding row
  tone_run (kind.Tone t) s ins outs h o = tone_in t s ins outs h o
  tone_run k s ins outs h o = record { state = h; outs = o }

  -- a box's turn
  ran_in : (s : State) (outs : List (List ℤ)) → P s → InRange outs → RanIn P AreValues (ran s outs)
  ran_in s outs h o = record { is = h; block = all-index AreValues outs 0 silent_block silent_values o }

  row_ran : (r : SignalRan) → RowIn r → RanIn P AreValues (ran r.state r.outs)
  row_ran r h = ran_in r.state r.outs h.state h.outs

  still_in : (s : State) → P s → RanIn P AreValues (still s)
  still_in s h = record { is = h; block = silent_values }

  vline_left : (start : ℕ) → start + 64000000000 ≤ later → (s : State) → P s → P (left_by_run start s)
  vline_left start l (state.Vline r) h =
      let f : FrontIn (taken (start + 64000000000) r.base r.ramps) = taken_in (start + 64000000000) r.base r.ramps h.1.base h.1.ramps in
      (l, record { base = f.base; ramps = f.ramps })
  vline_left start l s h = h

  vline_value : (s : State) (t : ℕ) → P s → IsValue (state_at s t)
  vline_value (state.Vline r) t h =
      let f : FrontIn (taken (suc t) r.base r.ramps) = taken_in (suc t) r.base r.ramps h.1.base h.1.ramps in
      base_value (taken (suc t) r.base r.ramps).base t f.base
  vline_value s t h = zero_value

  vline_block : (start : ℕ) (s : State) → P s → AreValues (values_from (state_at s) start)
  vline_block start s h = all-made IsValue (λ (i : ℕ). state_at s (start + i * 1000000000)) (λ i. vline_value s (start + i * 1000000000) h) (range_with_len 0 64)

  vline_in : (start : ℕ) → start + 64000000000 ≤ later → (b : Bool) (s : State) → P s → RanIn P AreValues (vline_if b start s)
  vline_in start l true s h = record { is = vline_left start l s h; block = vline_block start s h }
  vline_in start l false s h = still_in s h

  signal_turn : (k : Kind) (s : State) (ins : List (List ℤ)) → P s → InRange ins → RanIn P AreValues (signal_ran k s ins)
  signal_turn k s ins h i =
      let outs : List (List ℤ) = silent_outs (ports_of k).signal_outlets in
      either (RanIn P AreValues) (is_sized s) _ (still s) (row_ran (run_of k s ins outs) (run_in k s ins outs h i (outs_in (ports_of k).signal_outlets))) (still_in s h)

  tone_turn : (k : Kind) (s : State) (ins : List (List ℤ)) → P s → RanIn P AreValues (ran (row k s ins (silent_block ∷ [])).state (row k s ins (silent_block ∷ [])).outs)
  tone_turn k s ins h =
      let r : ToneIn (row k s ins (silent_block ∷ [])) = tone_run k s ins (silent_block ∷ []) h (silent_values, tt) in
      ran_in (row k s ins (silent_block ∷ [])).state (row k s ins (silent_block ∷ [])).outs r.state r.outs

  own_turn : (start : ℕ) → start + 64000000000 ≤ later → (k : Kind) (s : State) (ins : List (List ℤ)) → P s → InRange ins → RanIn P AreValues (own_ran start k s ins)
  own_turn start l (kind.Tone t) s ins h i = tone_turn (kind.Tone t) s ins h
  own_turn start l kind.Vline s ins h i = vline_in start l (may_run start s) s h
  own_turn start l k s ins h i = signal_turn k s ins h i

  table_turn : (k : Kind) (s : State) (ins : List (List ℤ)) (table : List ℤ) → P s → AreNumbers table → RanIn P AreValues (table_ran k s ins table)
  table_turn k s ins table h v =
      let outs : List (List ℤ) = silent_outs (ports_of k).signal_outlets in
      row_ran (table_run_of k s ins outs table) (table_run k s ins outs table h (outs_in (ports_of k).signal_outlets) v)

  beside_in : (k : Kind) (s : State) (ins : List (List ℤ)) (values : List ℤ) (line : Line) → P s → InRange ins → AreValues values → SharedIn (ran_beside k s ins values line)
  beside_in k s ins values line h i v = shared_run k s ins (silent_outs (ports_of k).signal_outlets) values line h i (outs_in (ports_of k).signal_outlets) v

  alone_turn : (k : Kind) (s : State) (ins : List (List ℤ)) (line : Line) → P s → InRange ins → RanIn P AreValues (ran_alone k s ins line)
  alone_turn k s ins line h i = row_ran (ran_beside k s ins [] line).ran (beside_in k s ins [] line h i tt).ran

  with_shared-in : (s : State) (left : List ℤ) → P s → AreValues left → P (with_shared s left)
  with_shared-in (state.SignalSend held block) left h v = (tt, (h.1.0, v))
  with_shared-in (state.Catch sum) left h v = (tt, v)
  with_shared-in (state.Delwrite held values next ran) left h v = (tt, (h.1.0, v))
  with_shared-in s left h v = h

  shared_of-in : (s : State) → P s → IfSome (shared_of s) AreValues
  shared_of-in (state.SignalSend held block) h = h.1.1
  shared_of-in (state.Catch sum) h = h.1
  shared_of-in (state.Delwrite held values next ran) h = h.1.1
  shared_of-in s h = tt

  record WithIn (r : RanWith) : Type 0 where
    is : RanIn P AreValues r.ran
    values : AreValues r.values

  with_in : (k : Kind) (s : State) (ins : List (List ℤ)) (line : Line) (values : List ℤ) → P s → InRange ins → AreValues values → WithIn (with_values k s ins line values)
  with_in k s ins line values h i v =
      let r : SharedIn (ran_beside k s ins values line) = beside_in k s ins values line h i v in
      record { is = row_ran (ran_beside k s ins values line).ran r.ran; values = r.shared }

  by_in : (k : Kind) (s : State) (ins : List (List ℤ)) (line : Line) (values : List ℤ) → P s → InRange ins → AreValues values → WithIn (by_values k s ins line values)
  by_in k s ins line values h i v =
      either WithIn (is_fitting k (length values) line) (with_values k s ins line values) _ (with_in k s ins line values h i v) (record { is = alone_turn k s ins line h i; values = v })

  pair_by-in : (k : Kind) (s : State) (ins : List (List ℤ)) (other : State) (line : Line) (o : Option (List ℤ)) → P s → InRange ins → P other → IfSome o AreValues → PairIn P AreValues (pair_by k s ins other line o)
  pair_by-in k s ins other line None h i j v = record { ran = alone_turn k s ins line h i; other = j }
  pair_by-in k s ins other line (Some values) h i j v =
      let w : WithIn (by_values k s ins line values) = by_in k s ins line values h i v in
      record { ran = w.is; other = with_shared-in other (by_values k s ins line values).values j w.values }

  table_of-in : (o : Option State) → IfSome o P → IfSome (option_and_then table_of o) AreNumbers
  table_of-in None h = tt
  table_of-in (Some (state.Table values)) h = h.0.numbers
  table_of-in (Some (state.Array values)) h = h.0.numbers
  table_of-in (Some s) h = tt

  begun_state : (s : State) → P s → P (block_begun s)
  begun_state (state.Delwrite held values next ran) h = h
  begun_state s h = h

  -- each turn leaves it so
  turns_in : (start : ℕ) → start + 64000000000 ≤ later → IsLeftByTurns start P AreValues AreNumbers
  turns_in start l =
      record {
        silence = silent_values;
        sums = sum_values;
        held = λ s i h. steady_in (held_of s i) (held_in s i h.1);
        unheld = steady_in (pos 0) zero_number;
        tables = λ o h. values_are (option_and_then table_of o) (table_of-in o h);
        no_table = tt;
        own = λ k s ins h i. own_turn start l k s ins h i.0;
        table = λ k s ins table h i v. table_turn k s ins table h v;
        alone = λ k s ins line h i. alone_turn k s ins line h i.0;
        pair = λ k s ins other h i j. pair_by-in k s ins other (line_at other) (shared_of other) h i.0 j (shared_of-in other j);
        begun = begun_state;
      }

-- what is in order is so later
both : (names : Names) (now later : ℕ) → now ≤ later → (o : Option State) → IfSome o (IsKept names now) → IfSome o HasValues → IfSome o (λ (s : State). IsKept names later s × HasValues s)
both names now later l None h k = tt
both names now later l (Some s) h k = (kept_later names now later l s h, k)

first_of_both : (names : Names) (later : ℕ) (o : Option State) → IfSome o (λ (s : State). IsKept names later s × HasValues s) → IfSome o (IsKept names later)
first_of_both names later None h = tt
first_of_both names later (Some s) h = h.0

second_of_both : (names : Names) (later : ℕ) (o : Option State) → IfSome o (λ (s : State). IsKept names later s × HasValues s) → IfSome o HasValues
second_of_both names later None h = tt
second_of_both names later (Some s) h = h.1

sound_in : (names : Names) (now later : ℕ) (s : Sound) → now ≤ later → AreKept names now s.states → IsSounding s → SoundIn (P names later) AreValues s
sound_in names now later s l h k = record { is = λ j. both names now later l (s.states j) (h j) (k.states j); blocks = k.blocks }

pub block_kept : (net : Net) (names : Names) (now later start : ℕ) (s : Sound) → now ≤ later → start + 64000000000 ≤ later → AreKept names now s.states → IsSounding s
    → AreKept names later (block_of net s start).sound.states
block_kept net names now later start s l e h k r =
    first_of_both names later ((block_of net s start).sound.states r) ((whole_in net start (P names later) AreValues AreNumbers (turns_in names later start e) s (sound_in names now later s l h k)).is r)

pub block_sounds : (net : Net) (names : Names) (now start : ℕ) (s : Sound) → AreKept names now s.states → IsSounding s → IsSounding (block_of net s start).sound
block_sounds net names now start s h k =
    let later : ℕ = now + (start + 64000000000) in
    let a : SoundIn (P names later) AreValues (block_of net s start).sound =
    whole_in net start (P names later) AreValues AreNumbers (turns_in names later start (omega arith)) s (sound_in names now later s (omega arith) h k) in
    record { states = λ r. second_of_both names later ((block_of net s start).sound.states r) (a.is r); blocks = a.blocks }
