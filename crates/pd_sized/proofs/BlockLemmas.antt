-- A block leaves the sizes of what the boxes keep as they were, and each outlet gives 64 values.
use Rattle.std.proofs.Common.{◌≡◌, ◌⊎◌, ℕ, ℤ, pos, zero, suc, ◌+◌, ◌*◌, ◌<◌, ◌≤◌, ◌==◌, ◌&&◌, inl, inr, Bool, true, false, nat_le, nat_lt, List, [], ◌∷◌, length, map, replicate, Option, Some, None, refl, sym, ap, subst, ◌∙◌, arith}
use Rattle.std.proofs.lemmas.Bool.{leb-true, ltb-true, eqb-true, eq-eqb}
use Rattle.std.specs.List.{AllByRecursion}
use Rattle.pd_num.specs.Scale.{billionths, signal_of, sum_of, difference_of}
use Rattle.pd_object.specs.declared.kinds.Kind.{Kind}
use Rattle.pd_object.specs.declared.kinds.Kind.TheVariants as kind
use Rattle.pd_object.specs.declared.kinds.Signal.{Signal}
use Rattle.pd_object.specs.declared.kinds.Signal.TheVariants as signal
use Rattle.pd_object.specs.declared.kinds.SignalOperation.{SignalOperation}
use Rattle.pd_object.specs.declared.kinds.SignalFunction.{SignalFunction}
use Rattle.pd_object.specs.declared.kinds.Tone.{Tone}
use Rattle.pd_object.specs.declared.kinds.Tone.TheVariants as tone
use Rattle.pd_kind.specs.declared.states.State.{State}
use Rattle.pd_kind.specs.declared.states.State.TheVariants as state
use Rattle.pd_kind.specs.declared.tables.Line.{Line}
use Rattle.pd_object.specs.Ports.{ports_of}
use Rattle.pd_kind.specs.States.{silent_block, line_length}
use Rattle.pd_kind.specs.Tables.{shared_of, with_shared, block_begun}
use Rattle.pd_tone.specs.Cosine.{cosine}
use Rattle.pd_tone.specs.Tones.{circle, share, noise}
use Rattle.pd_clock.specs.Rates.{samples}
use Rattle.pd_tone.specs.Rows.{Ran as ToneRan, tone_row, row}
use Rattle.pd_signal.specs.Boxes.{Ran as SignalRan, gives, inlet}
use Rattle.pd_signal.specs.Rows.{operation_of, function_of, factor_of, sig_row, operation_row, function_row, clip_row, line_row, samphold_row, lop_row, hip_row, delwrite_row, send_row, catch_row, snapshot_row, signal_row, run_of}
use Rattle.pd_signal.specs.Samples.{zip_with, low_passed, kept_values, clipped}
use Rattle.pd_signal.specs.Delays.{delayed, way_back}
use Rattle.pd_signal.specs.Rings.{written, places_on, places_back}
use Rattle.pd_signal.specs.Ramps.{ramp_of}
use Rattle.pd_signal.specs.Tables.{value_at}
use Rattle.pd_signal.specs.SharedRows.{RanShared, SignalFits, Fits, or_silence, heard_from, receive_row, throw_row, delread_row, shared_row, shared_run_of, tabread_row, table_row, table_run_of}
use Rattle.pd_vline.specs.Taken.{left_by_run, state_at}
use Rattle.pd_turn.specs.Held.{held_of}
use Rattle.pd_turn.specs.Rows.{ran, still, silent_outs, is_ring, is_sized, may_run, vline_if, signal_ran, table_ran, own_ran, is_fitting}
use Rattle.pd_turn.specs.Pairs.{RanWith, line_at, ran_beside, ran_alone, with_values, by_values, pair_by}
use Rattle.pd_block.specs.Inlets.{steady}
use Rattle.pd_block.specs.Nets.{Net, Sound}
use Rattle.pd_block.specs.Blocks.{Played, ran_plain, each, silenced, ran_box, ran_canvas, begun, block_of}
use Rattle.pd_keeping_law.proofs.FactLemmas.{either, either_by, all-take, all-set, all-index}
use Rattle.pd_keeping_law.proofs.BlockLemmas.{box_keeps, silent_keeps, canvas_keeps}
use Rattle.pd_keeping_law.proofs.SoundLemmas.{inlets_of, HasInlets, RanIn, PairIn, IsLeftByTurns}
use Rattle.pd_keeping_law.proofs.SoundLemmas as kept
use Rattle.pd_sized.specs.Sizes.{HasSizes, IsBlock, IsWhole}
use Rattle.pd_sized.proofs.StartLemmas.{ring_true, silent_count, silent_sized}
use Rattle.pd_sized.proofs.TurnLemmas.{first_true, second_true, some_same}
use Rattle.pd_sized.proofs.LengthLemmas.{zip_block, map_block, same_block, low_block, kept_block, ramp_block, made_block, phases_block, noise_block, written_count, within_on, read_block}

-- blocks of 64 values
abbrev pub AreWhole : List (List ℤ) → Type 0
AreWhole blocks = AllByRecursion IsBlock blocks

-- what comes to inlets
at_block : (ins : List (List ℤ)) (i : ℕ) → i < length ins → AreWhole ins → IsBlock (inlet ins i)
at_block [] i l h = absurd (omega arith)
at_block (x ∷ xs) zero l h = h.0
at_block (x ∷ xs) (suc i) l h = at_block xs i (omega arith) h.1

only_block : (ins : List (List ℤ)) → HasInlets IsBlock 1 ins → IsBlock (inlet ins 0)
only_block ins i = let l : 1 ≤ length ins = i.1 in at_block ins 0 (omega arith) i.0

left_block : (ins : List (List ℤ)) → HasInlets IsBlock 2 ins → IsBlock (inlet ins 0)
left_block ins i = let l : 2 ≤ length ins = i.1 in at_block ins 0 (omega arith) i.0

right_block : (ins : List (List ℤ)) → HasInlets IsBlock 2 ins → IsBlock (inlet ins 1)
right_block ins i = let l : 2 ≤ length ins = i.1 in at_block ins 1 (omega arith) i.0

steady_in : (z : ℤ) → IsBlock (steady z)
unfolding steady
steady_in z = same_block (signal_of z)

-- blocks that outlets give
outs_in : (count : ℕ) → AreWhole (silent_outs count)
outs_in count = all-take IsBlock count (silent_block ∷ []) (silent_count, tt)

-- the rows
record RowIn (r : SignalRan) : Type 0 where
  state : HasSizes r.state
  outs : AreWhole r.outs

stays : (s : State) (outs : List (List ℤ)) → HasSizes s → AreWhole outs → RowIn (record { state = s; outs = outs })
stays s outs h o = record { state = h; outs = o }

giving : (s : State) (outs : List (List ℤ)) (block : List ℤ) → HasSizes s → AreWhole outs → IsBlock block → RowIn (gives s outs block)
giving s outs block h o b = record { state = h; outs = all-set IsBlock outs 0 block b o }

sig_in : (s : State) (outs : List (List ℤ)) → HasSizes s → AreWhole outs → RowIn (sig_row s outs)
sig_in (state.Sig z) outs h o = giving (state.Sig z) outs (replicate 64 (signal_of z)) h o (same_block (signal_of z))
sig_in s outs h o = stays s outs h o

pair_in-row : (p : SignalOperation) (s : State) (ins outs : List (List ℤ)) → HasSizes s → HasInlets IsBlock 2 ins → AreWhole outs → RowIn (operation_row p None s ins outs)
pair_in-row p (state.SignalOperation left right) ins outs h i o =
    giving (state.SignalOperation left right) outs (zip_with (operation_of p) (inlet ins 0) (inlet ins 1)) h o (zip_block (operation_of p) (inlet ins 0) (inlet ins 1) (left_block ins i) (right_block ins i))
pair_in-row p s ins outs h i o = stays s outs h o

steady_in-row : (p : SignalOperation) (a : ℤ) (s : State) (ins outs : List (List ℤ)) → HasSizes s → HasInlets IsBlock 1 ins → AreWhole outs → RowIn (operation_row p (Some a) s ins outs)
steady_in-row p a (state.SignalOperation left right) ins outs h i o =
    giving (state.SignalOperation left right) outs (zip_with (operation_of p) (inlet ins 0) (replicate 64 (signal_of right))) h o
    (zip_block (operation_of p) (inlet ins 0) (replicate 64 (signal_of right)) (only_block ins i) (same_block (signal_of right)))
steady_in-row p a s ins outs h i o = stays s outs h o

function_in : (f : SignalFunction) (s : State) (ins outs : List (List ℤ)) → HasSizes s → HasInlets IsBlock 1 ins → AreWhole outs → RowIn (function_row f s ins outs)
function_in f (state.SignalFunction held) ins outs h i o = giving (state.SignalFunction held) outs (map (function_of f) (inlet ins 0)) h o (map_block (function_of f) (inlet ins 0) (only_block ins i))
function_in f s ins outs h i o = stays s outs h o

clip_in : (s : State) (ins outs : List (List ℤ)) → HasSizes s → HasInlets IsBlock 1 ins → AreWhole outs → RowIn (clip_row s ins outs)
clip_in (state.SignalClip held low high) ins outs h i o =
    giving (state.SignalClip held low high) outs (map (clipped (signal_of low) (signal_of high)) (inlet ins 0)) h o (map_block (clipped (signal_of low) (signal_of high)) (inlet ins 0) (only_block ins i))
clip_in s ins outs h i o = stays s outs h o

line_in : (s : State) (outs : List (List ℤ)) → HasSizes s → AreWhole outs → RowIn (line_row s outs)
line_in (state.Line slope) outs h o = giving _ outs (ramp_of slope) h o (ramp_block slope)
line_in s outs h o = stays s outs h o

samphold_in : (s : State) (ins outs : List (List ℤ)) → HasSizes s → HasInlets IsBlock 2 ins → AreWhole outs → RowIn (samphold_row s ins outs)
samphold_in (state.Samphold held control last kept) ins outs h i o =
    giving _ outs (kept_values last kept (inlet ins 0) (inlet ins 1)) h o (kept_block last kept (inlet ins 0) (inlet ins 1) (left_block ins i) (right_block ins i))
samphold_in s ins outs h i o = stays s outs h o

lop_in : (s : State) (ins outs : List (List ℤ)) → HasSizes s → HasInlets IsBlock 1 ins → AreWhole outs → RowIn (lop_row s ins outs)
lop_in (state.Lop held hertz value rate) ins outs h i o =
    giving _ outs (low_passed (factor_of rate hertz) value (inlet ins 0)) h o (low_block (factor_of rate hertz) value (inlet ins 0) (only_block ins i))
lop_in s ins outs h i o = stays s outs h o

hip_in : (s : State) (ins outs : List (List ℤ)) → HasSizes s → HasInlets IsBlock 1 ins → AreWhole outs → RowIn (hip_row s ins outs)
hip_in (state.Hip held hertz value rate) ins outs h i o =
    giving _ outs (zip_with (difference_of billionths) (inlet ins 0) (low_passed (factor_of rate hertz) value (inlet ins 0))) h o
    (zip_block (difference_of billionths) (inlet ins 0) (low_passed (factor_of rate hertz) value (inlet ins 0)) (only_block ins i) (low_block (factor_of rate hertz) value (inlet ins 0) (only_block ins i)))
hip_in s ins outs h i o = stays s outs h o

-- the size of a ring, and its next place
record RingIn (count next : ℕ) : Type 0 where
  low : 64 ≤ count
  high : count ≤ 4294967296
  within : next < count

ring_in : (count next : ℕ) → is_ring count next ≡ true → RingIn count next
ring_in count next h =
    let rest : (nat_le count 4294967296 && nat_lt next count) ≡ true = second_true (nat_le 64 count) (nat_le count 4294967296 && nat_lt next count) h in
    record {
      low = leb-true 64 count (first_true (nat_le 64 count) (nat_le count 4294967296 && nat_lt next count) h);
      high = leb-true count 4294967296 (first_true (nat_le count 4294967296) (nat_lt next count) rest);
      within = ltb-true next count (second_true (nat_le count 4294967296) (nat_lt next count) rest);
    }

ring_on : (ring xs : List ℤ) (next : ℕ) → is_ring (length ring) next ≡ true → is_ring (length (written ring next xs)) (places_on (length ring) next 64) ≡ true
ring_on ring xs next h =
    let r : RingIn (length ring) next = ring_in (length ring) next h in
    subst (λ (n : ℕ). is_ring n (places_on (length ring) next 64) ≡ true) (sym (written_count ring next xs))
    (ring_true (length ring) (places_on (length ring) next 64) r.low r.high (within_on (length ring) next r.low r.within))

delwrite_in : (s : State) (ins outs : List (List ℤ)) → HasSizes s → AreWhole outs → RowIn (delwrite_row s ins outs)
delwrite_in (state.Delwrite held ring next ran) ins outs h o = stays _ outs (ring_on ring (inlet ins 0) next h) o
delwrite_in s ins outs h o = stays s outs h o

send_in : (s : State) (ins outs : List (List ℤ)) → HasSizes s → HasInlets IsBlock 1 ins → AreWhole outs → RowIn (send_row s ins outs)
send_in (state.SignalSend held block) ins outs h i o = stays (state.SignalSend held (inlet ins 0)) outs (eq-eqb (length (inlet ins 0)) 64 (only_block ins i)) o
send_in s ins outs h i o = stays s outs h o

catch_in : (s : State) (outs : List (List ℤ)) → HasSizes s → AreWhole outs → RowIn (catch_row s outs)
catch_in (state.Catch sum) outs h o = giving (state.Catch silent_block) outs sum silent_sized o (eqb-true (length sum) 64 h)
catch_in s outs h o = stays s outs h o

snapshot_in : (s : State) (ins outs : List (List ℤ)) → HasSizes s → AreWhole outs → RowIn (snapshot_row s ins outs)
snapshot_in (state.Snapshot held last) ins outs h o = stays _ outs h o
snapshot_in s ins outs h o = stays s outs h o

signal_row-in : (g : Signal) (s : State) (ins outs : List (List ℤ)) → HasSizes s → HasInlets IsBlock (inlets_of (kind.Signal g)) ins → AreWhole outs → RowIn (signal_row g s ins outs)
signal_row-in (signal.Sig z) s ins outs h i o = sig_in s outs h o
signal_row-in (signal.Operation p None) s ins outs h i o = pair_in-row p s ins outs h i o
signal_row-in (signal.Operation p (Some a)) s ins outs h i o = steady_in-row p a s ins outs h i o
signal_row-in (signal.Function f) s ins outs h i o = function_in f s ins outs h i o
signal_row-in (signal.Clip low high) s ins outs h i o = clip_in s ins outs h i o
signal_row-in signal.Line s ins outs h i o = line_in s outs h o
signal_row-in signal.Samphold s ins outs h i o = samphold_in s ins outs h i o
signal_row-in (signal.Lop hertz) s ins outs h i o = lop_in s ins outs h i o
signal_row-in (signal.Hip hertz) s ins outs h i o = hip_in s ins outs h i o
signal_row-in (signal.Delwrite name time) s ins outs h i o = delwrite_in s ins outs h o
signal_row-in (signal.Send w name) s ins outs h i o = send_in s ins outs h i o
signal_row-in (signal.Catch name) s ins outs h i o = catch_in s outs h o
signal_row-in signal.Snapshot s ins outs h i o = snapshot_in s ins outs h o
signal_row-in g s ins outs h i o = stays s outs h o

run_in : (k : Kind) (s : State) (ins outs : List (List ℤ)) → HasSizes s → HasInlets IsBlock (inlets_of k) ins → AreWhole outs → RowIn (run_of k s ins outs)
unfolding run_of
run_in (kind.Signal g) s ins outs h i o = signal_row-in g s ins outs h i o
run_in k s ins outs h i o = stays s outs h o

-- beside another box's values, which stay as many
record SharedIn (shared : List ℤ) (r : RanShared) : Type 0 where
  ran : RowIn r.ran
  count : length r.shared ≡ length shared

or_block : (shared : List ℤ) → ((shared ≡ []) ⊎ IsBlock shared) → IsBlock (or_silence shared)
or_block [] f = silent_count
or_block (x ∷ xs) (inl e) = absurd (let n : length (x ∷ xs) ≡ 0 = ap length e in omega arith)
or_block (x ∷ xs) (inr e) = e

receive_in : (s : State) (outs : List (List ℤ)) (shared : List ℤ) → HasSizes s → AreWhole outs → IsBlock (or_silence shared) → RowIn (receive_row s outs shared)
receive_in state.Bare outs shared h o b = giving state.Bare outs (or_silence shared) h o b
receive_in s outs shared h o b = stays s outs h o

summed : (shared block : List ℤ) → IsBlock block → ((shared ≡ []) ⊎ IsBlock shared) → length (zip_with (sum_of billionths) shared block) ≡ length shared
summed [] block b f = refl
summed (x ∷ xs) block b (inl e) = absurd (let n : length (x ∷ xs) ≡ 0 = ap length e in omega arith)
summed (x ∷ xs) block b (inr e) = zip_block (sum_of billionths) (x ∷ xs) block e b ∙ sym e

throw_in : (s : State) (ins outs : List (List ℤ)) (shared : List ℤ) → HasSizes s → HasInlets IsBlock 1 ins → AreWhole outs → ((shared ≡ []) ⊎ IsBlock shared) → SharedIn shared (throw_row s ins outs shared)
throw_in (state.Throw held) ins outs shared h i o f = record { ran = stays (state.Throw held) outs h o; count = summed shared (inlet ins 0) (only_block ins i) f }
throw_in s ins outs shared h i o f = record { ran = stays s outs h o; count = refl }

heard_block : (shared block : List ℤ) → ((shared ≡ []) ⊎ IsBlock block) → IsBlock (heard_from shared block)
heard_block [] block f = silent_count
heard_block (x ∷ xs) block (inl e) = absurd (let n : length (x ∷ xs) ≡ 0 = ap length e in omega arith)
heard_block (x ∷ xs) block (inr e) = e

delread_in : (s : State) (outs : List (List ℤ)) (shared : List ℤ) (line : Line) → HasSizes s → AreWhole outs → ((shared ≡ []) ⊎ ((64 ≤ length shared) × (line.next < length shared))) → RowIn (delread_row s outs shared line)
delread_in (state.Delread time rate) outs shared line h o f =
    giving (state.Delread time rate) outs (heard_from shared (delayed shared line rate time)) h o
    (heard_block shared (delayed shared line rate time) (elim f [
      | inl e ↦ inl e
      | inr l ↦ inr (read_block shared (places_back (length shared) line.next (way_back (length shared) line.ran (line_length rate time))) l.0)
    ]))
delread_in s outs shared line h o f = stays s outs h o

shared_in : (g : Signal) (s : State) (ins outs : List (List ℤ)) (shared : List ℤ) (line : Line) → HasSizes s → HasInlets IsBlock (inlets_of (kind.Signal g)) ins → AreWhole outs → SignalFits g shared line
    → SharedIn shared (shared_row g s ins outs shared line)
shared_in (signal.Receive w name) s ins outs shared line h i o f = record { ran = receive_in s outs shared h o (or_block shared f); count = refl }
shared_in (signal.Throw name) s ins outs shared line h i o f = throw_in s ins outs shared h i o f
shared_in (signal.Delread name time) s ins outs shared line h i o f = record { ran = delread_in s outs shared line h o f; count = refl }
shared_in g s ins outs shared line h i o f = record { ran = stays s outs h o; count = refl }

shared_run : (k : Kind) (s : State) (ins outs : List (List ℤ)) (shared : List ℤ) (line : Line) → HasSizes s → HasInlets IsBlock (inlets_of k) ins → AreWhole outs → Fits k shared line → SharedIn shared (shared_run_of k s ins outs shared line)
unfolding shared_run_of
shared_run (kind.Signal g) s ins outs shared line h i o f = shared_in g s ins outs shared line h i o f
shared_run k s ins outs shared line h i o f = record { ran = stays s outs h o; count = refl }

-- beside a table
tabread_in : (s : State) (ins outs : List (List ℤ)) (table : List ℤ) → HasSizes s → HasInlets IsBlock 1 ins → AreWhole outs → RowIn (tabread_row s ins outs table)
tabread_in (state.SignalTabread held) ins outs table h i o = giving (state.SignalTabread held) outs (map (value_at table) (inlet ins 0)) h o (map_block (value_at table) (inlet ins 0) (only_block ins i))
tabread_in s ins outs table h i o = stays s outs h o

table_signal : (g : Signal) (s : State) (ins outs : List (List ℤ)) (table : List ℤ) → HasSizes s → HasInlets IsBlock (inlets_of (kind.Signal g)) ins → AreWhole outs → RowIn (table_row g s ins outs table)
table_signal (signal.Tabread name) s ins outs table h i o = tabread_in s ins outs table h i o
table_signal g s ins outs table h i o = stays s outs h o

table_run : (k : Kind) (s : State) (ins outs : List (List ℤ)) (table : List ℤ) → HasSizes s → HasInlets IsBlock (inlets_of k) ins → AreWhole outs → RowIn (table_run_of k s ins outs table)
unfolding table_run_of
table_run (kind.Signal g) s ins outs table h i o = table_signal g s ins outs table h i o
table_run k s ins outs table h i o = stays s outs h o

-- tones
record ToneIn (r : ToneRan) : Type 0 where
  state : HasSizes r.state
  outs : AreWhole r.outs

tone_in : (t : Tone) (s : State) (ins outs : List (List ℤ)) → HasSizes s → AreWhole ins → AreWhole outs → ToneIn (tone_row t s ins outs)
unfolding tone_row
tone_in (tone.Phasor z) (state.Phasor held p rate) (input ∷ []) (out ∷ []) h i o = record { state = h; outs = (phases_block (share (samples rate)) (circle rate) p input i.0, tt) }
tone_in (tone.Osc z) (state.Osc held p rate) (input ∷ []) (out ∷ []) h i o = record { state = h; outs = (phases_block (cosine (circle rate)) (circle rate) p input i.0, tt) }
tone_in tone.Noise (state.Noise s) [] (out ∷ []) h i o = record { state = h; outs = (noise_block noise s, tt) }
tone_in t s ins outs h i o = record { state = h; outs = o }

tone_run : (k : Kind) (s : State) (ins outs : List (List ℤ)) → HasSizes s → AreWhole ins → AreWhole outs → ToneIn (row k s ins outs)
unfolding row
tone_run (kind.Tone t) s ins outs h i o = tone_in t s ins outs h i o
tone_run k s ins outs h i o = record { state = h; outs = o }

-- a box's turn
ran_in : (s : State) (outs : List (List ℤ)) → HasSizes s → AreWhole outs → RanIn HasSizes IsBlock (ran s outs)
ran_in s outs h o = record { is = h; block = all-index IsBlock outs 0 silent_block silent_count o }

row_ran : (r : SignalRan) → RowIn r → RanIn HasSizes IsBlock (ran r.state r.outs)
row_ran r h = ran_in r.state r.outs h.state h.outs

still_in : (s : State) → HasSizes s → RanIn HasSizes IsBlock (still s)
still_in s h = record { is = h; block = silent_count }

vline_left : (start : ℕ) (s : State) → HasSizes s → HasSizes (left_by_run start s)
vline_left start (state.Vline r) h = h
vline_left start s h = h

vline_in : (start : ℕ) (b : Bool) (s : State) → HasSizes s → RanIn HasSizes IsBlock (vline_if b start s)
vline_in start true s h = record { is = vline_left start s h; block = made_block (λ (i : ℕ). state_at s (start + i * 1000000000)) }
vline_in start false s h = still_in s h

signal_turn : (k : Kind) (s : State) (ins : List (List ℤ)) → HasSizes s → HasInlets IsBlock (inlets_of k) ins → RanIn HasSizes IsBlock (signal_ran k s ins)
signal_turn k s ins h i =
    let outs : List (List ℤ) = silent_outs (ports_of k).signal_outlets in
    either (RanIn HasSizes IsBlock) (is_sized s) _ (still s) (row_ran (run_of k s ins outs) (run_in k s ins outs h i (outs_in (ports_of k).signal_outlets))) (still_in s h)

tone_turn : (k : Kind) (s : State) (ins : List (List ℤ)) → HasSizes s → AreWhole ins → RanIn HasSizes IsBlock (ran (row k s ins (silent_block ∷ [])).state (row k s ins (silent_block ∷ [])).outs)
tone_turn k s ins h i =
    let r : ToneIn (row k s ins (silent_block ∷ [])) = tone_run k s ins (silent_block ∷ []) h i (silent_count, tt) in
    ran_in (row k s ins (silent_block ∷ [])).state (row k s ins (silent_block ∷ [])).outs r.state r.outs

own_turn : (start : ℕ) (k : Kind) (s : State) (ins : List (List ℤ)) → HasSizes s → HasInlets IsBlock (inlets_of k) ins → RanIn HasSizes IsBlock (own_ran start k s ins)
own_turn start (kind.Tone t) s ins h i = tone_turn (kind.Tone t) s ins h i.0
own_turn start kind.Vline s ins h i = vline_in start (may_run start s) s h
own_turn start k s ins h i = signal_turn k s ins h i

table_turn : (k : Kind) (s : State) (ins : List (List ℤ)) (table : List ℤ) → HasSizes s → HasInlets IsBlock (inlets_of k) ins → RanIn HasSizes IsBlock (table_ran k s ins table)
table_turn k s ins table h i =
    let outs : List (List ℤ) = silent_outs (ports_of k).signal_outlets in
    row_ran (table_run_of k s ins outs table) (table_run k s ins outs table h i (outs_in (ports_of k).signal_outlets))

beside_in : (k : Kind) (s : State) (ins : List (List ℤ)) (values : List ℤ) (line : Line) → HasSizes s → HasInlets IsBlock (inlets_of k) ins → Fits k values line → SharedIn values (ran_beside k s ins values line)
beside_in k s ins values line h i f = shared_run k s ins (silent_outs (ports_of k).signal_outlets) values line h i (outs_in (ports_of k).signal_outlets) f

-- no values fit
none_fit : (k : Kind) (line : Line) → Fits k [] line
none_fit (kind.Signal (signal.Receive w name)) line = inl refl
none_fit (kind.Signal (signal.Throw name)) line = inl refl
none_fit (kind.Signal (signal.Delread name time)) line = inl refl
none_fit k line = tt

alone_turn : (k : Kind) (s : State) (ins : List (List ℤ)) (line : Line) → HasSizes s → HasInlets IsBlock (inlets_of k) ins → RanIn HasSizes IsBlock (ran_alone k s ins line)
alone_turn k s ins line h i = row_ran (ran_beside k s ins [] line).ran (beside_in k s ins [] line h i (none_fit k line)).ran

-- values that are looked at fit
fitting : (k : Kind) (values : List ℤ) (line : Line) → is_fitting k (length values) line ≡ true → Fits k values line
fitting (kind.Signal (signal.Receive w name)) values line e = inr (eqb-true (length values) 64 e)
fitting (kind.Signal (signal.Throw name)) values line e = inr (eqb-true (length values) 64 e)
fitting (kind.Signal (signal.Delread name time)) values line e =
    inr (
      leb-true 64 (length values) (first_true (nat_le 64 (length values)) (nat_lt line.next (length values)) e),
      ltb-true line.next (length values) (second_true (nat_le 64 (length values)) (nat_lt line.next (length values)) e),
    )
fitting k values line e = tt

-- another box with as many other values in place of its own
shared_sized : (other : State) (values left : List ℤ) → shared_of other ≡ Some values → length left ≡ length values → HasSizes other → HasSizes (with_shared other left)
shared_sized (state.SignalSend held block) values left e l h =
    let n : length block ≡ length left = ap length (some_same block values e) ∙ sym l in
    subst (λ (c : ℕ). (c == 64) ≡ true) n h
shared_sized (state.Catch sum) values left e l h =
    let n : length sum ≡ length left = ap length (some_same sum values e) ∙ sym l in
    subst (λ (c : ℕ). (c == 64) ≡ true) n h
shared_sized (state.Delwrite held ring next ran) values left e l h =
    let n : length ring ≡ length left = ap length (some_same ring values e) ∙ sym l in
    subst (λ (c : ℕ). is_ring c next ≡ true) n h
shared_sized s values left e l h = h

record WithIn (values : List ℤ) (r : RanWith) : Type 0 where
  is : RanIn HasSizes IsBlock r.ran
  count : length r.values ≡ length values

with_in : (k : Kind) (s : State) (ins : List (List ℤ)) (line : Line) (values : List ℤ) → HasSizes s → HasInlets IsBlock (inlets_of k) ins → Fits k values line → WithIn values (with_values k s ins line values)
with_in k s ins line values h i f =
    let r : SharedIn values (ran_beside k s ins values line) = beside_in k s ins values line h i f in
    record { is = row_ran (ran_beside k s ins values line).ran r.ran; count = r.count }

by_in : (k : Kind) (s : State) (ins : List (List ℤ)) (line : Line) (values : List ℤ) → HasSizes s → HasInlets IsBlock (inlets_of k) ins → WithIn values (by_values k s ins line values)
by_in k s ins line values h i =
    either_by (WithIn values) (is_fitting k (length values) line) (with_values k s ins line values) _ (λ e. with_in k s ins line values h i (fitting k values line e))
    (λ e. record { is = alone_turn k s ins line h i; count = refl })

pair_by-in : (k : Kind) (s : State) (ins : List (List ℤ)) (other : State) (line : Line) (o : Option (List ℤ)) → shared_of other ≡ o → HasSizes s → HasInlets IsBlock (inlets_of k) ins → HasSizes other → PairIn HasSizes IsBlock (pair_by k s ins other line o)
pair_by-in k s ins other line None e h i j = record { ran = alone_turn k s ins line h i; other = j }
pair_by-in k s ins other line (Some values) e h i j =
    let w : WithIn values (by_values k s ins line values) = by_in k s ins line values h i in
    record { ran = w.is; other = shared_sized other values (by_values k s ins line values).values e w.count j }

begun_state : (s : State) → HasSizes s → HasSizes (block_begun s)
begun_state (state.Delwrite held values next ran) h = h
begun_state s h = h

-- nothing is asked of tables
abbrev AnyTable : List ℤ → Type 0
AnyTable table = Unit {0}

-- each turn leaves it so
turns_in : (start : ℕ) → IsLeftByTurns start HasSizes IsBlock AnyTable
turns_in start =
    record {
      silence = silent_count;
      sums = zip_block (sum_of billionths);
      held = λ s i h. steady_in (held_of s i);
      unheld = steady_in (pos 0);
      tables = λ o h. tt;
      no_table = tt;
      own = own_turn start;
      table = λ k s ins table h i v. table_turn k s ins table h i;
      alone = alone_turn;
      pair = λ k s ins other h i j. pair_by-in k s ins other (line_at other) (shared_of other) refl h i j;
      begun = begun_state;
    }

-- what all boxes keep, and the blocks of their outlets
abbrev pub SoundIn : Sound → Type 0
SoundIn s = kept.SoundIn HasSizes IsBlock s

module _ (net : Net) (start : ℕ) where
  pub record PlayedIn (p : Played) : Type 0 where
    pub is : SoundIn p.sound

  plain_in : (p : Played) (node : ℕ) → SoundIn p.sound → SoundIn (ran_plain net start p node).sound
  plain_in = kept.plain_in net start HasSizes IsBlock AnyTable (turns_in start)

  silenced_in : (s : Sound) (node : ℕ) → SoundIn s → SoundIn (silenced s node)
  silenced_in = kept.silenced_in net start HasSizes IsBlock AnyTable (turns_in start)

  pub box_in : (inside : Played → ℕ → Played) → ((p : Played) (c : ℕ) → PlayedIn p → PlayedIn (inside p c)) → (p : Played) (node : ℕ) (o : Option ℕ) → PlayedIn p → PlayedIn (ran_box net start inside p node o)
  box_in inside k p node o a = record { is = box_keeps net start SoundIn plain_in silenced_in inside (λ q c h. (k q c (record { is = h })).is) p node o a.is }

  pub silent_in : (s : Sound) (ns : List ℕ) → SoundIn s → SoundIn (each silenced s ns)
  silent_in = silent_keeps net start SoundIn plain_in silenced_in

  pub canvas_in : (levels : ℕ) (p : Played) (canvas : ℕ) → PlayedIn p → PlayedIn (ran_canvas net start levels p canvas)
  canvas_in levels p canvas a = record { is = canvas_keeps net start SoundIn plain_in silenced_in levels p canvas a.is }

  pub begun_in : (s : Sound) → SoundIn s → SoundIn (begun s)
  begun_in = kept.begun_in net start HasSizes IsBlock AnyTable (turns_in start)

pub block_whole : (net : Net) (start : ℕ) (s : Sound) → IsWhole s → IsWhole (block_of net s start).sound
block_whole net start s h =
    let a : SoundIn (block_of net s start).sound = kept.whole_in net start HasSizes IsBlock AnyTable (turns_in start) s (record { is = h.states; blocks = h.blocks }) in
    record { states = a.is; blocks = a.blocks }
