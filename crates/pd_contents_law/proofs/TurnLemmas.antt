-- A turn in a block leaves the texts of message boxes, and as many values in each array and table, also of the other box.
use Rattle.std.proofs.Common.{ℕ, ℤ, Bool, true, false, List, [], ◌∷◌, length, Option, Some, None}
use Rattle.pd_atom.specs.Names.{Names}
use Rattle.pd_object.specs.declared.kinds.Kind.{Kind}
use Rattle.pd_object.specs.declared.kinds.Kind.TheVariants as kind
use Rattle.pd_object.specs.declared.kinds.Signal.{Signal}
use Rattle.pd_object.specs.declared.kinds.Signal.TheVariants as signal
use Rattle.pd_object.specs.declared.kinds.SignalOperation.{SignalOperation}
use Rattle.pd_object.specs.declared.kinds.SignalFunction.{SignalFunction}
use Rattle.pd_object.specs.declared.kinds.Tone.{Tone}
use Rattle.pd_object.specs.declared.kinds.Tone.TheVariants as tone
use Rattle.pd_kind.specs.declared.states.State.{State}
use Rattle.pd_kind.specs.declared.states.State.TheVariants as state
use Rattle.pd_kind.specs.declared.tables.Line.{Line}
use Rattle.pd_object.specs.Ports.{ports_of}
use Rattle.pd_kind.specs.Tables.{with_shared}
use Rattle.pd_tone.specs.Rows.{tone_row, row}
use Rattle.pd_signal.specs.Rows.{sig_row, operation_row, function_row, clip_row, line_row, samphold_row, lop_row, hip_row, delwrite_row, send_row, catch_row, snapshot_row, signal_row, run_of}
use Rattle.pd_signal.specs.SharedRows.{receive_row, throw_row, delread_row, shared_row, shared_run_of, tabread_row, table_row, table_run_of}
use Rattle.pd_vline.specs.Taken.{left_by_run}
use Rattle.pd_turn.specs.Rows.{Ran, silent_outs, is_sized, may_run, vline_if, signal_ran, table_ran, own_ran, is_fitting}
use Rattle.pd_turn.specs.Pairs.{Pair, RanWith, ran_beside, ran_alone, with_values, by_values, pair_by}
use Rattle.pd_guards.proofs.FactLemmas.{either}
use Rattle.pd_contents_law.specs.Contents.{HasContents}

-- in order where it was so, whatever is counted and whatever the names are
abbrev pub Keeps : State → State → Type 0
Keeps s t = (n : ℕ) (names : Names) → HasContents n names s → HasContents n names t

-- the rows
sig_kept : (s : State) (outs : List (List ℤ)) → Keeps s (sig_row s outs).state
sig_kept (state.Sig z) outs = λ n names h. h
sig_kept s outs = λ n names h. h

pair_kept : (p : SignalOperation) (s : State) (ins outs : List (List ℤ)) → Keeps s (operation_row p None s ins outs).state
pair_kept p (state.SignalOperation left right) ins outs = λ n names h. h
pair_kept p s ins outs = λ n names h. h

steady_kept : (p : SignalOperation) (a : ℤ) (s : State) (ins outs : List (List ℤ)) → Keeps s (operation_row p (Some a) s ins outs).state
steady_kept p a (state.SignalOperation left right) ins outs = λ n names h. h
steady_kept p a s ins outs = λ n names h. h

function_kept : (f : SignalFunction) (s : State) (ins outs : List (List ℤ)) → Keeps s (function_row f s ins outs).state
function_kept f (state.SignalFunction held) ins outs = λ n names h. h
function_kept f s ins outs = λ n names h. h

clip_kept : (s : State) (ins outs : List (List ℤ)) → Keeps s (clip_row s ins outs).state
clip_kept (state.SignalClip held low high) ins outs = λ n names h. h
clip_kept s ins outs = λ n names h. h

line_kept : (s : State) (outs : List (List ℤ)) → Keeps s (line_row s outs).state
line_kept (state.Line slope) outs = λ n names h. h
line_kept s outs = λ n names h. h

samphold_kept : (s : State) (ins outs : List (List ℤ)) → Keeps s (samphold_row s ins outs).state
samphold_kept (state.Samphold held control last kept) ins outs = λ n names h. h
samphold_kept s ins outs = λ n names h. h

lop_kept : (s : State) (ins outs : List (List ℤ)) → Keeps s (lop_row s ins outs).state
lop_kept (state.Lop held hertz value rate) ins outs = λ n names h. h
lop_kept s ins outs = λ n names h. h

hip_kept : (s : State) (ins outs : List (List ℤ)) → Keeps s (hip_row s ins outs).state
hip_kept (state.Hip held hertz value rate) ins outs = λ n names h. h
hip_kept s ins outs = λ n names h. h

delwrite_kept : (s : State) (ins outs : List (List ℤ)) → Keeps s (delwrite_row s ins outs).state
delwrite_kept (state.Delwrite held ring next ran) ins outs = λ n names h. h
delwrite_kept s ins outs = λ n names h. h

send_kept : (s : State) (ins outs : List (List ℤ)) → Keeps s (send_row s ins outs).state
send_kept (state.SignalSend held block) ins outs = λ n names h. h
send_kept s ins outs = λ n names h. h

catch_kept : (s : State) (outs : List (List ℤ)) → Keeps s (catch_row s outs).state
catch_kept (state.Catch sum) outs = λ n names h. h
catch_kept s outs = λ n names h. h

snapshot_kept : (s : State) (ins outs : List (List ℤ)) → Keeps s (snapshot_row s ins outs).state
snapshot_kept (state.Snapshot held last) ins outs = λ n names h. h
snapshot_kept s ins outs = λ n names h. h

signal_kept : (g : Signal) (s : State) (ins outs : List (List ℤ)) → Keeps s (signal_row g s ins outs).state
signal_kept (signal.Sig z) s ins outs = sig_kept s outs
signal_kept (signal.Operation p None) s ins outs = pair_kept p s ins outs
signal_kept (signal.Operation p (Some a)) s ins outs = steady_kept p a s ins outs
signal_kept (signal.Function f) s ins outs = function_kept f s ins outs
signal_kept (signal.Clip low high) s ins outs = clip_kept s ins outs
signal_kept signal.Line s ins outs = line_kept s outs
signal_kept signal.Samphold s ins outs = samphold_kept s ins outs
signal_kept (signal.Lop hertz) s ins outs = lop_kept s ins outs
signal_kept (signal.Hip hertz) s ins outs = hip_kept s ins outs
signal_kept (signal.Delwrite name time) s ins outs = delwrite_kept s ins outs
signal_kept (signal.Send w name) s ins outs = send_kept s ins outs
signal_kept (signal.Catch name) s ins outs = catch_kept s outs
signal_kept signal.Snapshot s ins outs = snapshot_kept s ins outs
signal_kept g s ins outs = λ n names h. h

run_kept : (k : Kind) (s : State) (ins outs : List (List ℤ)) → Keeps s (run_of k s ins outs).state
unfolding run_of
run_kept (kind.Signal g) s ins outs = signal_kept g s ins outs
run_kept k s ins outs = λ n names h. h

-- beside another box's values
receive_kept : (s : State) (outs : List (List ℤ)) (shared : List ℤ) → Keeps s (receive_row s outs shared).state
receive_kept state.Bare outs shared = λ n names h. h
receive_kept s outs shared = λ n names h. h

throw_kept : (s : State) (ins outs : List (List ℤ)) (shared : List ℤ) → Keeps s (throw_row s ins outs shared).ran.state
throw_kept (state.Throw held) ins outs shared = λ n names h. h
throw_kept s ins outs shared = λ n names h. h

delread_kept : (s : State) (outs : List (List ℤ)) (shared : List ℤ) (line : Line) → Keeps s (delread_row s outs shared line).state
delread_kept (state.Delread time rate) outs shared line = λ n names h. h
delread_kept s outs shared line = λ n names h. h

shared_kept : (g : Signal) (s : State) (ins outs : List (List ℤ)) (shared : List ℤ) (line : Line) → Keeps s (shared_row g s ins outs shared line).ran.state
shared_kept (signal.Receive w name) s ins outs shared line = receive_kept s outs shared
shared_kept (signal.Throw name) s ins outs shared line = throw_kept s ins outs shared
shared_kept (signal.Delread name time) s ins outs shared line = delread_kept s outs shared line
shared_kept g s ins outs shared line = λ n names h. h

shared_run : (k : Kind) (s : State) (ins outs : List (List ℤ)) (shared : List ℤ) (line : Line) → Keeps s (shared_run_of k s ins outs shared line).ran.state
unfolding shared_run_of
shared_run (kind.Signal g) s ins outs shared line = shared_kept g s ins outs shared line
shared_run k s ins outs shared line = λ n names h. h

-- beside a table
tabread_kept : (s : State) (ins outs : List (List ℤ)) (table : List ℤ) → Keeps s (tabread_row s ins outs table).state
tabread_kept (state.SignalTabread held) ins outs table = λ n names h. h
tabread_kept s ins outs table = λ n names h. h

table_signal : (g : Signal) (s : State) (ins outs : List (List ℤ)) (table : List ℤ) → Keeps s (table_row g s ins outs table).state
table_signal (signal.Tabread name) s ins outs table = tabread_kept s ins outs table
table_signal g s ins outs table = λ n names h. h

table_run : (k : Kind) (s : State) (ins outs : List (List ℤ)) (table : List ℤ) → Keeps s (table_run_of k s ins outs table).state
unfolding table_run_of
table_run (kind.Signal g) s ins outs table = table_signal g s ins outs table
table_run k s ins outs table = λ n names h. h

-- tones
tone_kept : (t : Tone) (s : State) (ins outs : List (List ℤ)) → Keeps s (tone_row t s ins outs).state
unfolding tone_row
tone_kept (tone.Phasor z) (state.Phasor held p rate) (input ∷ []) (out ∷ []) = λ n names h. h
tone_kept (tone.Osc z) (state.Osc held p rate) (input ∷ []) (out ∷ []) = λ n names h. h
tone_kept tone.Noise (state.Noise s) [] (out ∷ []) = λ n names h. h
tone_kept t s ins outs = λ n names h. h

tone_run : (k : Kind) (s : State) (ins outs : List (List ℤ)) → Keeps s (row k s ins outs).state
unfolding row
tone_run (kind.Tone t) s ins outs = tone_kept t s ins outs
tone_run k s ins outs = λ n names h. h

-- a box's turn
abbrev pub Turns : State → Ran → Type 0
Turns s r = Keeps s r.state

vline_left : (start : ℕ) (s : State) → Keeps s (left_by_run start s)
vline_left start (state.Vline r) = λ n names h. h
vline_left start s = λ n names h. h

vline_turn : (start : ℕ) (b : Bool) (s : State) → Turns s (vline_if b start s)
vline_turn start true s = vline_left start s
vline_turn start false s = λ n names h. h

signal_turn : (k : Kind) (s : State) (ins : List (List ℤ)) → Turns s (signal_ran k s ins)
signal_turn k s ins = either (Turns s) (is_sized s) _ _ (run_kept k s ins (silent_outs (ports_of k).signal_outlets)) (λ n names h. h)

pub own_turn : (start : ℕ) (k : Kind) (s : State) (ins : List (List ℤ)) → Turns s (own_ran start k s ins)
own_turn start (kind.Tone t) s ins = tone_run (kind.Tone t) s ins _
own_turn start kind.Vline s ins = vline_turn start (may_run start s) s
own_turn start k s ins = signal_turn k s ins

pub table_turn : (k : Kind) (s : State) (ins : List (List ℤ)) (table : List ℤ) → Turns s (table_ran k s ins table)
table_turn k s ins table = table_run k s ins (silent_outs (ports_of k).signal_outlets) table

pub beside_turn : (k : Kind) (s : State) (ins : List (List ℤ)) (values : List ℤ) (line : Line) → Keeps s (ran_beside k s ins values line).ran.state
beside_turn k s ins values line = shared_run k s ins (silent_outs (ports_of k).signal_outlets) values line

by_turn : (k : Kind) (s : State) (ins : List (List ℤ)) (line : Line) (values : List ℤ) → Turns s (by_values k s ins line values).ran
by_turn k s ins line values =
    either (λ (r : RanWith). Turns s r.ran) (is_fitting k (length values) line) (with_values k s ins line values) (record { ran = ran_alone k s ins line; values = values })
    (beside_turn k s ins values line) (beside_turn k s ins [] line)

shared_left : (other : State) (left : List ℤ) → Keeps other (with_shared other left)
shared_left (state.SignalSend held block) left = λ n names h. h
shared_left (state.Catch sum) left = λ n names h. h
shared_left (state.Delwrite held ring next ran) left = λ n names h. h
shared_left s left = λ n names h. h

-- a box and the other one
pub record PairKept (s o : State) (p : Pair) : Type 0 where
  pub ran : Turns s p.ran
  pub other : Keeps o p.other

pub pair_by-kept : (k : Kind) (s : State) (ins : List (List ℤ)) (other : State) (line : Line) (o : Option (List ℤ)) → PairKept s other (pair_by k s ins other line o)
pair_by-kept k s ins other line None = record { ran = beside_turn k s ins [] line; other = λ n names h. h }
pair_by-kept k s ins other line (Some values) = record { ran = by_turn k s ins line values; other = shared_left other (by_values k s ins line values).values }
