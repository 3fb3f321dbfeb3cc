-- What a box keeps after a turn in a block, and what the other box keeps.
use Rattle.std.proofs.Common.{ℕ, ℤ, Bool, true, false, List, [], ◌∷◌, length, Option, Some, None}
use Rattle.pd_object.specs.declared.kinds.Kind.{Kind}
use Rattle.pd_object.specs.declared.kinds.Kind.TheVariants as kind
use Rattle.pd_object.specs.declared.kinds.Signal.{Signal}
use Rattle.pd_object.specs.declared.kinds.Signal.TheVariants as signal
use Rattle.pd_object.specs.declared.kinds.SignalOperation.{SignalOperation}
use Rattle.pd_object.specs.declared.kinds.SignalFunction.{SignalFunction}
use Rattle.pd_object.specs.declared.kinds.Tone.{Tone}
use Rattle.pd_object.specs.declared.kinds.Tone.TheVariants as tone
use Rattle.pd_kind.specs.declared.states.State.{State}
use Rattle.pd_kind.specs.declared.states.State.TheVariants as state
use Rattle.pd_kind.specs.declared.tables.Line.{Line}
use Rattle.pd_object.specs.Ports.{ports_of}
use Rattle.pd_kind.specs.Tables.{with_shared}
use Rattle.pd_tone.specs.Rows.{tone_row, row}
use Rattle.pd_signal.specs.Rows.{sig_row, operation_row, function_row, clip_row, line_row, samphold_row, lop_row, hip_row, delwrite_row, send_row, catch_row, snapshot_row, signal_row, run_of}
use Rattle.pd_signal.specs.SharedRows.{receive_row, throw_row, delread_row, shared_row, shared_run_of, tabread_row, table_row, table_run_of}
use Rattle.pd_vline.specs.Taken.{left_by_run}
use Rattle.pd_turn.specs.Rows.{Ran, silent_outs, is_sized, may_run, vline_if, signal_ran, table_ran, own_ran, is_fitting}
use Rattle.pd_turn.specs.Pairs.{Pair, RanWith, ran_beside, ran_alone, with_values, by_values, pair_by}
use Rattle.pd_keeping_law.proofs.FactLemmas.{either}
use Rattle.pd_keeping_law.specs.Changes.{RunsOn, silent, phasor_on, osc_on, noise_on, line_on, samphold_on, lop_on, hip_on, delwrite_on, send_on, catch_on, snapshot_on, vline_on}

-- the rows
sig_runs : (s : State) (outs : List (List ℤ)) → RunsOn s (sig_row s outs).state
sig_runs (state.Sig z) outs = silent
sig_runs s outs = silent

pair_runs : (p : SignalOperation) (s : State) (ins outs : List (List ℤ)) → RunsOn s (operation_row p None s ins outs).state
pair_runs p (state.SignalOperation left right) ins outs = silent
pair_runs p s ins outs = silent

steady_runs : (p : SignalOperation) (a : ℤ) (s : State) (ins outs : List (List ℤ)) → RunsOn s (operation_row p (Some a) s ins outs).state
steady_runs p a (state.SignalOperation left right) ins outs = silent
steady_runs p a s ins outs = silent

function_runs : (f : SignalFunction) (s : State) (ins outs : List (List ℤ)) → RunsOn s (function_row f s ins outs).state
function_runs f (state.SignalFunction held) ins outs = silent
function_runs f s ins outs = silent

clip_runs : (s : State) (ins outs : List (List ℤ)) → RunsOn s (clip_row s ins outs).state
clip_runs (state.SignalClip held low high) ins outs = silent
clip_runs s ins outs = silent

line_runs : (s : State) (outs : List (List ℤ)) → RunsOn s (line_row s outs).state
line_runs (state.Line slope) outs = line_on
line_runs s outs = silent

samphold_runs : (s : State) (ins outs : List (List ℤ)) → RunsOn s (samphold_row s ins outs).state
samphold_runs (state.Samphold held control last kept) ins outs = samphold_on
samphold_runs s ins outs = silent

lop_runs : (s : State) (ins outs : List (List ℤ)) → RunsOn s (lop_row s ins outs).state
lop_runs (state.Lop held hertz value rate) ins outs = lop_on
lop_runs s ins outs = silent

hip_runs : (s : State) (ins outs : List (List ℤ)) → RunsOn s (hip_row s ins outs).state
hip_runs (state.Hip held hertz value rate) ins outs = hip_on
hip_runs s ins outs = silent

delwrite_runs : (s : State) (ins outs : List (List ℤ)) → RunsOn s (delwrite_row s ins outs).state
delwrite_runs (state.Delwrite held ring next ran) ins outs = delwrite_on
delwrite_runs s ins outs = silent

send_runs : (s : State) (ins outs : List (List ℤ)) → RunsOn s (send_row s ins outs).state
send_runs (state.SignalSend held block) ins outs = send_on
send_runs s ins outs = silent

catch_runs : (s : State) (outs : List (List ℤ)) → RunsOn s (catch_row s outs).state
catch_runs (state.Catch sum) outs = catch_on
catch_runs s outs = silent

snapshot_runs : (s : State) (ins outs : List (List ℤ)) → RunsOn s (snapshot_row s ins outs).state
snapshot_runs (state.Snapshot held last) ins outs = snapshot_on
snapshot_runs s ins outs = silent

signal_runs : (g : Signal) (s : State) (ins outs : List (List ℤ)) → RunsOn s (signal_row g s ins outs).state
signal_runs (signal.Sig z) s ins outs = sig_runs s outs
signal_runs (signal.Operation p None) s ins outs = pair_runs p s ins outs
signal_runs (signal.Operation p (Some a)) s ins outs = steady_runs p a s ins outs
signal_runs (signal.Function f) s ins outs = function_runs f s ins outs
signal_runs (signal.Clip low high) s ins outs = clip_runs s ins outs
signal_runs signal.Line s ins outs = line_runs s outs
signal_runs signal.Samphold s ins outs = samphold_runs s ins outs
signal_runs (signal.Lop hertz) s ins outs = lop_runs s ins outs
signal_runs (signal.Hip hertz) s ins outs = hip_runs s ins outs
signal_runs (signal.Delwrite name time) s ins outs = delwrite_runs s ins outs
signal_runs (signal.Send w name) s ins outs = send_runs s ins outs
signal_runs (signal.Catch name) s ins outs = catch_runs s outs
signal_runs signal.Snapshot s ins outs = snapshot_runs s ins outs
signal_runs g s ins outs = silent

run_runs : (k : Kind) (s : State) (ins outs : List (List ℤ)) → RunsOn s (run_of k s ins outs).state
unfolding run_of
run_runs (kind.Signal g) s ins outs = signal_runs g s ins outs
run_runs k s ins outs = silent

-- beside another box's values
receive_runs : (s : State) (outs : List (List ℤ)) (shared : List ℤ) → RunsOn s (receive_row s outs shared).state
receive_runs state.Bare outs shared = silent
receive_runs s outs shared = silent

throw_runs : (s : State) (ins outs : List (List ℤ)) (shared : List ℤ) → RunsOn s (throw_row s ins outs shared).ran.state
throw_runs (state.Throw held) ins outs shared = silent
throw_runs s ins outs shared = silent

delread_runs : (s : State) (outs : List (List ℤ)) (shared : List ℤ) (line : Line) → RunsOn s (delread_row s outs shared line).state
delread_runs (state.Delread time rate) outs shared line = silent
delread_runs s outs shared line = silent

shared_runs : (g : Signal) (s : State) (ins outs : List (List ℤ)) (shared : List ℤ) (line : Line) → RunsOn s (shared_row g s ins outs shared line).ran.state
shared_runs (signal.Receive w name) s ins outs shared line = receive_runs s outs shared
shared_runs (signal.Throw name) s ins outs shared line = throw_runs s ins outs shared
shared_runs (signal.Delread name time) s ins outs shared line = delread_runs s outs shared line
shared_runs g s ins outs shared line = silent

shared_run : (k : Kind) (s : State) (ins outs : List (List ℤ)) (shared : List ℤ) (line : Line) → RunsOn s (shared_run_of k s ins outs shared line).ran.state
unfolding shared_run_of
shared_run (kind.Signal g) s ins outs shared line = shared_runs g s ins outs shared line
shared_run k s ins outs shared line = silent

-- beside a table
tabread_runs : (s : State) (ins outs : List (List ℤ)) (table : List ℤ) → RunsOn s (tabread_row s ins outs table).state
tabread_runs (state.SignalTabread held) ins outs table = silent
tabread_runs s ins outs table = silent

table_signal : (g : Signal) (s : State) (ins outs : List (List ℤ)) (table : List ℤ) → RunsOn s (table_row g s ins outs table).state
table_signal (signal.Tabread name) s ins outs table = tabread_runs s ins outs table
table_signal g s ins outs table = silent

table_run : (k : Kind) (s : State) (ins outs : List (List ℤ)) (table : List ℤ) → RunsOn s (table_run_of k s ins outs table).state
unfolding table_run_of
table_run (kind.Signal g) s ins outs table = table_signal g s ins outs table
table_run k s ins outs table = silent

-- tones
tone_runs : (t : Tone) (s : State) (ins outs : List (List ℤ)) → RunsOn s (tone_row t s ins outs).state
unfolding tone_row
tone_runs (tone.Phasor z) (state.Phasor held p rate) (input ∷ []) (out ∷ []) = phasor_on
tone_runs (tone.Osc z) (state.Osc held p rate) (input ∷ []) (out ∷ []) = osc_on
tone_runs tone.Noise (state.Noise s) [] (out ∷ []) = noise_on
tone_runs t s ins outs = silent

tone_run : (k : Kind) (s : State) (ins outs : List (List ℤ)) → RunsOn s (row k s ins outs).state
unfolding row
tone_run (kind.Tone t) s ins outs = tone_runs t s ins outs
tone_run k s ins outs = silent

-- a box's turn
abbrev pub Turns : State → Ran → Type 0
Turns s r = RunsOn s r.state

vline_left : (start : ℕ) (s : State) → RunsOn s (left_by_run start s)
vline_left start (state.Vline r) = vline_on
vline_left start s = silent

vline_turn : (start : ℕ) (b : Bool) (s : State) → Turns s (vline_if b start s)
vline_turn start true s = vline_left start s
vline_turn start false s = silent

signal_turn : (k : Kind) (s : State) (ins : List (List ℤ)) → Turns s (signal_ran k s ins)
signal_turn k s ins = either (Turns s) (is_sized s) _ _ (run_runs k s ins (silent_outs (ports_of k).signal_outlets)) silent

pub own_turn : (start : ℕ) (k : Kind) (s : State) (ins : List (List ℤ)) → Turns s (own_ran start k s ins)
own_turn start (kind.Tone t) s ins = tone_run (kind.Tone t) s ins _
own_turn start kind.Vline s ins = vline_turn start (may_run start s) s
own_turn start k s ins = signal_turn k s ins

pub table_turn : (k : Kind) (s : State) (ins : List (List ℤ)) (table : List ℤ) → Turns s (table_ran k s ins table)
table_turn k s ins table = table_run k s ins (silent_outs (ports_of k).signal_outlets) table

pub beside_turn : (k : Kind) (s : State) (ins : List (List ℤ)) (values : List ℤ) (line : Line) → RunsOn s (ran_beside k s ins values line).ran.state
beside_turn k s ins values line = shared_run k s ins (silent_outs (ports_of k).signal_outlets) values line

by_turn : (k : Kind) (s : State) (ins : List (List ℤ)) (line : Line) (values : List ℤ) → Turns s (by_values k s ins line values).ran
by_turn k s ins line values =
    either (λ (r : RanWith). Turns s r.ran) (is_fitting k (length values) line) (with_values k s ins line values) (record { ran = ran_alone k s ins line; values = values })
    (beside_turn k s ins values line) (beside_turn k s ins [] line)

shared_left : (other : State) (left : List ℤ) → RunsOn other (with_shared other left)
shared_left (state.SignalSend held block) left = send_on
shared_left (state.Catch sum) left = catch_on
shared_left (state.Delwrite held ring next ran) left = delwrite_on
shared_left s left = silent

-- a box and the other one
pub record PairRuns (s o : State) (p : Pair) : Type 0 where
  pub ran : Turns s p.ran
  pub other : RunsOn o p.other

pub pair_by-runs : (k : Kind) (s : State) (ins : List (List ℤ)) (other : State) (line : Line) (o : Option (List ℤ)) → PairRuns s other (pair_by k s ins other line o)
pair_by-runs k s ins other line None = record { ran = beside_turn k s ins [] line; other = silent }
pair_by-runs k s ins other line (Some values) = record { ran = by_turn k s ins line values; other = shared_left other (by_values k s ins line values).values }
