-- What the boxes of a kind keep and give for a block.
use Rattle.std.specs.Prelude.{ℕ, ℤ, ◌+◌, ◌*◌, ◌^◌, ◌==◌, ◌&&◌, Bool, true, false, nat_le, nat_lt, List, [], ◌∷◌, map, take, length, slice_index_or, Option, None, if◌then◌else◌}
use Rattle.std.specs.List.{range_with_len}
use Rattle.pd_object.specs.declared.kinds.Kind.{Kind}
use Rattle.pd_object.specs.declared.kinds.Kind.TheVariants as kind
use Rattle.pd_object.specs.declared.kinds.Signal.{Signal}
use Rattle.pd_object.specs.declared.kinds.Signal.TheVariants as signal
use Rattle.pd_object.specs.declared.kinds.Tone.TheVariants as tone
use Rattle.pd_kind.specs.declared.states.State.{State}
use Rattle.pd_kind.specs.declared.states.State.TheVariants as state
use Rattle.pd_kind.specs.declared.tables.Line.{Line}
use Rattle.pd_object.specs.Ports.{ports_of}
use Rattle.pd_kind.specs.States.{silent_block}
use Rattle.pd_tone.specs.Rows.{row}
use Rattle.pd_signal.specs.Rows.{run_of}
use Rattle.pd_signal.specs.SharedRows.{table_run_of}
use Rattle.pd_vline.specs.Taken.{left_by_run, state_at}
use Rattle.pd_turn.specs.declared.sorts.Manner.{Manner}
use Rattle.pd_turn.specs.declared.sorts.Manner.TheVariants.{Own, Beside, Table, Dac, Inlet, Outlet, Never}

-- what a box keeps once it has run, and the block of its outlet, where it has one
pub record Ran : Type 0 where
  pub state : State
  pub block : List ℤ

abbrev pub ran : State → List (List ℤ) → Ran
ran s outs = record { state = s; block = slice_index_or outs 0 silent_block }

-- it keeps what it kept, and is silent
abbrev pub still : State → Ran
still s = ran s []

-- silence at so many outlets, which are none or one
abbrev pub silent_outs : ℕ → List (List ℤ)
silent_outs count = take count (silent_block ∷ [])

-- how the boxes of a kind run that hold no canvas
abbrev pub signal_manner : Signal → Manner
signal_manner (signal.Delread name time) = Beside
signal_manner (signal.Receive spelling name) = Beside
signal_manner (signal.Throw name) = Beside
signal_manner (signal.Tabread name) = Table
signal_manner (signal.Dac channels) = Dac
signal_manner signal.Inlet = Inlet
signal_manner signal.Outlet = Outlet
signal_manner _ = Own

abbrev pub manner_of : Kind → Manner
manner_of (kind.Tone t) = Own
manner_of kind.Vline = Own
manner_of (kind.Signal s) = signal_manner s
manner_of _ = Never

-- whether a ring has room for a block, and the place of its next sample is in it
abbrev pub is_ring : ℕ → ℕ → Bool
is_ring count next = nat_le 64 count && (nat_le count 4294967296 && nat_lt next count)

-- whether what a box keeps has the sizes that it was made with
abbrev pub is_sized : State → Bool
is_sized (state.Delwrite held values next ran) = is_ring (length values) next
is_sized (state.SignalSend held block) = length block == 64
is_sized (state.Catch sum) = length sum == 64
is_sized _ = true

-- whether a `vline~` has run no block beyond a time
abbrev pub can_run : ℕ → State → Bool
can_run start (state.Vline r) = nat_le r.end start
can_run start _ = false

-- 64 values, one for each 1,000,000,000 units of time
abbrev pub values_from : (ℕ → ℤ) → ℕ → List ℤ
values_from value start = map (λ i. value (start + i * 1000000000)) (range_with_len 0 64)

-- no time is beyond 2^101 units
abbrev pub may_run : ℕ → State → Bool
may_run start s = nat_le start (2 ^ 101) && can_run start s

abbrev pub vline_if : Bool → ℕ → State → Ran
vline_if true start s = record { state = left_by_run start s; block = values_from (state_at s) start }
vline_if false start s = still s

abbrev pub vline_ran : ℕ → State → Ran
vline_ran start s = vline_if (may_run start s) start s

abbrev pub signal_ran : Kind → State → List (List ℤ) → Ran
signal_ran k s ins =
    if is_sized s then ran (run_of k s ins (silent_outs (ports_of k).signal_outlets)).state (run_of k s ins (silent_outs (ports_of k).signal_outlets)).outs
    else still s

abbrev pub tone_ran : Kind → State → List (List ℤ) → Ran
tone_ran k s ins = ran (row k s ins (silent_block ∷ [])).state (row k s ins (silent_block ∷ [])).outs

-- whether boxes of a kind are `osc~`
abbrev pub is_osc : Kind → Bool
is_osc (kind.Tone (tone.Osc hertz)) = true
is_osc k = false

-- the table that a `tabread~` names
abbrev pub table_name : Kind → Option ℕ
table_name (kind.Signal (signal.Tabread name)) = name
table_name k = None

-- what a `tabread~` keeps and gives beside its table
abbrev pub table_ran : Kind → State → List (List ℤ) → List ℤ → Ran
table_ran k s ins table =
    ran (table_run_of k s ins (silent_outs (ports_of k).signal_outlets) table).state (table_run_of k s ins (silent_outs (ports_of k).signal_outlets) table).outs

-- what a box keeps and gives that needs nothing of another box
abbrev pub own_ran : ℕ → Kind → State → List (List ℤ) → Ran
own_ran start (kind.Tone t) s ins = tone_ran (kind.Tone t) s ins
own_ran start kind.Vline s ins = vline_ran start s
own_ran start k s ins = signal_ran k s ins

-- whether another box's values are as many as a box of the kind looks for
abbrev pub is_fitting_signal : Signal → ℕ → Line → Bool
is_fitting_signal (signal.Receive spelling name) count line = count == 64
is_fitting_signal (signal.Throw name) count line = count == 64
is_fitting_signal (signal.Delread name time) count line = nat_le 64 count && nat_lt line.next count
is_fitting_signal _ count line = false

abbrev pub is_fitting : Kind → ℕ → Line → Bool
is_fitting (kind.Signal s) count line = is_fitting_signal s count line
is_fitting _ count line = false
