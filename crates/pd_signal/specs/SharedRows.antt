-- What the signal objects keep and give that look at another box's values: a bus, a delay line or a table, which is empty without that box.
use Rattle.std.specs.Prelude.{◌≡◌, ◌⊎◌, ℤ, ◌<◌, ◌≤◌, List, [], ◌∷◌, map, length}
use Rattle.pd_num.specs.Scale.{billionths, sum_of}
use Rattle.pd_object.specs.declared.kinds.Kind.{Kind}
use Rattle.pd_object.specs.declared.kinds.Kind.TheVariants as kind
use Rattle.pd_object.specs.declared.kinds.Signal.{Signal}
use Rattle.pd_object.specs.declared.kinds.Signal.TheVariants as signal
use Rattle.pd_kind.specs.declared.states.State.{State}
use Rattle.pd_kind.specs.declared.states.State.TheVariants as state
use Rattle.pd_kind.specs.declared.tables.Line.{Line}
use Rattle.pd_kind.specs.States.{silent_block}
use Rattle.pd_signal.specs.Samples.{zip_with}
use Rattle.pd_signal.specs.Delays.{delayed}
use Rattle.pd_signal.specs.Tables.{value_at}
use Rattle.pd_signal.specs.Boxes.{Ran, gives, keeps, inlet}

-- what a box keeps and gives, and the other box's values after it
pub record RanShared : Type 0 where
  pub ran : Ran
  pub shared : List ℤ

abbrev pub beside : Ran → List ℤ → RanShared
beside r shared = record { ran = r; shared = shared }

-- a block that may be missing
abbrev pub or_silence : List ℤ → List ℤ
or_silence [] = silent_block
or_silence (x ∷ xs) = x ∷ xs

-- `receive~`: the block that the other box keeps
abbrev pub receive_row : State → List (List ℤ) → List ℤ → Ran
receive_row state.Bare outs shared = gives state.Bare outs (or_silence shared)
receive_row s outs shared = keeps s outs

-- `throw~`: the block is added to the other box's sum
abbrev pub throw_row : State → List (List ℤ) → List (List ℤ) → List ℤ → RanShared
throw_row (state.Throw held) ins outs shared = beside (keeps (state.Throw held) outs) (zip_with (sum_of billionths) shared (inlet ins 0))
throw_row s ins outs shared = beside (keeps s outs) shared

-- what a reader gives, silence without a line
abbrev pub heard_from : List ℤ → List ℤ → List ℤ
heard_from [] block = silent_block
heard_from (x ∷ xs) block = block

-- `delread~`
abbrev pub delread_row : State → List (List ℤ) → List ℤ → Line → Ran
delread_row (state.Delread time rate) outs shared line = gives (state.Delread time rate) outs (heard_from shared (delayed shared line rate time))
delread_row s outs shared line = keeps s outs

abbrev pub shared_row : Signal → State → List (List ℤ) → List (List ℤ) → List ℤ → Line → RanShared
shared_row (signal.Receive spelling name) s ins outs shared line = beside (receive_row s outs shared) shared
shared_row (signal.Throw name) s ins outs shared line = throw_row s ins outs shared
shared_row (signal.Delread name time) s ins outs shared line = beside (delread_row s outs shared line) shared
shared_row _ s ins outs shared line = beside (keeps s outs) shared

-- What a box of this kind keeps and gives beside another box's values. A box of another kind leaves all as it is.
unfoldable pub shared_run_of : Kind → State → List (List ℤ) → List (List ℤ) → List ℤ → Line → RanShared
shared_run_of (kind.Signal s) st ins outs shared line = shared_row s st ins outs shared line
shared_run_of _ st ins outs shared line = beside (keeps st outs) shared

-- the other box's values have the size that the kind looks for, or there are none
abbrev pub IsBus : List ℤ → Type 0
IsBus shared = (shared ≡ []) ⊎ (length shared ≡ 64)

abbrev pub IsLine : List ℤ → Line → Type 0
IsLine shared line = (shared ≡ []) ⊎ ((64 ≤ length shared) × (line.next < length shared))

abbrev pub SignalFits : Signal → List ℤ → Line → Type 0
SignalFits (signal.Receive spelling name) shared line = IsBus shared
SignalFits (signal.Throw name) shared line = IsBus shared
SignalFits (signal.Delread name time) shared line = IsLine shared line
SignalFits _ shared line = Unit {0}

abbrev pub Fits : Kind → List ℤ → Line → Type 0
Fits (kind.Signal s) shared line = SignalFits s shared line
Fits _ shared line = Unit {0}

-- `tabread~`
abbrev pub tabread_row : State → List (List ℤ) → List (List ℤ) → List ℤ → Ran
tabread_row (state.SignalTabread held) ins outs table = gives (state.SignalTabread held) outs (map (value_at table) (inlet ins 0))
tabread_row s ins outs table = keeps s outs

abbrev pub table_row : Signal → State → List (List ℤ) → List (List ℤ) → List ℤ → Ran
table_row (signal.Tabread name) s ins outs table = tabread_row s ins outs table
table_row _ s ins outs table = keeps s outs

-- what a box of this kind keeps and gives beside a table
unfoldable pub table_run_of : Kind → State → List (List ℤ) → List (List ℤ) → List ℤ → Ran
table_run_of (kind.Signal s) st ins outs table = table_row s st ins outs table
table_run_of _ st ins outs table = keeps st outs
