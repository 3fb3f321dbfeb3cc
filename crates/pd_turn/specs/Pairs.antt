-- What a box keeps and gives beside another box, and what that one keeps then.
use Rattle.std.specs.Prelude.{ℤ, false, List, [], length, Option, Some, None, unwrap_or, if◌then◌else◌}
use Rattle.pd_object.specs.declared.kinds.Kind.{Kind}
use Rattle.pd_kind.specs.declared.states.State.{State}
use Rattle.pd_kind.specs.declared.tables.Line.{Line}
use Rattle.pd_object.specs.Ports.{ports_of}
use Rattle.pd_kind.specs.Tables.{shared_of, with_shared, line_of}
use Rattle.pd_signal.specs.SharedRows.{RanShared, shared_run_of}
use Rattle.pd_turn.specs.Rows.{Ran, ran, silent_outs, is_fitting}

pub record Pair : Type 0 where
  pub ran : Ran
  pub other : State

abbrev pub no_line : Line
no_line = record { next = 0; ran = false }

-- how far a delay line is; at its start for other boxes
abbrev pub line_at : State → Line
line_at st = unwrap_or (line_of st) no_line

abbrev pub ran_beside : Kind → State → List (List ℤ) → List ℤ → Line → RanShared
ran_beside k st ins values line = shared_run_of k st ins (silent_outs (ports_of k).signal_outlets) values line

-- beside nothing
abbrev pub ran_alone : Kind → State → List (List ℤ) → Line → Ran
ran_alone k st ins line = ran (ran_beside k st ins [] line).ran.state (ran_beside k st ins [] line).ran.outs

-- what a box keeps and gives beside values, and what those are then
pub record RanWith : Type 0 where
  pub ran : Ran
  pub values : List ℤ

abbrev pub with_values : Kind → State → List (List ℤ) → Line → List ℤ → RanWith
with_values k st ins line values =
    record { ran = ran (ran_beside k st ins values line).ran.state (ran_beside k st ins values line).ran.outs; values = (ran_beside k st ins values line).shared }

-- where they aren't as many as a box of the kind looks for, it finds none
abbrev pub by_values : Kind → State → List (List ℤ) → Line → List ℤ → RanWith
by_values k st ins line values =
    if is_fitting k (length values) line then with_values k st ins line values else record { ran = ran_alone k st ins line; values = values }

-- beside another box, which may have no values
abbrev pub pair_by : Kind → State → List (List ℤ) → State → Line → Option (List ℤ) → Pair
pair_by k st ins other line None = record { ran = ran_alone k st ins line; other = other }
pair_by k st ins other line (Some values) = record { ran = (by_values k st ins line values).ran; other = with_shared other (by_values k st ins line values).values }

abbrev pub pair_of : Kind → State → List (List ℤ) → State → Pair
pair_of k st ins other = pair_by k st ins other (line_at other) (shared_of other)
