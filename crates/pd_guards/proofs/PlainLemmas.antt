-- The plain control objects keep and say what is in order.
use Rattle.std.proofs.Common.{ℕ, ℤ, List, [], Option, IfSome}
use Rattle.pd_atom.specs.Names.{Names}
use Rattle.pd_atom.specs.declared.Atom.{Atom}
use Rattle.pd_object.specs.declared.kinds.Glue.{Glue}
use Rattle.pd_object.specs.declared.kinds.Glue.TheVariants as glue
use Rattle.pd_kind.specs.declared.messages.Deed.TheVariants as deed
use Rattle.pd_kind.specs.declared.states.State.{State}
use Rattle.pd_kind.specs.declared.states.State.TheVariants as state
use Rattle.pd_plain.specs.Values.{box_send_name}
use Rattle.pd_plain.specs.Rows.{value_row, gate_row, timed_row, table_row, plain_row, fired, resumed}
use Rattle.pd_guards.specs.Order.{HasFirst, HasWords, IsMessage, IsTable, IsKept, IsSaid, IsHeard}
use Rattle.pd_guards.proofs.BaseLemmas.{silence, quietly, bang_said, passed_said}
use Rattle.pd_guards.proofs.ValueLemmas.{float_in, int_in, symbol_in_row, moses_in, swap_in, spigot_in, change_in, send_in, float_box_in, symbol_box_in, box_name}
use Rattle.pd_guards.proofs.TimedLemmas.{with_deed, until_in, resumed_in, metro_said, metro_in, delay_in, timer_in, random_in, tabread_in, tabwrite_in}

module _ (names : Names) (first : HasFirst names) (limit : ℕ) where
  value_in : (g : Glue) (s : State) (inlet selector : ℕ) (atoms : List Atom) → IsKept names limit s → IsMessage names selector atoms → IsHeard names limit (value_row g s inlet selector atoms)
  unfolding value_row
  value_in (glue.Float w z) (state.Float v) inlet selector atoms k m = float_in names first limit v inlet selector atoms k m
  value_in (glue.Int w z) (state.Int v) inlet selector atoms k m = int_in names first limit v inlet selector atoms k m
  value_in (glue.Symbol n) (state.Symbol v) inlet selector atoms k m = symbol_in_row names first limit v inlet selector atoms k m
  value_in (glue.Moses z) (state.Moses bound) inlet selector atoms k m = moses_in names first limit bound inlet selector atoms m
  value_in (glue.Swap z) (state.Swap left right) inlet selector atoms k m = swap_in names first limit left right inlet selector atoms k.0 k.1 m
  value_in g s inlet selector atoms k m = quietly names first limit s k

  gate_in : (g : Glue) (s : State) (inlet selector : ℕ) (atoms : List Atom) → HasWords names g → IsKept names limit s → IsMessage names selector atoms → IsHeard names limit (gate_row names g s inlet selector atoms)
  unfolding gate_row
  gate_in (glue.Spigot z) (state.Spigot gate) inlet selector atoms w k m = spigot_in names first limit gate inlet selector atoms m
  gate_in (glue.Change z) (state.Change v) inlet selector atoms w k m = change_in names first limit v selector atoms k m
  gate_in (glue.Send x n) (state.Send name) inlet selector atoms w k m = send_in names first limit name inlet selector atoms k m
  gate_in (glue.FloatBox text) (state.FloatBox v) inlet selector atoms w k m = float_box_in names first limit (box_send_name names text) v selector atoms (box_name names first limit text w) k m
  gate_in (glue.SymbolBox text) (state.SymbolBox v) inlet selector atoms w k m = symbol_box_in names first limit (box_send_name names text) v selector atoms (box_name names first limit text w) k m
  gate_in g s inlet selector atoms w k m = quietly names first limit s k

  timed_in : (g : Glue) (s : State) (inlet selector : ℕ) (atoms : List Atom) (now : ℕ) → IsKept names limit s → IsMessage names selector atoms → IsHeard names limit (timed_row names g s inlet selector atoms now)
  unfolding timed_row
  timed_in glue.Until (state.Until running count) inlet selector atoms now k m = until_in names first limit running count inlet selector atoms m
  timed_in (glue.Metro z) (state.Metro period) inlet selector atoms now k m = metro_in names first limit period inlet selector atoms m
  timed_in (glue.Delay w z) (state.Delay time) inlet selector atoms now k m = delay_in names first limit time inlet selector atoms m
  timed_in glue.Timer (state.Timer reset rate) inlet selector atoms now k m = timer_in names first limit reset rate now inlet selector atoms m
  timed_in (glue.Random z) (state.Random seed range) inlet selector atoms now k m = random_in names first limit seed range inlet selector atoms k.0 k.1 m
  timed_in g s inlet selector atoms now k m = quietly names first limit s k

  table_in : (table : Option (List ℤ)) (s : State) (inlet selector : ℕ) (atoms : List Atom) → IsKept names limit s → IsMessage names selector atoms → IsHeard names limit (table_row table s inlet selector atoms)
  unfolding table_row
  table_in table (state.Tabwrite index) inlet selector atoms k m = tabwrite_in names first limit table index inlet selector atoms m
  table_in table s inlet selector atoms k m = quietly names first limit s k

  pub plain_in : (g : Glue) (s : State) (inlet selector : ℕ) (atoms : List Atom) (now : ℕ) (table : Option (List ℤ)) → HasWords names g → IsKept names limit s → IsMessage names selector atoms → IfSome table IsTable
      → IsHeard names limit (plain_row names g s inlet selector atoms now table)
  unfolding plain_row
  plain_in (glue.Bang w) s inlet selector atoms now table h k m t = record { kept = k; said = bang_said names first 0 }
  plain_in (glue.Print words) s inlet selector atoms now table h k m t = record { kept = k; said = with_deed names first limit deed.Print [] tt tt }
  plain_in (glue.Receive w n) s inlet selector atoms now table h k m t = record { kept = k; said = passed_said names first 0 selector atoms m }
  plain_in (glue.Port side) s inlet selector atoms now table h k m t = record { kept = k; said = passed_said names first 0 selector atoms m }
  plain_in (glue.Float w z) s inlet selector atoms now table h k m t = value_in (glue.Float w z) s inlet selector atoms k m
  plain_in (glue.Int w z) s inlet selector atoms now table h k m t = value_in (glue.Int w z) s inlet selector atoms k m
  plain_in (glue.Symbol n) s inlet selector atoms now table h k m t = value_in (glue.Symbol n) s inlet selector atoms k m
  plain_in (glue.Moses z) s inlet selector atoms now table h k m t = value_in (glue.Moses z) s inlet selector atoms k m
  plain_in (glue.Swap z) s inlet selector atoms now table h k m t = value_in (glue.Swap z) s inlet selector atoms k m
  plain_in (glue.Spigot z) s inlet selector atoms now table h k m t = gate_in (glue.Spigot z) s inlet selector atoms h k m
  plain_in (glue.Change z) s inlet selector atoms now table h k m t = gate_in (glue.Change z) s inlet selector atoms h k m
  plain_in (glue.Send w n) s inlet selector atoms now table h k m t = gate_in (glue.Send w n) s inlet selector atoms h k m
  plain_in (glue.FloatBox text) s inlet selector atoms now table h k m t = gate_in (glue.FloatBox text) s inlet selector atoms h k m
  plain_in (glue.SymbolBox text) s inlet selector atoms now table h k m t = gate_in (glue.SymbolBox text) s inlet selector atoms h k m
  plain_in glue.Until s inlet selector atoms now table h k m t = timed_in glue.Until s inlet selector atoms now k m
  plain_in (glue.Metro z) s inlet selector atoms now table h k m t = timed_in (glue.Metro z) s inlet selector atoms now k m
  plain_in (glue.Delay w z) s inlet selector atoms now table h k m t = timed_in (glue.Delay w z) s inlet selector atoms now k m
  plain_in glue.Timer s inlet selector atoms now table h k m t = timed_in glue.Timer s inlet selector atoms now k m
  plain_in (glue.Random z) s inlet selector atoms now table h k m t = timed_in (glue.Random z) s inlet selector atoms now k m
  plain_in (glue.Tabread name) s inlet selector atoms now table h k m t = record { kept = k; said = tabread_in names first limit table selector atoms t m }
  plain_in (glue.Tabwrite name) s inlet selector atoms now table h k m t = table_in table s inlet selector atoms k m
  plain_in g s inlet selector atoms now table h k m t = quietly names first limit s k

  pub fired_in : (g : Glue) (s : State) → IsSaid names (fired g s)
  unfolding fired
  fired_in (glue.Metro z) (state.Metro period) = metro_said names first limit period
  fired_in (glue.Delay w z) s = bang_said names first 0
  fired_in g s = silence names first

  pub resumed_plain : (g : Glue) (s : State) → IsKept names limit s → IsHeard names limit (resumed g s)
  unfolding resumed
  resumed_plain glue.Until (state.Until running count) k = resumed_in names first limit running count
  resumed_plain g s k = quietly names first limit s k
