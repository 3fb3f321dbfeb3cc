-- What the control objects hear leaves the texts of message boxes settled, and as many values in each array and table.
use Rattle.std.proofs.Common.{◌≡◌, ℕ, ℤ, pos, zero, suc, unsigned_abs, Bool, true, false, cond, ◌==◌, List, slice_get, Option, Some, None, codes}
use Rattle.std.specs.Ordering.{int_eq}
use Rattle.pd_num.specs.Scale.{whole_of}
use Rattle.pd_atom.specs.Names.{Names}
use Rattle.pd_atom.specs.declared.Atom.{Atom}
use Rattle.pd_atom.specs.declared.Atom.TheVariants as atom
use Rattle.pd_object.specs.declared.kinds.Arith.{Arith}
use Rattle.pd_object.specs.declared.kinds.Arith.TheVariants as arith_kind
use Rattle.pd_object.specs.declared.kinds.Glue.{Glue}
use Rattle.pd_object.specs.declared.kinds.Glue.TheVariants as glue
use Rattle.pd_object.specs.declared.kinds.Kind.{Kind}
use Rattle.pd_object.specs.declared.kinds.Kind.TheVariants as kind
use Rattle.pd_object.specs.declared.kinds.Panel.{Panel}
use Rattle.pd_object.specs.declared.kinds.Panel.TheVariants as panel_kind
use Rattle.pd_object.specs.declared.kinds.Slot.{Slot}
use Rattle.pd_kind.specs.declared.messages.Sort.{Sort}
use Rattle.pd_kind.specs.declared.messages.Sort.TheVariants as sort
use Rattle.pd_kind.specs.declared.states.State.{State}
use Rattle.pd_kind.specs.declared.states.State.TheVariants as state
use Rattle.pd_kind.specs.Hearing.{Heard, first_sort, stored}
use Rattle.pd_kind.specs.Messages.{sort_of}
use Rattle.pd_kind.specs.States.{whole_at_least}
use Rattle.pd_arith.specs.Rows as arith
use Rattle.pd_panel.specs.Rows as panel
use Rattle.pd_list.specs.Slots.{fits_at, pack_hot, pack_cold, pack_row}
use Rattle.pd_list.specs.Lists.{split_cold, split_row}
use Rattle.pd_list.specs.Rows.{list_row}
use Rattle.pd_plain.specs.Values.{float_hot, float_cold, int_hot, int_cold, symbol_hot, symbol_cold, moses_hot, moses_cold, spigot_hot, spigot_cold, swap_hot, swap_cold, change_set, change_hot, change_row, box_send_name, float_box_set, float_box_hot, float_box_row, symbol_box_set, symbol_box_hot, symbol_box_row, send_hot, send_cold, is_called}
use Rattle.pd_plain.specs.Timed.{until_hot, until_cold, until_resumed, metro_hot, metro_cold, metro_row, delay_hot, delay_cold, delay_row, timer_hot, timer_cold, random_hot, random_cold, tabwrite_hot, tabwrite_cold}
use Rattle.pd_plain.specs.Rows.{value_row, gate_row, timed_row, table_row, plain_row, resumed}
use Rattle.pd_contents_law.specs.Contents.{HasContents}
use Rattle.pd_guards.proofs.FactLemmas.{either}

module _ (size : ℕ) (known : Names) where
  abbrev pub Stays : Heard → Type 0
  Stays h = HasContents size known h.state

  -- what is left by a message of each sort
  abbrev Every : (Sort → Heard) → Type 0
  Every f = ((z : ℤ) → Stays (f (sort.Float z))) × Stays (f sort.Bang) × ((n : ℕ) → Stays (f (sort.Symbol n))) × Stays (f sort.List) × Stays (f sort.Other)

  of_sort : (f : Sort → Heard) → Every f → (s : Sort) → Stays (f s)
  of_sort f e (sort.Float z) = e.0 z
  of_sort f e sort.Bang = e.1
  of_sort f e (sort.Symbol n) = e.2 n
  of_sort f e sort.List = e.3
  of_sort f e sort.Other = e.4

  -- most states have no bounds
  abbrev none : (ℤ → Unit {0}) × Unit {0} × (ℕ → Unit {0}) × Unit {0} × Unit {0}
  none = ((λ z. tt), tt, (λ n. tt), tt, tt)

  two_sorts : (f g : Sort → Heard) (inlet selector : ℕ) (atoms : List Atom) → Every f → Every g → Stays (cond (inlet == 0) (f (first_sort (sort_of selector atoms) atoms)) (g (sort_of selector atoms)))
  two_sorts f g inlet selector atoms a b =
      either Stays (inlet == 0) (f (first_sort (sort_of selector atoms) atoms)) (g (sort_of selector atoms)) (of_sort f a (first_sort (sort_of selector atoms) atoms)) (of_sort g b (sort_of selector atoms))

  -- the objects that keep a value
  value_kept : (g : Glue) (s : State) (inlet selector : ℕ) (atoms : List Atom) → HasContents size known s → Stays (value_row g s inlet selector atoms)
  unfolding value_row
  value_kept (glue.Float w z) (state.Float v) inlet selector atoms h = two_sorts (float_hot (stored (sort_of selector atoms) atoms 1 v) selector) (float_cold v selector) inlet selector atoms none none
  value_kept (glue.Int w z) (state.Int v) inlet selector atoms h = two_sorts (int_hot (whole_of (stored (sort_of selector atoms) atoms 1 v)) selector) (int_cold v selector) inlet selector atoms none none
  value_kept (glue.Symbol n) (state.Symbol v) inlet selector atoms h = two_sorts (symbol_hot v selector) (symbol_cold v selector) inlet selector atoms none none
  value_kept (glue.Moses z) (state.Moses bound) inlet selector atoms h = two_sorts (moses_hot (stored (sort_of selector atoms) atoms 1 bound) selector) (moses_cold bound selector) inlet selector atoms none none
  value_kept (glue.Swap z) (state.Swap left right) inlet selector atoms h = two_sorts (swap_hot left (stored (sort_of selector atoms) atoms 1 right) selector) (swap_cold left right selector) inlet selector atoms none none
  value_kept g s inlet selector atoms h = h

  change_set-kept : (v : ℤ) (selector : ℕ) (o : Option Atom) → Stays (change_set v selector o)
  change_set-kept v selector None = tt
  change_set-kept v selector (Some (atom.Number z)) = tt
  change_set-kept v selector (Some a) = tt

  change_kept : (names : Names) (v : ℤ) (selector : ℕ) (atoms : List Atom) → Stays (change_row names v selector atoms)
  change_kept names v selector atoms =
      of_sort (change_hot names v selector atoms)
      ((λ z. either Stays (int_eq v z) _ _ tt tt), tt, (λ n. tt), tt, either Stays (is_called names selector (codes "set")) _ _ (change_set-kept v selector (slice_get atoms 0)) tt)
      (first_sort (sort_of selector atoms) atoms)

  float_box_set-kept : (v : ℤ) (selector : ℕ) (o : Option Atom) → Stays (float_box_set v selector o)
  float_box_set-kept v selector None = tt
  float_box_set-kept v selector (Some (atom.Number z)) = tt
  float_box_set-kept v selector (Some a) = tt

  float_box_kept : (names : Names) (name : Option ℕ) (v : ℤ) (selector : ℕ) (atoms : List Atom) → Stays (float_box_row names name v selector atoms)
  float_box_kept names name v selector atoms =
      of_sort (float_box_hot names name v selector atoms)
      ((λ z. tt), tt, (λ n. tt), tt, either Stays (is_called names selector (codes "set")) _ _ (float_box_set-kept v selector (slice_get atoms 0)) tt) (first_sort (sort_of selector atoms) atoms)

  symbol_box_set-kept : (v selector : ℕ) (o : Option Atom) → Stays (symbol_box_set v selector o)
  symbol_box_set-kept v selector None = tt
  symbol_box_set-kept v selector (Some (atom.Symbol s)) = tt
  symbol_box_set-kept v selector (Some a) = tt

  symbol_box_kept : (names : Names) (name : Option ℕ) (v selector : ℕ) (atoms : List Atom) → Stays (symbol_box_row names name v selector atoms)
  symbol_box_kept names name v selector atoms =
      of_sort (symbol_box_hot names name v selector atoms)
      ((λ z. tt), tt, (λ n. tt), tt, either Stays (is_called names selector (codes "set")) _ _ (symbol_box_set-kept v selector (slice_get atoms 0)) tt) (first_sort (sort_of selector atoms) atoms)

  gate_kept : (names : Names) (g : Glue) (s : State) (inlet selector : ℕ) (atoms : List Atom) → HasContents size known s → Stays (gate_row names g s inlet selector atoms)
  unfolding gate_row
  gate_kept names (glue.Spigot z) (state.Spigot gate) inlet selector atoms h = two_sorts (λ s. spigot_hot gate selector atoms) (spigot_cold gate selector) inlet selector atoms none none
  gate_kept names (glue.Change z) (state.Change v) inlet selector atoms h = change_kept names v selector atoms
  gate_kept names (glue.Send w n) (state.Send name) inlet selector atoms h = two_sorts (λ s. send_hot name selector atoms) (send_cold name selector) inlet selector atoms none none
  gate_kept names (glue.FloatBox text) (state.FloatBox v) inlet selector atoms h = float_box_kept names (box_send_name names text) v selector atoms
  gate_kept names (glue.SymbolBox text) (state.SymbolBox v) inlet selector atoms h = symbol_box_kept names (box_send_name names text) v selector atoms
  gate_kept names g s inlet selector atoms h = h

  -- the objects of time and of chance
  metro_kept : (names : Names) (period : ℤ) (inlet selector : ℕ) (atoms : List Atom) → Stays (metro_row names period inlet selector atoms)
  metro_kept names period inlet selector atoms =
      two_sorts (metro_hot names (stored (sort_of selector atoms) atoms 1 period) selector) (metro_cold period selector) inlet selector atoms
      ((λ z. either Stays (unsigned_abs z == 0) _ _ tt tt), tt, (λ n. tt), tt, either Stays (is_called names selector (codes "stop")) _ _ tt tt) none

  delay_kept : (names : Names) (time : ℤ) (inlet selector : ℕ) (atoms : List Atom) → Stays (delay_row names time inlet selector atoms)
  delay_kept names time inlet selector atoms =
      two_sorts (delay_hot names (stored (sort_of selector atoms) atoms 1 time) selector) (delay_cold time selector) inlet selector atoms
      ((λ z. tt), tt, (λ n. tt), tt, either Stays (is_called names selector (codes "stop")) _ _ tt tt) none

  timed_kept : (names : Names) (g : Glue) (s : State) (inlet selector : ℕ) (atoms : List Atom) (now : ℕ) → HasContents size known s → Stays (timed_row names g s inlet selector atoms now)
  unfolding timed_row
  timed_kept names glue.Until (state.Until running count) inlet selector atoms now h = two_sorts (until_hot running count selector) (until_cold running count selector) inlet selector atoms none none
  timed_kept names (glue.Metro z) (state.Metro period) inlet selector atoms now h = metro_kept names period inlet selector atoms
  timed_kept names (glue.Delay w z) (state.Delay time) inlet selector atoms now h = delay_kept names time inlet selector atoms
  timed_kept names glue.Timer (state.Timer reset rate) inlet selector atoms now h = two_sorts (timer_hot reset rate now selector) (timer_cold reset rate now selector) inlet selector atoms none none
  timed_kept names (glue.Random z) (state.Random seed range) inlet selector atoms now h =
      two_sorts (random_hot seed (whole_at_least 1 (stored (sort_of selector atoms) atoms 1 range)) selector) (random_cold seed range selector) inlet selector atoms none none
  timed_kept names g s inlet selector atoms now h = h

  table_kept : (table : Option (List ℤ)) (s : State) (inlet selector : ℕ) (atoms : List Atom) → HasContents size known s → Stays (table_row table s inlet selector atoms)
  unfolding table_row
  table_kept table (state.Tabwrite index) inlet selector atoms h = two_sorts (tabwrite_hot table (whole_of (stored (sort_of selector atoms) atoms 1 index)) selector) (tabwrite_cold index selector) inlet selector atoms none none
  table_kept table s inlet selector atoms h = h

  pub plain_kept : (names : Names) (g : Glue) (s : State) (inlet selector : ℕ) (atoms : List Atom) (now : ℕ) (table : Option (List ℤ)) → HasContents size known s → Stays (plain_row names g s inlet selector atoms now table)
  unfolding plain_row
  plain_kept names (glue.Float w z) s inlet selector atoms now table h = value_kept (glue.Float w z) s inlet selector atoms h
  plain_kept names (glue.Int w z) s inlet selector atoms now table h = value_kept (glue.Int w z) s inlet selector atoms h
  plain_kept names (glue.Symbol n) s inlet selector atoms now table h = value_kept (glue.Symbol n) s inlet selector atoms h
  plain_kept names (glue.Moses z) s inlet selector atoms now table h = value_kept (glue.Moses z) s inlet selector atoms h
  plain_kept names (glue.Swap z) s inlet selector atoms now table h = value_kept (glue.Swap z) s inlet selector atoms h
  plain_kept names (glue.Spigot z) s inlet selector atoms now table h = gate_kept names (glue.Spigot z) s inlet selector atoms h
  plain_kept names (glue.Change z) s inlet selector atoms now table h = gate_kept names (glue.Change z) s inlet selector atoms h
  plain_kept names (glue.Send w n) s inlet selector atoms now table h = gate_kept names (glue.Send w n) s inlet selector atoms h
  plain_kept names (glue.FloatBox text) s inlet selector atoms now table h = gate_kept names (glue.FloatBox text) s inlet selector atoms h
  plain_kept names (glue.SymbolBox text) s inlet selector atoms now table h = gate_kept names (glue.SymbolBox text) s inlet selector atoms h
  plain_kept names glue.Until s inlet selector atoms now table h = timed_kept names glue.Until s inlet selector atoms now h
  plain_kept names (glue.Metro z) s inlet selector atoms now table h = timed_kept names (glue.Metro z) s inlet selector atoms now h
  plain_kept names (glue.Delay w z) s inlet selector atoms now table h = timed_kept names (glue.Delay w z) s inlet selector atoms now h
  plain_kept names glue.Timer s inlet selector atoms now table h = timed_kept names glue.Timer s inlet selector atoms now h
  plain_kept names (glue.Random z) s inlet selector atoms now table h = timed_kept names (glue.Random z) s inlet selector atoms now h
  plain_kept names (glue.Tabwrite name) s inlet selector atoms now table h = table_kept table s inlet selector atoms h
  plain_kept names g s inlet selector atoms now table h = h

  running_kept : (running : Bool) (count : Option ℕ) → Stays (until_resumed running count)
  running_kept true None = tt
  running_kept true (Some zero) = tt
  running_kept true (Some (suc n)) = tt
  running_kept false count = tt

  pub resumed_kept : (g : Glue) (s : State) → HasContents size known s → Stays (resumed g s)
  unfolding resumed
  resumed_kept glue.Until (state.Until running count) h = running_kept running count
  resumed_kept g s h = h

  -- lists and texts
  pack_kept : (slots : List Slot) (kept : List Atom) (inlet selector : ℕ) (atoms : List Atom) → Stays (pack_row slots kept inlet selector atoms)
  pack_kept slots kept inlet selector atoms =
      either Stays (inlet == 0) _ _
      (of_sort (pack_hot slots kept selector atoms) ((λ z. either Stays (fits_at slots 0 (atom.Number z)) _ _ tt tt), tt, (λ n. either Stays (fits_at slots 0 (atom.Symbol n)) _ _ tt tt), tt, tt) (sort_of selector atoms))
      (of_sort (pack_cold slots kept inlet selector) ((λ z. either Stays (fits_at slots inlet (atom.Number z)) _ _ tt tt), tt, (λ n. either Stays (fits_at slots inlet (atom.Symbol n)) _ _ tt tt), tt, tt) (sort_of selector atoms))

  split_kept : (count : ℤ) (inlet selector : ℕ) (atoms : List Atom) → Stays (split_row count inlet selector atoms)
  split_kept count inlet selector atoms =
      either Stays (inlet == 0) _ _ tt (of_sort (split_cold count selector) none (sort_of selector atoms))

  pub list_kept : (g : Glue) (s : State) (inlet selector : ℕ) (atoms : List Atom) → HasContents size known s → Stays (list_row g s inlet selector atoms)
  unfolding list_row
  list_kept (glue.Pack slots) (state.Pack kept) inlet selector atoms h = pack_kept slots kept inlet selector atoms
  list_kept (glue.Route a) (state.Route args) inlet selector atoms h = tt
  list_kept (glue.Select w a) (state.Select args) inlet selector atoms h = tt
  list_kept (glue.ListAppend w a) (state.ListAppend stored) inlet selector atoms h = tt
  list_kept (glue.ListPrepend a) (state.ListPrepend stored) inlet selector atoms h = tt
  list_kept (glue.ListSplit z) (state.ListSplit count) inlet selector atoms h = split_kept count inlet selector atoms
  list_kept g s inlet selector atoms h = h

  -- the arithmetic objects, `bng` and `tgl`
  arith_row-kept : (a : Arith) (s : State) (inlet selector : ℕ) (atoms : List Atom) → HasContents size known s → Stays (arith.arith_row a s inlet selector atoms)
  arith_row-kept (arith_kind.Operation o z) (state.Operation left right) inlet selector atoms h = tt
  arith_row-kept (arith_kind.Comparison c z) (state.Comparison left right) inlet selector atoms h = tt
  arith_row-kept (arith_kind.Division d z) (state.Division left right) inlet selector atoms h = tt
  arith_row-kept (arith_kind.Clip l u) (state.Clip low high) inlet selector atoms h = tt
  arith_row-kept a s inlet selector atoms h = h

  pub arith_kept : (k : Kind) (s : State) (inlet selector : ℕ) (atoms : List Atom) → HasContents size known s → Stays (arith.heard k s inlet selector atoms)
  unfolding arith.heard
  arith_kept (kind.Arith a) s inlet selector atoms h = arith_row-kept a s inlet selector atoms h
  arith_kept k s inlet selector atoms h = h

  module _ (value other : ℤ) (saved : Bool) where
    toggle_set-kept : (selector : ℕ) (o : Option Atom) → Stays (panel.toggle_set value other saved selector o)
    toggle_set-kept selector None = tt
    toggle_set-kept selector (Some (atom.Number z)) = tt
    toggle_set-kept selector (Some a) = tt

    toggle_nonzero-kept : (selector : ℕ) (o : Option Atom) → Stays (panel.toggle_nonzero value other saved selector o)
    toggle_nonzero-kept selector None = tt
    toggle_nonzero-kept selector (Some (atom.Number z)) = tt
    toggle_nonzero-kept selector (Some a) = tt

    toggle_kept : (names : Names) (name : Option ℕ) (selector : ℕ) (atoms : List Atom) → Stays (panel.toggle_row names name value other saved selector atoms)
    toggle_kept names name selector atoms =
        of_sort (panel.toggle_hot names name value other saved selector atoms) (
          (λ z. tt),
          tt,
          (λ n. tt),
          tt,
          either Stays (panel.is_called names selector (codes "set")) _ _ (toggle_set-kept selector (slice_get atoms 0))
              (either Stays (panel.is_called names selector (codes "nonzero")) _ _ (toggle_nonzero-kept selector (slice_get atoms 0)) tt),
        ) (first_sort (sort_of selector atoms) atoms)

  panel_row-kept : (names : Names) (p : Panel) (s : State) (selector : ℕ) (atoms : List Atom) → HasContents size known s → Stays (panel.panel_row names p s selector atoms)
  panel_row-kept names (panel_kind.Tgl toggle) (state.Toggle value other saved) selector atoms h = toggle_kept value other saved names toggle.send selector atoms
  panel_row-kept names p s selector atoms h = h

  pub panel_kept : (names : Names) (k : Kind) (s : State) (selector : ℕ) (atoms : List Atom) → HasContents size known s → Stays (panel.heard names k s selector atoms)
  unfolding panel.heard
  panel_kept names (kind.Panel p) s selector atoms h = panel_row-kept names p s selector atoms h
  panel_kept names k s selector atoms h = h
