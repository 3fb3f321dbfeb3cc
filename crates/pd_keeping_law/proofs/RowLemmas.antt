-- What the control objects keep after what they hear.
use Rattle.std.proofs.Common.{ℕ, ℤ, zero, suc, unsigned_abs, Bool, true, false, cond, ◌==◌, List, slice_get, Option, Some, None, codes}
use Rattle.std.specs.Ordering.{int_eq}
use Rattle.pd_num.specs.Scale.{whole_of}
use Rattle.pd_atom.specs.Names.{Names}
use Rattle.pd_atom.specs.declared.Atom.{Atom}
use Rattle.pd_atom.specs.declared.Atom.TheVariants as atom
use Rattle.pd_object.specs.declared.kinds.Arith.{Arith}
use Rattle.pd_object.specs.declared.kinds.Arith.TheVariants as arith_kind
use Rattle.pd_object.specs.declared.kinds.Glue.{Glue}
use Rattle.pd_object.specs.declared.kinds.Glue.TheVariants as glue
use Rattle.pd_object.specs.declared.kinds.Kind.{Kind}
use Rattle.pd_object.specs.declared.kinds.Kind.TheVariants as kind
use Rattle.pd_object.specs.declared.kinds.Panel.{Panel}
use Rattle.pd_object.specs.declared.kinds.Panel.TheVariants as panel_kind
use Rattle.pd_object.specs.declared.kinds.Slot.{Slot}
use Rattle.pd_kind.specs.declared.messages.Sort.{Sort}
use Rattle.pd_kind.specs.declared.messages.Sort.TheVariants as sort
use Rattle.pd_kind.specs.declared.states.State.{State}
use Rattle.pd_kind.specs.declared.states.State.TheVariants as state
use Rattle.pd_kind.specs.Hearing.{Heard, first_sort, stored}
use Rattle.pd_kind.specs.Messages.{sort_of}
use Rattle.pd_kind.specs.States.{whole_at_least}
use Rattle.pd_arith.specs.Rows as arith
use Rattle.pd_panel.specs.Rows as panel
use Rattle.pd_list.specs.Slots.{fits_at, pack_hot, pack_cold, pack_row}
use Rattle.pd_list.specs.Lists.{split_cold, split_row}
use Rattle.pd_list.specs.Rows.{list_row}
use Rattle.pd_message.specs.Rows.{heard_as, message_row}
use Rattle.pd_plain.specs.Values.{float_hot, float_cold, int_hot, int_cold, symbol_hot, symbol_cold, moses_hot, moses_cold, spigot_hot, spigot_cold, swap_hot, swap_cold, change_set, change_hot, change_row, box_send_name, float_box_set, float_box_hot, float_box_row, symbol_box_set, symbol_box_hot, symbol_box_row, send_hot, send_cold, is_called}
use Rattle.pd_plain.specs.Timed.{until_hot, until_cold, until_resumed, metro_hot, metro_cold, metro_row, delay_hot, delay_cold, delay_row, timer_hot, timer_cold, random_hot, random_cold, tabwrite_hot, tabwrite_cold}
use Rattle.pd_plain.specs.Rows.{value_row, gate_row, timed_row, table_row, plain_row, resumed}
use Rattle.pd_keeping_law.proofs.FactLemmas.{either}
use Rattle.pd_keeping_law.proofs.ChangeLemmas.{IsSaid}
use Rattle.pd_keeping_law.specs.Changes.{Sayings, Becomes}
use Rattle.pd_keeping_law.specs.Changes as change

module _ (Said : Sayings) where
  -- a hearing leaves what the box may keep
  abbrev pub Stays : State → Heard → Type 0
  Stays s h = Becomes Said s h.state

  -- what is left by a message of each sort
  abbrev Every : State → (Sort → Heard) → Type 0
  Every b f = ((z : ℤ) → Stays b (f (sort.Float z))) × Stays b (f sort.Bang) × ((n : ℕ) → Stays b (f (sort.Symbol n))) × Stays b (f sort.List) × Stays b (f sort.Other)

  of_sort : (b : State) (f : Sort → Heard) → Every b f → (s : Sort) → Stays b (f s)
  of_sort b f e (sort.Float z) = e.0 z
  of_sort b f e sort.Bang = e.1
  of_sort b f e (sort.Symbol n) = e.2 n
  of_sort b f e sort.List = e.3
  of_sort b f e sort.Other = e.4

  two_sorts : (b : State) (f g : Sort → Heard) (inlet selector : ℕ) (atoms : List Atom) → Every b f → Every b g → Stays b (cond (inlet == 0) (f (first_sort (sort_of selector atoms) atoms)) (g (sort_of selector atoms)))
  two_sorts b f g inlet selector atoms i j =
      either (Stays b) (inlet == 0) (f (first_sort (sort_of selector atoms) atoms)) (g (sort_of selector atoms)) (of_sort b f i (first_sort (sort_of selector atoms) atoms)) (of_sort b g j (sort_of selector atoms))

  -- the objects that keep a value
  value_becomes : (g : Glue) (s : State) (inlet selector : ℕ) (atoms : List Atom) → Stays s (value_row g s inlet selector atoms)
  unfolding value_row
  value_becomes (glue.Float w z) (state.Float v) inlet selector atoms = two_sorts _ (float_hot (stored (sort_of selector atoms) atoms 1 v) selector) (float_cold v selector) inlet selector atoms ((λ z. change.float), change.float, (λ n. change.float), change.float, change.float) ((λ z. change.float), change.float, (λ n. change.float), change.float, change.float)
  value_becomes (glue.Int w z) (state.Int v) inlet selector atoms = two_sorts _ (int_hot (whole_of (stored (sort_of selector atoms) atoms 1 v)) selector) (int_cold v selector) inlet selector atoms ((λ z. change.int), change.int, (λ n. change.int), change.int, change.int) ((λ z. change.int), change.int, (λ n. change.int), change.int, change.int)
  value_becomes (glue.Symbol n) (state.Symbol v) inlet selector atoms = two_sorts _ (symbol_hot v selector) (symbol_cold v selector) inlet selector atoms ((λ z. change.symbol), change.symbol, (λ n. change.symbol), change.symbol, change.symbol) ((λ z. change.symbol), change.symbol, (λ n. change.symbol), change.symbol, change.symbol)
  value_becomes (glue.Moses z) (state.Moses bound) inlet selector atoms = two_sorts _ (moses_hot (stored (sort_of selector atoms) atoms 1 bound) selector) (moses_cold bound selector) inlet selector atoms ((λ z. change.moses), change.moses, (λ n. change.moses), change.moses, change.moses) ((λ z. change.moses), change.moses, (λ n. change.moses), change.moses, change.moses)
  value_becomes (glue.Swap z) (state.Swap left right) inlet selector atoms = two_sorts _ (swap_hot left (stored (sort_of selector atoms) atoms 1 right) selector) (swap_cold left right selector) inlet selector atoms ((λ z. change.swap), change.swap, (λ n. change.swap), change.swap, change.swap) ((λ z. change.swap), change.swap, (λ n. change.swap), change.swap, change.swap)
  value_becomes g s inlet selector atoms = change.same

  change_set-becomes : (v : ℤ) (selector : ℕ) (o : Option Atom) → Stays (state.Change v) (change_set v selector o)
  change_set-becomes v selector None = change.change
  change_set-becomes v selector (Some (atom.Number z)) = change.change
  change_set-becomes v selector (Some a) = change.change

  change_becomes : (names : Names) (v : ℤ) (selector : ℕ) (atoms : List Atom) → Stays (state.Change v) (change_row names v selector atoms)
  change_becomes names v selector atoms =
      of_sort _ (change_hot names v selector atoms)
      ((λ z. either (Stays _) (int_eq v z) _ _ change.change change.change), change.change, (λ n. change.change), change.change, either (Stays _) (is_called names selector (codes "set")) _ _ (change_set-becomes v selector (slice_get atoms 0)) change.change)
      (first_sort (sort_of selector atoms) atoms)

  float_box_set-becomes : (v : ℤ) (selector : ℕ) (o : Option Atom) → Stays (state.FloatBox v) (float_box_set v selector o)
  float_box_set-becomes v selector None = change.float_box
  float_box_set-becomes v selector (Some (atom.Number z)) = change.float_box
  float_box_set-becomes v selector (Some a) = change.float_box

  float_box_becomes : (names : Names) (name : Option ℕ) (v : ℤ) (selector : ℕ) (atoms : List Atom) → Stays (state.FloatBox v) (float_box_row names name v selector atoms)
  float_box_becomes names name v selector atoms =
      of_sort _ (float_box_hot names name v selector atoms)
      ((λ z. change.float_box), change.float_box, (λ n. change.float_box), change.float_box, either (Stays _) (is_called names selector (codes "set")) _ _ (float_box_set-becomes v selector (slice_get atoms 0)) change.float_box) (first_sort (sort_of selector atoms) atoms)

  symbol_box_set-becomes : (v selector : ℕ) (o : Option Atom) → Stays (state.SymbolBox v) (symbol_box_set v selector o)
  symbol_box_set-becomes v selector None = change.symbol_box
  symbol_box_set-becomes v selector (Some (atom.Symbol s)) = change.symbol_box
  symbol_box_set-becomes v selector (Some a) = change.symbol_box

  symbol_box_becomes : (names : Names) (name : Option ℕ) (v selector : ℕ) (atoms : List Atom) → Stays (state.SymbolBox v) (symbol_box_row names name v selector atoms)
  symbol_box_becomes names name v selector atoms =
      of_sort _ (symbol_box_hot names name v selector atoms)
      ((λ z. change.symbol_box), change.symbol_box, (λ n. change.symbol_box), change.symbol_box, either (Stays _) (is_called names selector (codes "set")) _ _ (symbol_box_set-becomes v selector (slice_get atoms 0)) change.symbol_box) (first_sort (sort_of selector atoms) atoms)

  gate_becomes : (names : Names) (g : Glue) (s : State) (inlet selector : ℕ) (atoms : List Atom) → Stays s (gate_row names g s inlet selector atoms)
  unfolding gate_row
  gate_becomes names (glue.Spigot z) (state.Spigot gate) inlet selector atoms = two_sorts _ (λ s. spigot_hot gate selector atoms) (spigot_cold gate selector) inlet selector atoms ((λ z. change.spigot), change.spigot, (λ n. change.spigot), change.spigot, change.spigot) ((λ z. change.spigot), change.spigot, (λ n. change.spigot), change.spigot, change.spigot)
  gate_becomes names (glue.Change z) (state.Change v) inlet selector atoms = change_becomes names v selector atoms
  gate_becomes names (glue.Send w n) (state.Send name) inlet selector atoms = two_sorts _ (λ s. send_hot name selector atoms) (send_cold name selector) inlet selector atoms ((λ z. change.send), change.send, (λ n. change.send), change.send, change.send) ((λ z. change.send), change.send, (λ n. change.send), change.send, change.send)
  gate_becomes names (glue.FloatBox text) (state.FloatBox v) inlet selector atoms = float_box_becomes names (box_send_name names text) v selector atoms
  gate_becomes names (glue.SymbolBox text) (state.SymbolBox v) inlet selector atoms = symbol_box_becomes names (box_send_name names text) v selector atoms
  gate_becomes names g s inlet selector atoms = change.same

  -- the objects of time and of chance
  metro_becomes : (names : Names) (period : ℤ) (inlet selector : ℕ) (atoms : List Atom) → Stays (state.Metro period) (metro_row names period inlet selector atoms)
  metro_becomes names period inlet selector atoms =
      two_sorts _ (metro_hot names (stored (sort_of selector atoms) atoms 1 period) selector) (metro_cold period selector) inlet selector atoms
      ((λ z. either (Stays _) (unsigned_abs z == 0) _ _ change.metro change.metro), change.metro, (λ n. change.metro), change.metro, either (Stays _) (is_called names selector (codes "stop")) _ _ change.metro change.metro) ((λ z. change.metro), change.metro, (λ n. change.metro), change.metro, change.metro)

  delay_becomes : (names : Names) (time : ℤ) (inlet selector : ℕ) (atoms : List Atom) → Stays (state.Delay time) (delay_row names time inlet selector atoms)
  delay_becomes names time inlet selector atoms =
      two_sorts _ (delay_hot names (stored (sort_of selector atoms) atoms 1 time) selector) (delay_cold time selector) inlet selector atoms
      ((λ z. change.delay), change.delay, (λ n. change.delay), change.delay, either (Stays _) (is_called names selector (codes "stop")) _ _ change.delay change.delay) ((λ z. change.delay), change.delay, (λ n. change.delay), change.delay, change.delay)

  timed_becomes : (names : Names) (g : Glue) (s : State) (inlet selector : ℕ) (atoms : List Atom) (now : ℕ) → Stays s (timed_row names g s inlet selector atoms now)
  unfolding timed_row
  timed_becomes names glue.Until (state.Until running count) inlet selector atoms now = two_sorts _ (until_hot running count selector) (until_cold running count selector) inlet selector atoms ((λ z. change.until), change.until, (λ n. change.until), change.until, change.until) ((λ z. change.until), change.until, (λ n. change.until), change.until, change.until)
  timed_becomes names (glue.Metro z) (state.Metro period) inlet selector atoms now = metro_becomes names period inlet selector atoms
  timed_becomes names (glue.Delay w z) (state.Delay time) inlet selector atoms now = delay_becomes names time inlet selector atoms
  timed_becomes names glue.Timer (state.Timer reset rate) inlet selector atoms now = two_sorts _ (timer_hot reset rate now selector) (timer_cold reset rate now selector) inlet selector atoms ((λ z. change.timer), change.timer, (λ n. change.timer), change.timer, change.timer) ((λ z. change.timer), change.timer, (λ n. change.timer), change.timer, change.timer)
  timed_becomes names (glue.Random z) (state.Random seed range) inlet selector atoms now =
      let drawn : ℤ = stored (sort_of selector atoms) atoms 1 range in
      two_sorts _ (random_hot seed (whole_at_least 1 drawn) selector) (random_cold seed range selector) inlet selector atoms
      ((λ z. change.random drawn), change.random drawn, (λ n. change.random drawn), change.random drawn, change.random drawn) ((λ z. change.random z), change.same, (λ n. change.same), change.same, change.same)
  timed_becomes names g s inlet selector atoms now = change.same

  table_becomes : (table : Option (List ℤ)) (s : State) (inlet selector : ℕ) (atoms : List Atom) → Stays s (table_row table s inlet selector atoms)
  unfolding table_row
  table_becomes table (state.Tabwrite index) inlet selector atoms = two_sorts _ (tabwrite_hot table (whole_of (stored (sort_of selector atoms) atoms 1 index)) selector) (tabwrite_cold index selector) inlet selector atoms ((λ z. change.tabwrite), change.tabwrite, (λ n. change.tabwrite), change.tabwrite, change.tabwrite) ((λ z. change.tabwrite), change.tabwrite, (λ n. change.tabwrite), change.tabwrite, change.tabwrite)
  table_becomes table s inlet selector atoms = change.same

  pub plain_becomes : (names : Names) (g : Glue) (s : State) (inlet selector : ℕ) (atoms : List Atom) (now : ℕ) (table : Option (List ℤ)) → Stays s (plain_row names g s inlet selector atoms now table)
  unfolding plain_row
  plain_becomes names (glue.Float w z) s inlet selector atoms now table = value_becomes (glue.Float w z) s inlet selector atoms
  plain_becomes names (glue.Int w z) s inlet selector atoms now table = value_becomes (glue.Int w z) s inlet selector atoms
  plain_becomes names (glue.Symbol n) s inlet selector atoms now table = value_becomes (glue.Symbol n) s inlet selector atoms
  plain_becomes names (glue.Moses z) s inlet selector atoms now table = value_becomes (glue.Moses z) s inlet selector atoms
  plain_becomes names (glue.Swap z) s inlet selector atoms now table = value_becomes (glue.Swap z) s inlet selector atoms
  plain_becomes names (glue.Spigot z) s inlet selector atoms now table = gate_becomes names (glue.Spigot z) s inlet selector atoms
  plain_becomes names (glue.Change z) s inlet selector atoms now table = gate_becomes names (glue.Change z) s inlet selector atoms
  plain_becomes names (glue.Send w n) s inlet selector atoms now table = gate_becomes names (glue.Send w n) s inlet selector atoms
  plain_becomes names (glue.FloatBox text) s inlet selector atoms now table = gate_becomes names (glue.FloatBox text) s inlet selector atoms
  plain_becomes names (glue.SymbolBox text) s inlet selector atoms now table = gate_becomes names (glue.SymbolBox text) s inlet selector atoms
  plain_becomes names glue.Until s inlet selector atoms now table = timed_becomes names glue.Until s inlet selector atoms now
  plain_becomes names (glue.Metro z) s inlet selector atoms now table = timed_becomes names (glue.Metro z) s inlet selector atoms now
  plain_becomes names (glue.Delay w z) s inlet selector atoms now table = timed_becomes names (glue.Delay w z) s inlet selector atoms now
  plain_becomes names glue.Timer s inlet selector atoms now table = timed_becomes names glue.Timer s inlet selector atoms now
  plain_becomes names (glue.Random z) s inlet selector atoms now table = timed_becomes names (glue.Random z) s inlet selector atoms now
  plain_becomes names (glue.Tabwrite name) s inlet selector atoms now table = table_becomes table s inlet selector atoms
  plain_becomes names g s inlet selector atoms now table = change.same

  running_becomes : (running : Bool) (count : Option ℕ) → Stays (state.Until running count) (until_resumed running count)
  running_becomes true None = change.until
  running_becomes true (Some zero) = change.until
  running_becomes true (Some (suc n)) = change.until
  running_becomes false count = change.until

  pub resumed_becomes : (g : Glue) (s : State) → Stays s (resumed g s)
  unfolding resumed
  resumed_becomes glue.Until (state.Until running count) = running_becomes running count
  resumed_becomes g s = change.same

  -- lists and texts
  pack_becomes : (slots : List Slot) (kept : List Atom) (inlet selector : ℕ) (atoms : List Atom) → Stays (state.Pack kept) (pack_row slots kept inlet selector atoms)
  pack_becomes slots kept inlet selector atoms =
      either (Stays _) (inlet == 0) _ _
      (of_sort _ (pack_hot slots kept selector atoms) ((λ z. either (Stays _) (fits_at slots 0 (atom.Number z)) _ _ change.pack change.pack), change.pack, (λ n. either (Stays _) (fits_at slots 0 (atom.Symbol n)) _ _ change.pack change.pack), change.pack, change.pack) (sort_of selector atoms))
      (of_sort _ (pack_cold slots kept inlet selector) ((λ z. either (Stays _) (fits_at slots inlet (atom.Number z)) _ _ change.pack change.pack), change.pack, (λ n. either (Stays _) (fits_at slots inlet (atom.Symbol n)) _ _ change.pack change.pack), change.pack, change.pack) (sort_of selector atoms))

  split_becomes : (count : ℤ) (inlet selector : ℕ) (atoms : List Atom) → Stays (state.ListSplit count) (split_row count inlet selector atoms)
  split_becomes count inlet selector atoms =
      either (Stays _) (inlet == 0) _ _ change.same (of_sort _ (split_cold count selector) ((λ z. change.list_split z), change.same, (λ n. change.same), change.same, change.same) (sort_of selector atoms))

  pub list_becomes : (g : Glue) (s : State) (inlet selector : ℕ) (atoms : List Atom) → Stays s (list_row g s inlet selector atoms)
  unfolding list_row
  list_becomes (glue.Pack slots) (state.Pack kept) inlet selector atoms = pack_becomes slots kept inlet selector atoms
  list_becomes (glue.Route a) (state.Route args) inlet selector atoms = change.route
  list_becomes (glue.Select w a) (state.Select args) inlet selector atoms = change.select
  list_becomes (glue.ListAppend w a) (state.ListAppend stored) inlet selector atoms = change.list_append
  list_becomes (glue.ListPrepend a) (state.ListPrepend stored) inlet selector atoms = change.list_prepend
  list_becomes (glue.ListSplit z) (state.ListSplit count) inlet selector atoms = split_becomes count inlet selector atoms
  list_becomes g s inlet selector atoms = change.same

  text_becomes : (names : Names) (text : List Atom) (selector : ℕ) (atoms : List Atom) (s : Sort) → IsSaid Said names selector atoms → Becomes Said (state.Message text) (heard_as names text selector atoms s).state
  text_becomes names text selector atoms sort.Other m = change.message (m.edits text)
  text_becomes names text selector atoms s m = change.same

  pub message_becomes : (names : Names) (s : State) (selector : ℕ) (atoms : List Atom) → IsSaid Said names selector atoms → Becomes Said s (message_row names s selector atoms).state
  unfolding message_row
  message_becomes names (state.Message text) selector atoms m = text_becomes names text selector atoms (sort_of selector atoms) m
  message_becomes names s selector atoms m = change.same

  -- the arithmetic objects, `bng` and `tgl`
  arith_row-becomes : (a : Arith) (s : State) (inlet selector : ℕ) (atoms : List Atom) → Stays s (arith.arith_row a s inlet selector atoms)
  arith_row-becomes (arith_kind.Operation o z) (state.Operation left right) inlet selector atoms = change.operation
  arith_row-becomes (arith_kind.Comparison c z) (state.Comparison left right) inlet selector atoms = change.comparison
  arith_row-becomes (arith_kind.Division d z) (state.Division left right) inlet selector atoms = change.division
  arith_row-becomes (arith_kind.Clip l u) (state.Clip low high) inlet selector atoms = change.clip
  arith_row-becomes a s inlet selector atoms = change.same

  pub arith_becomes : (k : Kind) (s : State) (inlet selector : ℕ) (atoms : List Atom) → Stays s (arith.heard k s inlet selector atoms)
  unfolding arith.heard
  arith_becomes (kind.Arith a) s inlet selector atoms = arith_row-becomes a s inlet selector atoms
  arith_becomes k s inlet selector atoms = change.same

  toggle_set-becomes : (value other : ℤ) (saved : Bool) (selector : ℕ) (o : Option Atom) → Stays (state.Toggle value other saved) (panel.toggle_set value other saved selector o)
  toggle_set-becomes value other saved selector None = change.toggle
  toggle_set-becomes value other saved selector (Some (atom.Number z)) = change.toggle
  toggle_set-becomes value other saved selector (Some a) = change.toggle

  toggle_nonzero-becomes : (value other : ℤ) (saved : Bool) (selector : ℕ) (o : Option Atom) → Stays (state.Toggle value other saved) (panel.toggle_nonzero value other saved selector o)
  toggle_nonzero-becomes value other saved selector None = change.toggle
  toggle_nonzero-becomes value other saved selector (Some (atom.Number z)) = change.toggle_other z
  toggle_nonzero-becomes value other saved selector (Some a) = change.toggle

  toggle_becomes : (names : Names) (name : Option ℕ) (value other : ℤ) (saved : Bool) (selector : ℕ) (atoms : List Atom) → Stays (state.Toggle value other saved) (panel.toggle_row names name value other saved selector atoms)
  toggle_becomes names name value other saved selector atoms =
      of_sort _ (panel.toggle_hot names name value other saved selector atoms) (
        (λ z. change.toggle),
        change.toggle,
        (λ n. change.toggle),
        change.toggle,
        either (Stays _) (panel.is_called names selector (codes "set")) _ _ (toggle_set-becomes value other saved selector (slice_get atoms 0))
            (either (Stays _) (panel.is_called names selector (codes "nonzero")) _ _ (toggle_nonzero-becomes value other saved selector (slice_get atoms 0)) change.toggle),
      ) (first_sort (sort_of selector atoms) atoms)

  panel_row-becomes : (names : Names) (p : Panel) (s : State) (selector : ℕ) (atoms : List Atom) → Stays s (panel.panel_row names p s selector atoms)
  panel_row-becomes names (panel_kind.Tgl toggle) (state.Toggle value other saved) selector atoms = toggle_becomes names toggle.send value other saved selector atoms
  panel_row-becomes names p s selector atoms = change.same

  pub panel_becomes : (names : Names) (k : Kind) (s : State) (selector : ℕ) (atoms : List Atom) → Stays s (panel.heard names k s selector atoms)
  unfolding panel.heard
  panel_becomes names (kind.Panel p) s selector atoms = panel_row-becomes names p s selector atoms
  panel_becomes names k s selector atoms = change.same
