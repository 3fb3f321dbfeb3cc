-- The objects of time and of chance, `until`, and those that read and write tables.
use Rattle.std.proofs.Common.{ℕ, ℤ, zero, suc, unsigned_abs, ◌^◌, ◌<◌, Bool, true, false, ◌==◌, List, [], ◌∷◌, Option, Some, None, IfSome, codes, arith}
use Rattle.std.specs.List.{AllByRecursion}
use Rattle.pd_num.specs.Scale.{whole_of}
use Rattle.pd_atom.specs.Names.{Names}
use Rattle.pd_atom.specs.declared.Atom.{Atom}
use Rattle.pd_clock.specs.declared.times.Rate.{Rate}
use Rattle.pd_kind.specs.declared.messages.Deed.{Deed}
use Rattle.pd_kind.specs.declared.messages.Deed.TheVariants as deed
use Rattle.pd_kind.specs.declared.messages.Sort.{Sort}
use Rattle.pd_kind.specs.declared.messages.Sort.TheVariants as sort
use Rattle.pd_kind.specs.declared.messages.Target.TheVariants as target
use Rattle.pd_object.specs.declared.row_names.Row.TheVariants as row
use Rattle.pd_kind.specs.Messages.{sort_of}
use Rattle.pd_kind.specs.Rows.{Send}
use Rattle.pd_kind.specs.Said.{bang_to}
use Rattle.pd_kind.specs.States.{whole_at_least}
use Rattle.pd_kind.specs.Hearing.{first_sort, stored}
use Rattle.pd_plain.specs.Values.{is_called}
use Rattle.pd_plain.specs.Timed.{says_with, until_hot, until_cold, until_row, until_resumed, metro_period, metro_started, metro_other, metro_hot, metro_cold, metro_row, delay_set, delay_other, delay_hot, delay_cold, delay_row, elapsed, timer_hot, timer_cold, timer_row, next_seed, drawn, random_hot, random_cold, random_row, place_in, value_at, tabread_hot, tabread_row, written, tabwrite_hot, tabwrite_cold, tabwrite_row}
use Rattle.pd_guards.specs.Order.{IsNumber, HasFirst, IsName, IsMessage, IsTable, IsSend, IsDeed, IsSaid, IsHeard}
use Rattle.pd_guards.proofs.FactLemmas.{either}
use Rattle.pd_guards.proofs.NumberLemmas.{near_pos, least_in, drawn_in, get_in}
use Rattle.pd_guards.proofs.BaseLemmas.{no_number, IsSort, sort_in, first_in, stored_in, bang_sent, silence, number_said, deafness, deaf_told}

module _ (names : Names) (first : HasFirst names) (limit : ℕ) where
  pub with_deed : (d : Deed) (sends : List Send) → IsDeed d → AllByRecursion (IsSend names) sends → IsSaid names (says_with d sends)
  with_deed d sends h k = record { sends = k; deed = h; notices = tt }

  bang_with : (d : Deed) → IsDeed d → IsSaid names (says_with d (bang_to 0 ∷ []))
  bang_with d h = with_deed d (bang_to 0 ∷ []) h (bang_sent names first (target.Outlet 0) tt, tt)

  until_hot-in : (running : Bool) (count : Option ℕ) (selector : ℕ) (s : Sort) → IsName names selector → IsHeard names limit (until_hot running count selector s)
  until_hot-in running count selector sort.Bang n = record { kept = tt; said = with_deed deed.Again [] tt tt }
  until_hot-in running count selector (sort.Float z) n = record { kept = tt; said = with_deed deed.Again [] tt tt }
  until_hot-in running count selector s n = record { kept = tt; said = deaf_told names first row.Until s selector n }

  until_cold-in : (running : Bool) (count : Option ℕ) (selector : ℕ) (s : Sort) → IsName names selector → IsHeard names limit (until_cold running count selector s)
  until_cold-in running count selector sort.Bang n = record { kept = tt; said = silence names first }
  until_cold-in running count selector s n = record { kept = tt; said = deafness names first row.Until selector n }

  pub until_in : (running : Bool) (count : Option ℕ) (inlet selector : ℕ) (atoms : List Atom) → IsMessage names selector atoms → IsHeard names limit (until_row running count inlet selector atoms)
  until_in running count inlet selector atoms m =
      either (IsHeard names limit) (inlet == 0) _ _
      (until_hot-in running count selector (first_sort (sort_of selector atoms) atoms) m.known)
      (until_cold-in running count selector (sort_of selector atoms) m.known)

  pub resumed_in : (running : Bool) (count : Option ℕ) → IsHeard names limit (until_resumed running count)
  resumed_in true None = record { kept = tt; said = bang_with deed.Again tt }
  resumed_in true (Some zero) = record { kept = tt; said = silence names first }
  resumed_in true (Some (suc n)) = record { kept = tt; said = bang_with deed.Again tt }
  resumed_in false count = record { kept = tt; said = silence names first }

  pub metro_said : (period : ℤ) → IsSaid names (says_with (deed.SetClock (metro_period period)) (bang_to 0 ∷ []))
  metro_said period = bang_with (deed.SetClock (metro_period period)) tt

  metro_started-in : (period : ℤ) → IsHeard names limit (metro_started period)
  metro_started-in period = record { kept = tt; said = metro_said period }

  metro_other-in : (period : ℤ) (selector : ℕ) → IsName names selector → IsHeard names limit (metro_other names period selector)
  metro_other-in period selector n =
      either (IsHeard names limit) (is_called names selector (codes "stop")) _ _
      (record { kept = tt; said = with_deed deed.ClearClock [] tt tt }) (record { kept = tt; said = deafness names first row.Metro selector n })

  metro_hot-in : (period : ℤ) (selector : ℕ) (s : Sort) → IsName names selector → IsHeard names limit (metro_hot names period selector s)
  metro_hot-in period selector sort.Bang n = metro_started-in period
  metro_hot-in period selector (sort.Float z) n = either (IsHeard names limit) (unsigned_abs z == 0) _ _ (record { kept = tt; said = with_deed deed.ClearClock [] tt tt }) (metro_started-in period)
  metro_hot-in period selector sort.Other n = metro_other-in period selector n
  metro_hot-in period selector s n = record { kept = tt; said = deaf_told names first row.Metro s selector n }

  metro_cold-in : (period : ℤ) (selector : ℕ) (s : Sort) → IsName names selector → IsHeard names limit (metro_cold period selector s)
  metro_cold-in period selector (sort.Float z) n = record { kept = tt; said = silence names first }
  metro_cold-in period selector s n = record { kept = tt; said = deafness names first row.Metro selector n }

  pub metro_in : (period : ℤ) (inlet selector : ℕ) (atoms : List Atom) → IsMessage names selector atoms → IsHeard names limit (metro_row names period inlet selector atoms)
  metro_in period inlet selector atoms m =
      let s = sort_of selector atoms in
      either (IsHeard names limit) (inlet == 0) _ _ (metro_hot-in (stored s atoms 1 period) selector (first_sort s atoms) m.known) (metro_cold-in period selector s m.known)

  delay_set-in : (time : ℤ) → IsHeard names limit (delay_set time)
  delay_set-in time = record { kept = tt; said = with_deed _ [] tt tt }

  delay_other-in : (time : ℤ) (selector : ℕ) → IsName names selector → IsHeard names limit (delay_other names time selector)
  delay_other-in time selector n =
      either (IsHeard names limit) (is_called names selector (codes "stop")) _ _
      (record { kept = tt; said = with_deed deed.ClearClock [] tt tt }) (record { kept = tt; said = deafness names first row.Delay selector n })

  delay_hot-in : (time : ℤ) (selector : ℕ) (s : Sort) → IsName names selector → IsHeard names limit (delay_hot names time selector s)
  delay_hot-in time selector sort.Bang n = delay_set-in time
  delay_hot-in time selector (sort.Float z) n = delay_set-in z
  delay_hot-in time selector sort.Other n = delay_other-in time selector n
  delay_hot-in time selector s n = record { kept = tt; said = deaf_told names first row.Delay s selector n }

  delay_cold-in : (time : ℤ) (selector : ℕ) (s : Sort) → IsName names selector → IsHeard names limit (delay_cold time selector s)
  delay_cold-in time selector (sort.Float z) n = record { kept = tt; said = silence names first }
  delay_cold-in time selector s n = record { kept = tt; said = deafness names first row.Delay selector n }

  pub delay_in : (time : ℤ) (inlet selector : ℕ) (atoms : List Atom) → IsMessage names selector atoms → IsHeard names limit (delay_row names time inlet selector atoms)
  delay_in time inlet selector atoms m =
      let s = sort_of selector atoms in
      either (IsHeard names limit) (inlet == 0) _ _ (delay_hot-in (stored s atoms 1 time) selector (first_sort s atoms) m.known) (delay_cold-in time selector s m.known)

  timer_hot-in : (reset : ℕ) (rate : Rate) (now selector : ℕ) (s : Sort) → IsName names selector → IsHeard names limit (timer_hot reset rate now selector s)
  timer_hot-in reset rate now selector sort.Bang n = record { kept = tt; said = silence names first }
  timer_hot-in reset rate now selector s n = record { kept = tt; said = deaf_told names first row.Timer s selector n }

  elapsed-in : (rate : Rate) (reset now : ℕ) → IsNumber (elapsed rate reset now)
  elapsed-in rate reset now = near_pos _ (omega arith)

  timer_cold-in : (reset : ℕ) (rate : Rate) (now selector : ℕ) (s : Sort) → IsName names selector → IsHeard names limit (timer_cold reset rate now selector s)
  timer_cold-in reset rate now selector sort.Bang n = record { kept = tt; said = number_said names first 0 (elapsed rate reset now) (elapsed-in rate reset now) }
  timer_cold-in reset rate now selector s n = record { kept = tt; said = deafness names first row.Timer selector n }

  pub timer_in : (reset : ℕ) (rate : Rate) (now inlet selector : ℕ) (atoms : List Atom) → IsMessage names selector atoms → IsHeard names limit (timer_row reset rate now inlet selector atoms)
  timer_in reset rate now inlet selector atoms m =
      either (IsHeard names limit) (inlet == 0) _ _
      (timer_hot-in reset rate now selector (first_sort (sort_of selector atoms) atoms) m.known)
      (timer_cold-in reset rate now selector (sort_of selector atoms) m.known)

  seed_less : (seed : ℕ) → next_seed seed < 2 ^ 32
  seed_less seed = omega arith

  random_hot-in : (seed : ℕ) (range : ℤ) (selector : ℕ) (s : Sort) → seed < 2 ^ 32 → IsNumber range → IsName names selector → IsHeard names limit (random_hot seed range selector s)
  random_hot-in seed range selector sort.Bang l k n = record { kept = (seed_less seed, k); said = number_said names first 0 (drawn (next_seed seed) range) (drawn_in (next_seed seed) range (seed_less seed) k) }
  random_hot-in seed range selector s l k n = record { kept = (l, k); said = deaf_told names first row.Random s selector n }

  random_cold-in : (seed : ℕ) (range : ℤ) (selector : ℕ) (s : Sort) → seed < 2 ^ 32 → IsNumber range → IsName names selector → IsSort names first s → IsHeard names limit (random_cold seed range selector s)
  random_cold-in seed range selector (sort.Float z) l k n h = record { kept = (l, least_in 1 z (omega arith) h); said = silence names first }
  random_cold-in seed range selector s l k n h = record { kept = (l, k); said = deafness names first row.Random selector n }

  pub random_in : (seed : ℕ) (range : ℤ) (inlet selector : ℕ) (atoms : List Atom) → seed < 2 ^ 32 → IsNumber range → IsMessage names selector atoms → IsHeard names limit (random_row seed range inlet selector atoms)
  random_in seed range inlet selector atoms l k m =
      let s = sort_of selector atoms in
      let h : IsSort names first s = sort_in names first selector atoms m.list.all in
      either (IsHeard names limit) (inlet == 0) _ _
      (random_hot-in seed (whole_at_least 1 (stored s atoms 1 range)) selector (first_sort s atoms) l (least_in 1 (stored s atoms 1 range) (omega arith) (stored_in names first s atoms 1 range m.list.all k)) m.known)
      (random_cold-in seed range selector s l k m.known h)

  value_at-in : (table : Option (List ℤ)) (z : ℤ) → IfSome table IsTable → IsNumber (value_at table z)
  value_at-in None z h = no_number
  value_at-in (Some values) z h = get_in values (place_in values z) h.numbers

  tabread_hot-in : (table : Option (List ℤ)) (selector : ℕ) (s : Sort) → IfSome table IsTable → IsName names selector → IsSaid names (tabread_hot table selector s)
  tabread_hot-in table selector (sort.Float z) t n = number_said names first 0 (value_at table z) (value_at-in table z t)
  tabread_hot-in table selector s t n = deaf_told names first row.Tabread s selector n

  pub tabread_in : (table : Option (List ℤ)) (selector : ℕ) (atoms : List Atom) → IfSome table IsTable → IsMessage names selector atoms → IsSaid names (tabread_row table selector atoms)
  tabread_in table selector atoms t m = tabread_hot-in table selector (first_sort (sort_of selector atoms) atoms) t m.known

  written-in : (table : Option (List ℤ)) (index z : ℤ) → IsNumber z → IsSaid names (written table index z)
  written-in None index z h = silence names first
  written-in (Some values) index z h = with_deed (deed.WriteTable (place_in values index) z) [] h tt

  tabwrite_hot-in : (table : Option (List ℤ)) (index : ℤ) (selector : ℕ) (s : Sort) → IsName names selector → IsSort names first s → IsHeard names limit (tabwrite_hot table index selector s)
  tabwrite_hot-in table index selector (sort.Float z) n h = record { kept = tt; said = written-in table index z h }
  tabwrite_hot-in table index selector s n h = record { kept = tt; said = deaf_told names first row.Tabwrite s selector n }

  tabwrite_cold-in : (index : ℤ) (selector : ℕ) (s : Sort) → IsName names selector → IsHeard names limit (tabwrite_cold index selector s)
  tabwrite_cold-in index selector (sort.Float z) n = record { kept = tt; said = silence names first }
  tabwrite_cold-in index selector s n = record { kept = tt; said = deafness names first row.Tabwrite selector n }

  pub tabwrite_in : (table : Option (List ℤ)) (index : ℤ) (inlet selector : ℕ) (atoms : List Atom) → IsMessage names selector atoms → IsHeard names limit (tabwrite_row table index inlet selector atoms)
  tabwrite_in table index inlet selector atoms m =
      let s = sort_of selector atoms in
      let h : IsSort names first s = sort_in names first selector atoms m.list.all in
      either (IsHeard names limit) (inlet == 0) _ _
      (tabwrite_hot-in table (whole_of (stored s atoms 1 index)) selector (first_sort s atoms) m.known (first_in names first s atoms h m.list.all))
      (tabwrite_cold-in index selector s m.known)
