-- The objects that keep a value, and those that pass a message on.
use Rattle.std.proofs.Common.{ℕ, ℤ, unsigned_abs, ◌==◌, List, [], ◌∷◌, slice_get, Option, Some, None, IfSome, codes, bytes_eq, arith}
use Rattle.std.specs.Ordering.{int_eq}
use Rattle.std.specs.List.{AllByRecursion}
use Rattle.pd_num.specs.Scale.{whole_of}
use Rattle.pd_atom.specs.Names.{Names, name_of}
use Rattle.pd_atom.specs.declared.Atom.{Atom}
use Rattle.pd_atom.specs.declared.Atom.TheVariants as atom
use Rattle.pd_kind.specs.declared.messages.Sort.{Sort}
use Rattle.pd_kind.specs.declared.messages.Sort.TheVariants as sort
use Rattle.pd_kind.specs.declared.messages.Target.TheVariants as target
use Rattle.pd_object.specs.declared.row_names.Row.TheVariants as row
use Rattle.pd_kind.specs.Messages.{sort_of}
use Rattle.pd_naming.specs.Naming.{symbol_in, name_at, is_argument, arguments_of}
use Rattle.pd_kind.specs.Said.{send_to, number_to}
use Rattle.pd_kind.specs.Hearing.{first_sort, stored}
use Rattle.pd_plain.specs.Values.{float_hot, float_cold, float_row, int_hot, int_cold, int_row, symbol_hot, symbol_cold, symbol_row, moses_outlet, moses_hot, moses_cold, moses_row, spigot_cold, spigot_row, swapped, swap_hot, swap_cold, swap_row, changed, change_set, change_other, change_hot, change_row, to_name, shown, unless_dash, box_send_name, float_box_set, float_box_other, float_box_hot, float_box_row, symbol_box_set, symbol_box_other, symbol_box_hot, symbol_box_row, send_cold, send_row, is_called}
use Rattle.pd_guards.specs.Order.{IsNumber, HasFirst, IsName, IsAtom, AreAtoms, IsMessage, IsSend, IsSaid, IsHeard}
use Rattle.pd_guards.proofs.FactLemmas.{either, all-at, all-filter}
use Rattle.pd_guards.proofs.NumberLemmas.{whole_in}
use Rattle.pd_guards.proofs.BaseLemmas.{IsSort, sort_in, first_in, stored_in, passed_on, number_sent, silence, only, one, number_said, symbol_said, passed_said, deafness, deaf_told}

module _ (names : Names) (first : HasFirst names) (limit : ℕ) where
  float_hot-in : (v : ℤ) (selector : ℕ) (s : Sort) → IsNumber v → IsName names selector → IsSort names first s → IsHeard names limit (float_hot v selector s)
  float_hot-in v selector (sort.Float z) k n h = record { kept = h; said = number_said names first 0 z h }
  float_hot-in v selector sort.Bang k n h = record { kept = k; said = number_said names first 0 v k }
  float_hot-in v selector s k n h = record { kept = k; said = deaf_told names first row.Float s selector n }

  float_cold-in : (v : ℤ) (selector : ℕ) (s : Sort) → IsNumber v → IsName names selector → IsSort names first s → IsHeard names limit (float_cold v selector s)
  float_cold-in v selector (sort.Float z) k n h = record { kept = h; said = silence names first }
  float_cold-in v selector s k n h = record { kept = k; said = deafness names first row.Float selector n }

  pub float_in : (v : ℤ) (inlet selector : ℕ) (atoms : List Atom) → IsNumber v → IsMessage names selector atoms → IsHeard names limit (float_row v inlet selector atoms)
  float_in v inlet selector atoms k m =
      let s = sort_of selector atoms in
      let h : IsSort names first s = sort_in names first selector atoms m.list.all in
      either (IsHeard names limit) (inlet == 0) _ _
      (float_hot-in (stored s atoms 1 v) selector (first_sort s atoms) (stored_in names first s atoms 1 v m.list.all k) m.known (first_in names first s atoms h m.list.all))
      (float_cold-in v selector s k m.known h)

  int_hot-in : (v : ℤ) (selector : ℕ) (s : Sort) → IsNumber v → IsName names selector → IsSort names first s → IsHeard names limit (int_hot v selector s)
  int_hot-in v selector (sort.Float z) k n h = record { kept = whole_in z h; said = number_said names first 0 (whole_of z) (whole_in z h) }
  int_hot-in v selector sort.Bang k n h = record { kept = k; said = number_said names first 0 v k }
  int_hot-in v selector s k n h = record { kept = k; said = deaf_told names first row.Int s selector n }

  int_cold-in : (v : ℤ) (selector : ℕ) (s : Sort) → IsNumber v → IsName names selector → IsSort names first s → IsHeard names limit (int_cold v selector s)
  int_cold-in v selector (sort.Float z) k n h = record { kept = whole_in z h; said = silence names first }
  int_cold-in v selector s k n h = record { kept = k; said = deafness names first row.Int selector n }

  pub int_in : (v : ℤ) (inlet selector : ℕ) (atoms : List Atom) → IsNumber v → IsMessage names selector atoms → IsHeard names limit (int_row v inlet selector atoms)
  int_in v inlet selector atoms k m =
      let s = sort_of selector atoms in
      let h : IsSort names first s = sort_in names first selector atoms m.list.all in
      either (IsHeard names limit) (inlet == 0) _ _
      (int_hot-in (whole_of (stored s atoms 1 v)) selector (first_sort s atoms) (whole_in (stored s atoms 1 v) (stored_in names first s atoms 1 v m.list.all k)) m.known (first_in names first s atoms h m.list.all))
      (int_cold-in v selector s k m.known h)

  symbol_hot-in : (v selector : ℕ) (s : Sort) → IsName names v → IsName names selector → IsSort names first s → IsHeard names limit (symbol_hot v selector s)
  symbol_hot-in v selector (sort.Symbol s) k n h = record { kept = h; said = symbol_said names first 0 s h }
  symbol_hot-in v selector sort.Bang k n h = record { kept = k; said = symbol_said names first 0 v k }
  symbol_hot-in v selector s k n h = record { kept = k; said = deaf_told names first row.Symbol s selector n }

  symbol_cold-in : (v selector : ℕ) (s : Sort) → IsName names v → IsName names selector → IsSort names first s → IsHeard names limit (symbol_cold v selector s)
  symbol_cold-in v selector (sort.Symbol s) k n h = record { kept = h; said = silence names first }
  symbol_cold-in v selector s k n h = record { kept = k; said = deafness names first row.Symbol selector n }

  pub symbol_in_row : (v inlet selector : ℕ) (atoms : List Atom) → IsName names v → IsMessage names selector atoms → IsHeard names limit (symbol_row v inlet selector atoms)
  symbol_in_row v inlet selector atoms k m =
      let s = sort_of selector atoms in
      let h : IsSort names first s = sort_in names first selector atoms m.list.all in
      either (IsHeard names limit) (inlet == 0) _ _
      (symbol_hot-in v selector (first_sort s atoms) k m.known (first_in names first s atoms h m.list.all))
      (symbol_cold-in v selector s k m.known h)

  moses_hot-in : (bound : ℤ) (selector : ℕ) (s : Sort) → IsName names selector → IsSort names first s → IsHeard names limit (moses_hot bound selector s)
  moses_hot-in bound selector (sort.Float z) n h = record { kept = tt; said = number_said names first (moses_outlet bound z) z h }
  moses_hot-in bound selector s n h = record { kept = tt; said = deaf_told names first row.Moses s selector n }

  moses_cold-in : (bound : ℤ) (selector : ℕ) (s : Sort) → IsName names selector → IsHeard names limit (moses_cold bound selector s)
  moses_cold-in bound selector (sort.Float z) n = record { kept = tt; said = silence names first }
  moses_cold-in bound selector s n = record { kept = tt; said = deafness names first row.Moses selector n }

  pub moses_in : (bound : ℤ) (inlet selector : ℕ) (atoms : List Atom) → IsMessage names selector atoms → IsHeard names limit (moses_row bound inlet selector atoms)
  moses_in bound inlet selector atoms m =
      let s = sort_of selector atoms in
      let h : IsSort names first s = sort_in names first selector atoms m.list.all in
      either (IsHeard names limit) (inlet == 0) _ _
      (moses_hot-in (stored s atoms 1 bound) selector (first_sort s atoms) m.known (first_in names first s atoms h m.list.all))
      (moses_cold-in bound selector s m.known)

  spigot_cold-in : (gate : ℤ) (selector : ℕ) (s : Sort) → IsName names selector → IsHeard names limit (spigot_cold gate selector s)
  spigot_cold-in gate selector (sort.Float z) n = record { kept = tt; said = silence names first }
  spigot_cold-in gate selector s n = record { kept = tt; said = deafness names first row.Spigot selector n }

  pub spigot_in : (gate : ℤ) (inlet selector : ℕ) (atoms : List Atom) → IsMessage names selector atoms → IsHeard names limit (spigot_row gate inlet selector atoms)
  spigot_in gate inlet selector atoms m =
      either (IsHeard names limit) (inlet == 0) _ _
      (record { kept = tt; said = either (IsSaid names) (unsigned_abs gate == 0) _ _ (silence names first) (passed_said names first 0 selector atoms m) })
      (spigot_cold-in gate selector (sort_of selector atoms) m.known)

  swapped-in : (left right : ℤ) → IsNumber left → IsNumber right → IsHeard names limit (swapped left right)
  swapped-in left right a b = record { kept = (a, b); said = only names first (number_to 1 left ∷ number_to 0 right ∷ []) (number_sent names first (target.Outlet 1) left tt a, (number_sent names first (target.Outlet 0) right tt b, tt)) }

  swap_hot-in : (left right : ℤ) (selector : ℕ) (s : Sort) → IsNumber left → IsNumber right → IsName names selector → IsSort names first s → IsHeard names limit (swap_hot left right selector s)
  swap_hot-in left right selector (sort.Float z) a b n h = swapped-in z right h b
  swap_hot-in left right selector sort.Bang a b n h = swapped-in left right a b
  swap_hot-in left right selector s a b n h = record { kept = (a, b); said = deaf_told names first row.Swap s selector n }

  swap_cold-in : (left right : ℤ) (selector : ℕ) (s : Sort) → IsNumber left → IsNumber right → IsName names selector → IsSort names first s → IsHeard names limit (swap_cold left right selector s)
  swap_cold-in left right selector (sort.Float z) a b n h = record { kept = (a, h); said = silence names first }
  swap_cold-in left right selector s a b n h = record { kept = (a, b); said = deafness names first row.Swap selector n }

  pub swap_in : (left right : ℤ) (inlet selector : ℕ) (atoms : List Atom) → IsNumber left → IsNumber right → IsMessage names selector atoms → IsHeard names limit (swap_row left right inlet selector atoms)
  swap_in left right inlet selector atoms a b m =
      let s = sort_of selector atoms in
      let h : IsSort names first s = sort_in names first selector atoms m.list.all in
      either (IsHeard names limit) (inlet == 0) _ _
      (swap_hot-in left (stored s atoms 1 right) selector (first_sort s atoms) a (stored_in names first s atoms 1 right m.list.all b) m.known (first_in names first s atoms h m.list.all))
      (swap_cold-in left right selector s a b m.known h)

  changed-in : (v z : ℤ) → IsNumber v → IsNumber z → IsHeard names limit (changed v z)
  changed-in v z k h = either (IsHeard names limit) (int_eq v z) _ _ (record { kept = k; said = silence names first }) (record { kept = h; said = number_said names first 0 z h })

  change_set-in : (v : ℤ) (selector : ℕ) (o : Option Atom) → IsNumber v → IsName names selector → IfSome o (IsAtom names) → IsHeard names limit (change_set v selector o)
  change_set-in v selector None k n h = record { kept = k; said = deafness names first row.Change selector n }
  change_set-in v selector (Some (atom.Number z)) k n h = record { kept = h.1; said = silence names first }
  change_set-in v selector (Some a) k n h = record { kept = k; said = deafness names first row.Change selector n }

  change_other-in : (v : ℤ) (selector : ℕ) (atoms : List Atom) → IsNumber v → IsMessage names selector atoms → IsHeard names limit (change_other names v selector atoms)
  change_other-in v selector atoms k m =
      either (IsHeard names limit) (is_called names selector (codes "set")) _ _
      (change_set-in v selector (slice_get atoms 0) k m.known (all-at (IsAtom names) atoms 0 m.list.all))
      (record { kept = k; said = deafness names first row.Change selector m.known })

  change_hot-in : (v : ℤ) (selector : ℕ) (atoms : List Atom) (s : Sort) → IsNumber v → IsMessage names selector atoms → IsSort names first s → IsHeard names limit (change_hot names v selector atoms s)
  change_hot-in v selector atoms (sort.Float z) k m h = changed-in v z k h
  change_hot-in v selector atoms sort.Bang k m h = record { kept = k; said = number_said names first 0 v k }
  change_hot-in v selector atoms sort.Other k m h = change_other-in v selector atoms k m
  change_hot-in v selector atoms s k m h = record { kept = k; said = deaf_told names first row.Change s selector m.known }

  pub change_in : (v : ℤ) (selector : ℕ) (atoms : List Atom) → IsNumber v → IsMessage names selector atoms → IsHeard names limit (change_row names v selector atoms)
  change_in v selector atoms k m =
      change_hot-in v selector atoms (first_sort (sort_of selector atoms) atoms) k m (first_in names first (sort_of selector atoms) atoms (sort_in names first selector atoms m.list.all) m.list.all)

  -- to a name, where there is one
  to_name-in : (o : Option ℕ) (selector : ℕ) (atoms : List Atom) → IfSome o (IsName names) → IsMessage names selector atoms → AllByRecursion (IsSend names) (to_name o selector atoms)
  to_name-in None selector atoms h m = tt
  to_name-in (Some s) selector atoms h m = (record { target = h; message = m }, tt)

  shown-in : (o : Option ℕ) (selector : ℕ) (atoms : List Atom) → IfSome o (IsName names) → IsMessage names selector atoms → IsSaid names (shown o selector atoms)
  shown-in o selector atoms h m = only names first (send_to 0 selector atoms ∷ to_name o selector atoms) (passed_on names first 0 selector atoms m, to_name-in o selector atoms h m)

  unless_dash-in : (o : Option ℕ) → IfSome o (IsName names) → IfSome (unless_dash names o) (IsName names)
  unless_dash-in None h = tt
  unless_dash-in (Some s) h = either (λ (o : Option ℕ). IfSome o (IsName names)) (bytes_eq (name_of names s) (codes "-")) None (Some s) tt h

  symbol_there : (o : Option Atom) → IfSome o (IsAtom names) → IfSome (symbol_in o) (IsName names)
  symbol_there None h = tt
  symbol_there (Some (atom.Symbol s)) h = h.0
  symbol_there (Some a) h = tt

  pub box_name : (text : List Atom) → AreAtoms names text → IfSome (box_send_name names text) (IsName names)
  box_name text h = unless_dash-in (name_at (arguments_of text) 6) (symbol_there (slice_get (arguments_of text) 6) (all-at (IsAtom names) (arguments_of text) 6 (all-filter (IsAtom names) is_argument text h)))

  number_message : (z : ℤ) → IsNumber z → IsMessage names 1 (atom.Number z ∷ [])
  number_message z h = record { known = omega (arith, first); list = one names first (atom.Number z) (tt, h) }

  symbol_message : (s : ℕ) → IsName names s → IsMessage names 2 (atom.Symbol s ∷ [])
  symbol_message s h = record { known = omega (arith, first); list = one names first (atom.Symbol s) (h, tt) }

  float_box_set-in : (v : ℤ) (selector : ℕ) (o : Option Atom) → IsNumber v → IsName names selector → IfSome o (IsAtom names) → IsHeard names limit (float_box_set v selector o)
  float_box_set-in v selector None k n h = record { kept = k; said = deafness names first row.FloatBox selector n }
  float_box_set-in v selector (Some (atom.Number z)) k n h = record { kept = h.1; said = silence names first }
  float_box_set-in v selector (Some a) k n h = record { kept = k; said = deafness names first row.FloatBox selector n }

  float_box_other-in : (v : ℤ) (selector : ℕ) (atoms : List Atom) → IsNumber v → IsMessage names selector atoms → IsHeard names limit (float_box_other names v selector atoms)
  float_box_other-in v selector atoms k m =
      either (IsHeard names limit) (is_called names selector (codes "set")) _ _
      (float_box_set-in v selector (slice_get atoms 0) k m.known (all-at (IsAtom names) atoms 0 m.list.all))
      (record { kept = k; said = deafness names first row.FloatBox selector m.known })

  float_box_hot-in : (o : Option ℕ) (v : ℤ) (selector : ℕ) (atoms : List Atom) (s : Sort) → IfSome o (IsName names) → IsNumber v → IsMessage names selector atoms → IsSort names first s
      → IsHeard names limit (float_box_hot names o v selector atoms s)
  float_box_hot-in o v selector atoms (sort.Float z) w k m h = record { kept = h; said = shown-in o 1 (atom.Number z ∷ []) w (number_message z h) }
  float_box_hot-in o v selector atoms sort.Bang w k m h = record { kept = k; said = shown-in o 1 (atom.Number v ∷ []) w (number_message v k) }
  float_box_hot-in o v selector atoms sort.Other w k m h = float_box_other-in v selector atoms k m
  float_box_hot-in o v selector atoms s w k m h = record { kept = k; said = deaf_told names first row.FloatBox s selector m.known }

  pub float_box_in : (o : Option ℕ) (v : ℤ) (selector : ℕ) (atoms : List Atom) → IfSome o (IsName names) → IsNumber v → IsMessage names selector atoms → IsHeard names limit (float_box_row names o v selector atoms)
  float_box_in o v selector atoms w k m =
      float_box_hot-in o v selector atoms (first_sort (sort_of selector atoms) atoms) w k m (first_in names first (sort_of selector atoms) atoms (sort_in names first selector atoms m.list.all) m.list.all)

  symbol_box_set-in : (v selector : ℕ) (o : Option Atom) → IsName names v → IsName names selector → IfSome o (IsAtom names) → IsHeard names limit (symbol_box_set v selector o)
  symbol_box_set-in v selector None k n h = record { kept = k; said = deafness names first row.SymbolBox selector n }
  symbol_box_set-in v selector (Some (atom.Symbol s)) k n h = record { kept = h.0; said = silence names first }
  symbol_box_set-in v selector (Some a) k n h = record { kept = k; said = deafness names first row.SymbolBox selector n }

  symbol_box_other-in : (v selector : ℕ) (atoms : List Atom) → IsName names v → IsMessage names selector atoms → IsHeard names limit (symbol_box_other names v selector atoms)
  symbol_box_other-in v selector atoms k m =
      either (IsHeard names limit) (is_called names selector (codes "set")) _ _
      (symbol_box_set-in v selector (slice_get atoms 0) k m.known (all-at (IsAtom names) atoms 0 m.list.all))
      (record { kept = k; said = deafness names first row.SymbolBox selector m.known })

  symbol_box_hot-in : (o : Option ℕ) (v selector : ℕ) (atoms : List Atom) (s : Sort) → IfSome o (IsName names) → IsName names v → IsMessage names selector atoms → IsSort names first s
      → IsHeard names limit (symbol_box_hot names o v selector atoms s)
  symbol_box_hot-in o v selector atoms (sort.Symbol s) w k m h = record { kept = h; said = shown-in o 2 (atom.Symbol s ∷ []) w (symbol_message s h) }
  symbol_box_hot-in o v selector atoms sort.Bang w k m h = record { kept = k; said = shown-in o 2 (atom.Symbol v ∷ []) w (symbol_message v k) }
  symbol_box_hot-in o v selector atoms sort.Other w k m h = symbol_box_other-in v selector atoms k m
  symbol_box_hot-in o v selector atoms s w k m h = record { kept = k; said = deaf_told names first row.SymbolBox s selector m.known }

  pub symbol_box_in : (o : Option ℕ) (v selector : ℕ) (atoms : List Atom) → IfSome o (IsName names) → IsName names v → IsMessage names selector atoms → IsHeard names limit (symbol_box_row names o v selector atoms)
  symbol_box_in o v selector atoms w k m =
      symbol_box_hot-in o v selector atoms (first_sort (sort_of selector atoms) atoms) w k m (first_in names first (sort_of selector atoms) atoms (sort_in names first selector atoms m.list.all) m.list.all)

  send_cold-in : (o : Option ℕ) (selector : ℕ) (s : Sort) → IfSome o (IsName names) → IsName names selector → IsSort names first s → IsHeard names limit (send_cold o selector s)
  send_cold-in o selector (sort.Symbol s) w n h = record { kept = h; said = silence names first }
  send_cold-in o selector s w n h = record { kept = w; said = deafness names first row.Send selector n }

  pub send_in : (o : Option ℕ) (inlet selector : ℕ) (atoms : List Atom) → IfSome o (IsName names) → IsMessage names selector atoms → IsHeard names limit (send_row o inlet selector atoms)
  send_in o inlet selector atoms w m =
      either (IsHeard names limit) (inlet == 0) _ _
      (record { kept = w; said = only names first (to_name o selector atoms) (to_name-in o selector atoms w m) })
      (send_cold-in o selector (sort_of selector atoms) w m.known (sort_in names first selector atoms m.list.all))
