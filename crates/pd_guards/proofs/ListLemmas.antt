-- The objects that work with messages as a whole keep and say what is in order.
use Rattle.std.proofs.Common.{ℕ, ℤ, pos, zero, suc, ◌*◌, ◌+◌, ◌≤◌, ◌==◌, nat_le, List, [], ◌∷◌, ◌++◌, length, take, drop, Option, Some, None, arith, length-take, length-drop}
use Rattle.std.proofs.Math.ListN.{length-set}
use Rattle.std.specs.List.{AllByRecursion}
use Rattle.pd_atom.specs.Names.{Names}
use Rattle.pd_atom.specs.declared.Atom.{Atom}
use Rattle.pd_atom.specs.declared.Atom.TheVariants as atom
use Rattle.pd_object.specs.declared.kinds.Glue.{Glue}
use Rattle.pd_object.specs.declared.kinds.Glue.TheVariants as glue
use Rattle.pd_object.specs.declared.kinds.Slot.{Slot}
use Rattle.pd_object.specs.declared.kinds.Slot.TheVariants as slot
use Rattle.pd_object.specs.declared.kinds.Trigger.{Trigger}
use Rattle.pd_object.specs.declared.kinds.Trigger.TheVariants as trigger
use Rattle.pd_kind.specs.declared.messages.Sort.{Sort}
use Rattle.pd_kind.specs.declared.messages.Sort.TheVariants as sort
use Rattle.pd_kind.specs.declared.messages.Target.TheVariants as target
use Rattle.pd_object.specs.declared.row_names.Row.{Row}
use Rattle.pd_object.specs.declared.row_names.Row.TheVariants as row
use Rattle.pd_kind.specs.declared.states.State.{State}
use Rattle.pd_kind.specs.declared.states.State.TheVariants as state
use Rattle.pd_kind.specs.Forming.{float_in, list_send, message_send, cut_atoms, atoms_with_selector}
use Rattle.pd_kind.specs.Messages.{sort_of}
use Rattle.pd_kind.specs.Rows.{Send}
use Rattle.pd_kind.specs.Said.{deaf, number_to, symbol_to, send_to}
use Rattle.pd_kind.specs.States.{units_of}
use Rattle.pd_list.specs.Outlets.{is_plain, symbol_for, outlet_sends, trigger_sends}
use Rattle.pd_list.specs.Slots.{fits_at, stored_at, filled, packed, pack_refuses, pack_first, pack_hot, pack_other, pack_cold, pack_row, slot_sends, unpacked}
use Rattle.pd_list.specs.Choices.{Chosen, place_of, choice_cold, unchosen, selected, select_hot, routed_rest, route_by_number, route_numbers, routed_message, route_hot, route_row, select_row}
use Rattle.pd_list.specs.Lists.{Stored, said_of_list, list_said, list_stored, append_row, prepend_row, split_sends, split_cold, split_row, length_row}
use Rattle.pd_list.specs.Rows.{list_row}
use Rattle.pd_guards.specs.Order.{HasFirst, IsName, IsAtom, AreAtoms, IsList, IsMessage, IsKept, IsConstant, HasWords, IsSend, IsSaid, IsHeard}
use Rattle.pd_guards.proofs.FactLemmas.{either, all-append, all-take, all-drop, all-set}
use Rattle.pd_guards.proofs.NumberLemmas.{near_pos}
use Rattle.pd_guards.proofs.BaseLemmas.{IsSort, sort_in, list_tail, cut_in, passed_on, bang_sent, number_sent, symbol_sent, list_sent, message_sent, marked_sent, with_selector, float_of, silence, quietly, only, bang_said, number_said, passed_said, deafness, cut_said}

-- arguments in order, and what is said
record IsChosen (names : Names) (c : Chosen) : Type 0 where
  arguments : IsList names c.arguments
  said : IsSaid names c.said

record IsStored (names : Names) (s : Stored) : Type 0 where
  atoms : IsList names s.atoms
  said : IsSaid names s.said

module _ (names : Names) (first : HasFirst names) (limit : ℕ) where
  -- `trigger`
  symbol_for-in : (atoms : List Atom) → AreAtoms names atoms → IsName names (symbol_for atoms)
  symbol_for-in [] h = omega (arith, first)
  symbol_for-in (atom.Symbol s ∷ atoms) h = h.0.0
  symbol_for-in (atom.Number z ∷ atoms) h = omega (arith, first)
  symbol_for-in (a ∷ atoms) h = omega (arith, first)

  outlet_in : (t : Trigger) (i selector : ℕ) (atoms : List Atom) → IsConstant t → IsMessage names selector atoms → AllByRecursion (IsSend names) (outlet_sends t i selector atoms)
  outlet_in trigger.Bang i selector atoms c m = (bang_sent names first (target.Outlet i) tt, tt)
  outlet_in trigger.Float i selector atoms c m =
      either (AllByRecursion (IsSend names)) (is_plain selector) (number_to i (float_in atoms) ∷ []) [] (number_sent names first (target.Outlet i) (float_in atoms) tt (float_of names first atoms m.list.all), tt) tt
  outlet_in trigger.Symbol i selector atoms c m =
      either (AllByRecursion (IsSend names)) (is_plain selector) (symbol_to i (symbol_for atoms) ∷ []) [] (symbol_sent names first (target.Outlet i) (symbol_for atoms) tt (symbol_for-in atoms m.list.all), tt) tt
  outlet_in trigger.List i selector atoms c m = either (AllByRecursion (IsSend names)) (is_plain selector) (send_to i selector atoms ∷ []) [] (passed_on names first i selector atoms m, tt) tt
  outlet_in trigger.Anything i selector atoms c m = (passed_on names first i selector atoms m, tt)
  outlet_in (trigger.Constant z) i selector atoms c m = (number_sent names first (target.Outlet i) z tt c, tt)

  triggers_in : (i : ℕ) (outlets : List Trigger) (selector : ℕ) (atoms : List Atom) → AllByRecursion IsConstant outlets → IsMessage names selector atoms → AllByRecursion (IsSend names) (trigger_sends i outlets selector atoms)
  triggers_in i [] selector atoms c m = tt
  triggers_in i (t ∷ outlets) selector atoms c m =
      all-append (IsSend names) (trigger_sends (suc i) outlets selector atoms) (outlet_sends t i selector atoms) (triggers_in (suc i) outlets selector atoms c.1 m) (outlet_in t i selector atoms c.0 m)

  -- `pack` and `unpack`
  slot_in : (slots : List Slot) (i : ℕ) (a : Atom) (kept : List Atom) → IsAtom names a → IsList names kept → IsList names (stored_at slots i a kept)
  slot_in slots i a kept h k =
      either (IsList names) (fits_at slots i a) _ kept
      (record { few = let l : length kept ≤ 1024 = k.few in omega (arith, length-set kept i a); all = all-set (IsAtom names) kept i a h k.all }) k

  filled_in : (slots : List Slot) (i : ℕ) (atoms kept : List Atom) → AreAtoms names atoms → IsList names kept → IsList names (filled slots i atoms kept)
  filled_in slots i [] kept h k = k
  filled_in slots i (a ∷ atoms) kept h k = filled_in slots (suc i) atoms (stored_at slots i a kept) h.1 (slot_in slots i a kept h.0 k)

  packed_in : (kept : List Atom) → IsList names kept → IsHeard names limit (packed kept)
  packed_in kept k = record { kept = k; said = only names first (list_send (target.Outlet 0) kept ∷ []) (list_sent names first (target.Outlet 0) kept tt k, tt) }

  pack_refuses-in : (kept : List Atom) (selector : ℕ) → IsList names kept → IsName names selector → IsHeard names limit (pack_refuses kept selector)
  pack_refuses-in kept selector k n = record { kept = k; said = deafness names first row.Pack selector n }

  pack_first-in : (slots : List Slot) (kept : List Atom) (selector : ℕ) (a : Atom) → IsList names kept → IsName names selector → IsAtom names a → IsHeard names limit (pack_first slots kept selector a)
  pack_first-in slots kept selector a k n h = either (IsHeard names limit) (fits_at slots 0 a) _ _ (packed_in (stored_at slots 0 a kept) (slot_in slots 0 a kept h k)) (pack_refuses-in kept selector k n)

  pack_hot-in : (slots : List Slot) (kept : List Atom) (selector : ℕ) (atoms : List Atom) (s : Sort) → IsList names kept → IsMessage names selector atoms → IsSort names first s → IsHeard names limit (pack_hot slots kept selector atoms s)
  pack_hot-in slots kept selector atoms sort.Bang k m h = packed_in kept k
  pack_hot-in slots kept selector atoms (sort.Float z) k m h = pack_first-in slots kept selector (atom.Number z) k m.known (tt, h)
  pack_hot-in slots kept selector atoms (sort.Symbol s) k m h = pack_first-in slots kept selector (atom.Symbol s) k m.known (h, tt)
  pack_hot-in slots kept selector atoms sort.List k m h = packed_in (filled slots 0 atoms kept) (filled_in slots 0 atoms kept m.list.all k)
  pack_hot-in slots kept selector atoms sort.Other k m h = pack_refuses-in kept selector k m.known

  pack_other-in : (slots : List Slot) (kept : List Atom) (inlet selector : ℕ) (a : Atom) → IsList names kept → IsName names selector → IsAtom names a → IsHeard names limit (pack_other slots kept inlet selector a)
  pack_other-in slots kept inlet selector a k n h =
      either (IsHeard names limit) (fits_at slots inlet a) _ _ (record { kept = slot_in slots inlet a kept h k; said = silence names first }) (pack_refuses-in kept selector k n)

  pack_cold-in : (slots : List Slot) (kept : List Atom) (inlet selector : ℕ) (s : Sort) → IsList names kept → IsName names selector → IsSort names first s → IsHeard names limit (pack_cold slots kept inlet selector s)
  pack_cold-in slots kept inlet selector (sort.Float z) k n h = pack_other-in slots kept inlet selector (atom.Number z) k n (tt, h)
  pack_cold-in slots kept inlet selector (sort.Symbol s) k n h = pack_other-in slots kept inlet selector (atom.Symbol s) k n (h, tt)
  pack_cold-in slots kept inlet selector s k n h = pack_refuses-in kept selector k n

  pack_in : (slots : List Slot) (kept : List Atom) (inlet selector : ℕ) (atoms : List Atom) → IsList names kept → IsMessage names selector atoms → IsHeard names limit (pack_row slots kept inlet selector atoms)
  pack_in slots kept inlet selector atoms k m =
      let h : IsSort names first (sort_of selector atoms) = sort_in names first selector atoms m.list.all in
      either (IsHeard names limit) (inlet == 0) _ _ (pack_hot-in slots kept selector atoms (sort_of selector atoms) k m h) (pack_cold-in slots kept inlet selector (sort_of selector atoms) k m.known h)

  slot_said : (i : ℕ) (s : Slot) (a : Atom) → IsAtom names a → AllByRecursion (IsSend names) (slot_sends i s a)
  slot_said i (slot.Number z) (atom.Number y) h = (number_sent names first (target.Outlet i) y tt h.1, tt)
  slot_said i slot.Symbol (atom.Symbol s) h = (symbol_sent names first (target.Outlet i) s tt h.0, tt)
  slot_said i s a h = tt

  unpacked_in : (i : ℕ) (slots : List Slot) (atoms : List Atom) → AreAtoms names atoms → AllByRecursion (IsSend names) (unpacked i slots atoms)
  unpacked_in i [] atoms h = tt
  unpacked_in i (s ∷ slots) [] h = tt
  unpacked_in i (s ∷ slots) (a ∷ atoms) h = all-append (IsSend names) (unpacked (suc i) slots atoms) (slot_sends i s a) (unpacked_in (suc i) slots atoms h.1) (slot_said i s a h.0)

  -- `route` and `select`
  refused : (r : Row) (args : List Atom) (selector : ℕ) → IsList names args → IsName names selector → IsChosen names (record { arguments = args; said = deaf r selector })
  refused r args selector k n = record { arguments = k; said = deafness names first r selector n }

  replaced : (a b : Atom) (args : List Atom) → IsAtom names a → IsList names (b ∷ args) → IsList names (a ∷ args)
  replaced a b args h k = record { few = let l : length (b ∷ args) ≤ 1024 = k.few in omega arith; all = (h, k.all.1) }

  cold_in : (r : Row) (args : List Atom) (selector : ℕ) (s : Sort) → IsList names args → IsName names selector → IsSort names first s → IsChosen names (choice_cold r args selector s)
  cold_in r (atom.Number y ∷ args) selector (sort.Float z) k n h = record { arguments = replaced (atom.Number z) (atom.Number y) args (tt, h) k; said = silence names first }
  cold_in r (atom.Symbol t ∷ args) selector (sort.Symbol s) k n h = record { arguments = replaced (atom.Symbol s) (atom.Symbol t) args (h, tt) k; said = silence names first }
  cold_in r args selector s k n h = refused r args selector k n

  unchosen-in : (args : List Atom) (selector : ℕ) (atoms : List Atom) → IsMessage names selector atoms → IsSaid names (unchosen args selector atoms)
  unchosen-in args selector atoms m = passed_said names first (length args) selector atoms m

  selected_in : (o : Option ℕ) (args : List Atom) (selector : ℕ) (atoms : List Atom) → IsMessage names selector atoms → IsSaid names (selected o args selector atoms)
  selected_in (Some i) args selector atoms m = bang_said names first i
  selected_in None args selector atoms m = unchosen-in args selector atoms m

  select_hot-in : (args : List Atom) (selector : ℕ) (atoms : List Atom) (s : Sort) → IsMessage names selector atoms → IsSaid names (select_hot args selector atoms s)
  select_hot-in args selector atoms (sort.Float z) m = selected_in (place_of (atom.Number z) args) args selector atoms m
  select_hot-in args selector atoms (sort.Symbol s) m = selected_in (place_of (atom.Symbol s) args) args selector atoms m
  select_hot-in args selector atoms s m = unchosen-in args selector atoms m

  routed_rest-in : (o : Option ℕ) (args : List Atom) (selector : ℕ) (atoms rest : List Atom) → IsMessage names selector atoms → IsList names rest → IsSaid names (routed_rest o args selector atoms rest)
  routed_rest-in (Some i) args selector atoms rest m l = only names first (message_send (target.Outlet i) rest ∷ []) (message_sent names first (target.Outlet i) rest tt l, tt)
  routed_rest-in None args selector atoms rest m l = unchosen-in args selector atoms m

  by_number-in : (args : List Atom) (selector : ℕ) (atoms : List Atom) → IsMessage names selector atoms → IsSaid names (route_by_number args selector atoms)
  by_number-in args selector [] m = unchosen-in args selector [] m
  by_number-in args selector (atom.Number z ∷ rest) m = routed_rest-in (place_of (atom.Number z) args) args selector (atom.Number z ∷ rest) rest m (list_tail names first (atom.Number z) rest m.list)
  by_number-in args selector (a ∷ rest) m = unchosen-in args selector (a ∷ rest) m

  numbers_in : (args : List Atom) (selector : ℕ) (atoms : List Atom) (s : Sort) → IsMessage names selector atoms → IsSaid names (route_numbers args selector atoms s)
  numbers_in args selector atoms (sort.Float z) m = by_number-in args selector atoms m
  numbers_in args selector atoms sort.List m = by_number-in args selector atoms m
  numbers_in args selector atoms s m = unchosen-in args selector atoms m

  routed_in : (o : Option ℕ) (args : List Atom) (selector : ℕ) (atoms : List Atom) → IsMessage names selector atoms → IsSaid names (routed_message o args selector atoms)
  routed_in (Some i) args selector atoms m =
      either (IsSaid names) (is_plain selector) _ _ (passed_said names first i selector atoms m)
      (only names first (message_send (target.Outlet i) atoms ∷ []) (message_sent names first (target.Outlet i) atoms tt m.list, tt))
  routed_in None args selector atoms m = unchosen-in args selector atoms m

  route_hot-in : (args : List Atom) (selector : ℕ) (atoms : List Atom) → IsMessage names selector atoms → IsSaid names (route_hot args selector atoms)
  route_hot-in [] selector atoms m = routed_in (place_of (atom.Symbol selector) []) [] selector atoms m
  route_hot-in (atom.Number z ∷ args) selector atoms m = numbers_in (atom.Number z ∷ args) selector atoms (sort_of selector atoms) m
  route_hot-in (a ∷ args) selector atoms m = routed_in (place_of (atom.Symbol selector) (a ∷ args)) (a ∷ args) selector atoms m

  route_in : (args : List Atom) (inlet selector : ℕ) (atoms : List Atom) → IsList names args → IsMessage names selector atoms → IsChosen names (route_row args inlet selector atoms)
  route_in args inlet selector atoms k m =
      either (IsChosen names) (inlet == 0) _ _ (record { arguments = k; said = route_hot-in args selector atoms m }) (cold_in row.Route args selector (sort_of selector atoms) k m.known (sort_in names first selector atoms m.list.all))

  select_in : (args : List Atom) (inlet selector : ℕ) (atoms : List Atom) → IsList names args → IsMessage names selector atoms → IsChosen names (select_row args inlet selector atoms)
  select_in args inlet selector atoms k m =
      either (IsChosen names) (inlet == 0) _ _ (record { arguments = k; said = select_hot-in args selector atoms (sort_of selector atoms) m }) (cold_in row.Select args selector (sort_of selector atoms) k m.known (sort_in names first selector atoms m.list.all))

  -- lists
  of_list : (sends : List Send) (atoms : List Atom) → AllByRecursion (IsSend names) sends → IsSaid names (said_of_list sends atoms)
  of_list sends atoms h = record { sends = h; deed = tt; notices = cut_said names first atoms }

  list_said-in : (atoms : List Atom) → AreAtoms names atoms → IsSaid names (list_said atoms)
  list_said-in atoms h = of_list (list_send (target.Outlet 0) (cut_atoms atoms) ∷ []) atoms (list_sent names first (target.Outlet 0) (cut_atoms atoms) tt (cut_in names first atoms h), tt)

  stored_in : (list : List Atom) → AreAtoms names list → IsStored names (list_stored list)
  stored_in list h = record { atoms = cut_in names first list h; said = of_list [] list tt }

  append_in : (stored : List Atom) (inlet : ℕ) (list : List Atom) → IsList names stored → AreAtoms names list → IsStored names (append_row stored inlet list)
  append_in stored inlet list k h =
      either (IsStored names) (inlet == 0) _ _ (record { atoms = k; said = list_said-in (list ++ stored) (all-append (IsAtom names) list stored h k.all) }) (stored_in list h)

  prepend_in : (stored : List Atom) (inlet : ℕ) (list : List Atom) → IsList names stored → AreAtoms names list → IsStored names (prepend_row stored inlet list)
  prepend_in stored inlet list k h =
      either (IsStored names) (inlet == 0) _ _ (record { atoms = k; said = list_said-in (stored ++ list) (all-append (IsAtom names) stored list k.all h) }) (stored_in list h)

  take_in : (n : ℕ) (list : List Atom) → IsList names list → IsList names (take n list)
  take_in n list k = record { few = let l : length list ≤ 1024 = k.few in omega (arith, length-take n list); all = all-take (IsAtom names) n list k.all }

  drop_in : (n : ℕ) (list : List Atom) → IsList names list → IsList names (drop n list)
  drop_in n list k = record { few = let l : length list ≤ 1024 = k.few in omega (arith, length-drop n list); all = all-drop (IsAtom names) n list k.all }

  split_sends-in : (n : ℕ) (list : List Atom) → IsList names list → AllByRecursion (IsSend names) (split_sends n list)
  split_sends-in n list k =
      either (AllByRecursion (IsSend names)) (nat_le n (length list)) (list_send (target.Outlet 1) (drop n list) ∷ list_send (target.Outlet 0) (take n list) ∷ []) (list_send (target.Outlet 2) list ∷ [])
      (list_sent names first (target.Outlet 1) (drop n list) tt (drop_in n list k), (list_sent names first (target.Outlet 0) (take n list) tt (take_in n list k), tt))
      (list_sent names first (target.Outlet 2) list tt k, tt)

  split_cold-in : (count : ℤ) (selector : ℕ) (s : Sort) → IsName names selector → IsHeard names limit (split_cold count selector s)
  split_cold-in count selector (sort.Float z) n = record { kept = tt; said = silence names first }
  split_cold-in count selector s n = record { kept = tt; said = deafness names first row.ListSplit selector n }

  split_in : (count : ℤ) (inlet selector : ℕ) (atoms : List Atom) → IsMessage names selector atoms → IsHeard names limit (split_row count inlet selector atoms)
  split_in count inlet selector atoms m =
      let list = atoms_with_selector selector atoms in
      either (IsHeard names limit) (inlet == 0) _ _
      (record { kept = tt; said = of_list (split_sends (units_of count) (cut_atoms list)) list (split_sends-in (units_of count) (cut_atoms list) (cut_in names first list (with_selector names first selector atoms m))) })
      (split_cold-in count selector (sort_of selector atoms) m.known)

  marked_length : (selector : ℕ) (atoms : List Atom) → length (atoms_with_selector selector atoms) ≤ length atoms + 1
  marked_length zero atoms = omega arith
  marked_length (suc zero) atoms = omega arith
  marked_length (suc (suc zero)) atoms = omega arith
  marked_length (suc (suc (suc zero))) atoms = omega arith
  marked_length (suc (suc (suc (suc n)))) atoms = omega arith

  length_in : (selector : ℕ) (atoms : List Atom) → IsMessage names selector atoms → IsSaid names (length_row (atoms_with_selector selector atoms))
  length_in selector atoms m =
      let l : length atoms ≤ 1024 = m.list.few in
      number_said names first 0 (pos (length (atoms_with_selector selector atoms) * 1000000)) (near_pos (length (atoms_with_selector selector atoms) * 1000000) (omega (arith, marked_length selector atoms)))

  pub list_in : (g : Glue) (s : State) (inlet selector : ℕ) (atoms : List Atom) → HasWords names g → IsKept names limit s → IsMessage names selector atoms → IsHeard names limit (list_row g s inlet selector atoms)
  unfolding list_row
  list_in (glue.Trigger w outlets) s inlet selector atoms c k m = record { kept = k; said = only names first (trigger_sends 0 outlets selector atoms) (triggers_in 0 outlets selector atoms c m) }
  list_in (glue.Pack slots) (state.Pack kept) inlet selector atoms c k m = pack_in slots kept inlet selector atoms k m
  list_in (glue.Unpack slots) s inlet selector atoms c k m =
      record { kept = k; said = only names first (unpacked 0 slots (atoms_with_selector selector atoms)) (unpacked_in 0 slots (atoms_with_selector selector atoms) (with_selector names first selector atoms m)) }
  list_in (glue.Route a) (state.Route args) inlet selector atoms c k m = let h = route_in args inlet selector atoms k m in record { kept = h.arguments; said = h.said }
  list_in (glue.Select w a) (state.Select args) inlet selector atoms c k m = let h = select_in args inlet selector atoms k m in record { kept = h.arguments; said = h.said }
  list_in (glue.ListAppend w a) (state.ListAppend stored) inlet selector atoms c k m =
      let h = append_in stored inlet (atoms_with_selector selector atoms) k (with_selector names first selector atoms m) in record { kept = h.atoms; said = h.said }
  list_in (glue.ListPrepend a) (state.ListPrepend stored) inlet selector atoms c k m =
      let h = prepend_in stored inlet (atoms_with_selector selector atoms) k (with_selector names first selector atoms m) in record { kept = h.atoms; said = h.said }
  list_in (glue.ListSplit z) (state.ListSplit count) inlet selector atoms c k m = split_in count inlet selector atoms m
  list_in glue.ListTrim s inlet selector atoms c k m =
      record { kept = k; said = only names first (message_send (target.Outlet 0) (atoms_with_selector selector atoms) ∷ []) (marked_sent names first (target.Outlet 0) selector atoms tt m, tt) }
  list_in glue.ListLength s inlet selector atoms c k m = record { kept = k; said = length_in selector atoms m }
  list_in g s inlet selector atoms c k m = quietly names first limit s k
