-- Sorts of messages, sends and what is said, in order.
use Rattle.std.proofs.Common.{ℕ, ℤ, pos, zero, suc, ◌≤◌, List, [], ◌∷◌, length, slice_get, Option, Some, None, IfSome, arith, rules, nat_lt}
use Rattle.std.proofs.lemmas.List.{length-take}
use Rattle.std.specs.List.{AllByRecursion}
use Rattle.pd_atom.specs.Names.{Names}
use Rattle.pd_atom.specs.declared.Atom.{Atom}
use Rattle.pd_atom.specs.declared.Atom.TheVariants as atom
use Rattle.pd_object.specs.declared.row_names.Row.{Row}
use Rattle.pd_kind.specs.declared.messages.Sort.{Sort}
use Rattle.pd_kind.specs.declared.messages.Sort.TheVariants as sort
use Rattle.pd_kind.specs.declared.messages.Target.{Target}
use Rattle.pd_kind.specs.declared.messages.Target.TheVariants as target
use Rattle.pd_kind.specs.declared.messages.Notice.TheVariants.{MessageCut}
use Rattle.pd_kind.specs.declared.states.State.{State}
use Rattle.pd_kind.specs.Messages.{float_sort, symbol_sort, sort_of}
use Rattle.pd_naming.specs.Naming.{number_or}
use Rattle.pd_kind.specs.Hearing.{sort_of_atom, first_sort, told, stored}
use Rattle.pd_kind.specs.Rows.{Send}
use Rattle.pd_kind.specs.Said.{silent, sends_only, send_to, bang_to, number_to, symbol_to, deaf}
use Rattle.pd_kind.specs.Forming.{float_in, symbol_of, list_selector, list_send, normal_send, message_send, send_of_message, cut_atoms, cut_notices, atoms_with_selector}
use Rattle.pd_guards.specs.Order.{IsNumber, HasFirst, IsName, IsAtom, AreAtoms, IsList, IsMessage, IsKept, IsTarget, IsSend, IsNotice, IsSaid, IsHeard}
use Rattle.pd_guards.proofs.FactLemmas.{all-take, all-at, either}

pub no_number : IsNumber (pos 0)
no_number = (search rules, search rules)

module _ (names : Names) (first : HasFirst names) where
  abbrev pub IsSort : Sort → Type 0
  IsSort (sort.Float z) = IsNumber z
  IsSort (sort.Symbol s) = IsName names s
  IsSort s = Unit {0}

  float_sort-in : (atoms : List Atom) → AreAtoms names atoms → IsSort (float_sort atoms)
  float_sort-in [] h = tt
  float_sort-in (atom.Number z ∷ atoms) h = h.0.1
  float_sort-in (a ∷ atoms) h = tt

  symbol_sort-in : (atoms : List Atom) → AreAtoms names atoms → IsSort (symbol_sort atoms)
  symbol_sort-in [] h = tt
  symbol_sort-in (atom.Symbol s ∷ atoms) h = h.0.0
  symbol_sort-in (a ∷ atoms) h = tt

  pub sort_in : (selector : ℕ) (atoms : List Atom) → AreAtoms names atoms → IsSort (sort_of selector atoms)
  sort_in zero atoms h = tt
  sort_in (suc zero) atoms h = float_sort-in atoms h
  sort_in (suc (suc zero)) atoms h = symbol_sort-in atoms h
  sort_in (suc (suc (suc zero))) atoms h = tt
  sort_in (suc (suc (suc (suc n)))) atoms h = tt

  sort_of_atom-in : (o : Option Atom) → IfSome o (IsAtom names) → IsSort (sort_of_atom o)
  sort_of_atom-in None h = tt
  sort_of_atom-in (Some (atom.Number z)) h = h.1
  sort_of_atom-in (Some (atom.Symbol s)) h = h.0
  sort_of_atom-in (Some a) h = tt

  pub first_in : (s : Sort) (atoms : List Atom) → IsSort s → AreAtoms names atoms → IsSort (first_sort s atoms)
  first_in sort.List atoms k h = sort_of_atom-in (slice_get atoms 0) (all-at (IsAtom names) atoms 0 h)
  first_in s atoms k h = k

  number_or-in : (o : Option Atom) (z : ℤ) → IfSome o (IsAtom names) → IsNumber z → IsNumber (number_or z o)
  number_or-in None z h k = k
  number_or-in (Some (atom.Number y)) z h k = h.1
  number_or-in (Some a) z h k = k

  pub stored_in : (s : Sort) (atoms : List Atom) (i : ℕ) (z : ℤ) → AreAtoms names atoms → IsNumber z → IsNumber (stored s atoms i z)
  stored_in sort.List atoms i z h k = number_or-in (slice_get atoms i) z (all-at (IsAtom names) atoms i h) k
  stored_in s atoms i z h k = k

  -- lists
  pub nothing : IsList names []
  nothing = record { few = search rules; all = tt }

  pub one : (a : Atom) → IsAtom names a → IsList names (a ∷ [])
  one a h = record { few = search rules; all = (h, tt) }

  pub list_tail : (a : Atom) (atoms : List Atom) → IsList names (a ∷ atoms) → IsList names atoms
  list_tail a atoms h = record { few = let l : length (a ∷ atoms) ≤ 1024 = h.few in omega arith; all = h.all.1 }

  pub cut_in : (atoms : List Atom) → AreAtoms names atoms → IsList names (cut_atoms atoms)
  cut_in atoms h = record { few = omega (arith, length-take 1024 atoms); all = all-take (IsAtom names) 1024 atoms h }

  -- sends
  pub sent : (t : Target) (selector : ℕ) (atoms : List Atom) → IsTarget names t → IsName names selector → IsList names atoms → IsSend names (send_of_message t selector atoms)
  sent t selector atoms h n l = record { target = h; message = record { known = n; list = l } }

  pub passed_on : (i selector : ℕ) (atoms : List Atom) → IsMessage names selector atoms → IsSend names (send_to i selector atoms)
  passed_on i selector atoms m = record { target = tt; message = m }

  pub bang_sent : (t : Target) → IsTarget names t → IsSend names (send_of_message t 0 [])
  bang_sent t h = sent t 0 [] h (omega (arith, first)) nothing

  pub number_sent : (t : Target) (z : ℤ) → IsTarget names t → IsNumber z → IsSend names (send_of_message t 1 (atom.Number z ∷ []))
  number_sent t z h k = sent t 1 (atom.Number z ∷ []) h (omega (arith, first)) (one (atom.Number z) (tt, k))

  pub symbol_sent : (t : Target) (s : ℕ) → IsTarget names t → IsName names s → IsSend names (send_of_message t 2 (atom.Symbol s ∷ []))
  symbol_sent t s h k = sent t 2 (atom.Symbol s ∷ []) h (omega (arith, first)) (one (atom.Symbol s) (k, tt))

  -- what is said
  pub silence : IsSaid names silent
  silence = record { sends = tt; deed = tt; notices = tt }

  pub only : (sends : List Send) → AllByRecursion (IsSend names) sends → IsSaid names (sends_only sends)
  only sends h = record { sends = h; deed = tt; notices = tt }

  pub bang_said : (i : ℕ) → IsSaid names (sends_only (bang_to i ∷ []))
  bang_said i = only (bang_to i ∷ []) (bang_sent (target.Outlet i) tt, tt)

  pub number_said : (i : ℕ) (z : ℤ) → IsNumber z → IsSaid names (sends_only (number_to i z ∷ []))
  number_said i z h = only (number_to i z ∷ []) (number_sent (target.Outlet i) z tt h, tt)

  pub symbol_said : (i s : ℕ) → IsName names s → IsSaid names (sends_only (symbol_to i s ∷ []))
  symbol_said i s h = only (symbol_to i s ∷ []) (symbol_sent (target.Outlet i) s tt h, tt)

  pub passed_said : (i selector : ℕ) (atoms : List Atom) → IsMessage names selector atoms → IsSaid names (sends_only (send_to i selector atoms ∷ []))
  passed_said i selector atoms m = only (send_to i selector atoms ∷ []) (passed_on i selector atoms m, tt)

  pub deafness : (r : Row) (selector : ℕ) → IsName names selector → IsSaid names (deaf r selector)
  deafness r selector h = record { sends = tt; deed = tt; notices = (h, tt) }

  pub told_in : (s : Sort) (selector : ℕ) → IsName names selector → IsName names (told s selector)
  told_in (sort.Float z) selector h = omega (arith, first)
  told_in (sort.Symbol s) selector h = omega (arith, first)
  told_in s selector h = h

  pub deaf_told : (r : Row) (s : Sort) (selector : ℕ) → IsName names selector → IsSaid names (deaf r (told s selector))
  deaf_told r s selector h = deafness r (told s selector) (told_in s selector h)

  pub quietly : (limit : ℕ) (s : State) → IsKept names limit s → IsHeard names limit (record { state = s; said = silent })
  quietly limit s h = record { kept = h; said = silence }

  -- messages in their normal form
  float_in-in : (atoms : List Atom) → AreAtoms names atoms → IsNumber (float_in atoms)
  float_in-in [] h = no_number
  float_in-in (atom.Number z ∷ atoms) h = h.0.1
  float_in-in (a ∷ atoms) h = no_number

  pub symbol_of-in : (atoms : List Atom) → AreAtoms names atoms → IsName names (symbol_of atoms)
  symbol_of-in [] h = omega (arith, first)
  symbol_of-in (atom.Symbol s ∷ atoms) h = h.0.0
  symbol_of-in (a ∷ atoms) h = omega (arith, first)

  pub list_selector-in : (atoms : List Atom) → IsName names (list_selector atoms)
  list_selector-in [] = omega (arith, first)
  list_selector-in (atom.Number z ∷ []) = omega (arith, first)
  list_selector-in (atom.Symbol s ∷ []) = omega (arith, first)
  list_selector-in (a ∷ atoms) = omega (arith, first)

  pub float_of : (atoms : List Atom) → AreAtoms names atoms → IsNumber (float_in atoms)
  float_of atoms h = float_in-in atoms h

  pub list_sent : (t : Target) (atoms : List Atom) → IsTarget names t → IsList names atoms → IsSend names (list_send t atoms)
  list_sent t atoms h l = sent t (list_selector atoms) atoms h (list_selector-in atoms) l

  pub normal_sent : (t : Target) (selector : ℕ) (atoms : List Atom) → IsTarget names t → IsMessage names selector atoms → IsSend names (normal_send t selector atoms)
  normal_sent t zero atoms h m = bang_sent t h
  normal_sent t (suc zero) atoms h m = number_sent t (float_in atoms) h (float_in-in atoms m.list.all)
  normal_sent t (suc (suc zero)) atoms h m = symbol_sent t (symbol_of atoms) h (symbol_of-in atoms m.list.all)
  normal_sent t (suc (suc (suc zero))) atoms h m = list_sent t atoms h m.list
  normal_sent t (suc (suc (suc (suc n)))) atoms h m = sent t (suc (suc (suc (suc n)))) atoms h m.known m.list

  pub message_sent : (t : Target) (atoms : List Atom) → IsTarget names t → IsList names atoms → IsSend names (message_send t atoms)
  message_sent t [] h l = bang_sent t h
  message_sent t (atom.Symbol s ∷ atoms) h l = normal_sent t s atoms h (record { known = l.all.0.0; list = list_tail (atom.Symbol s) atoms l })
  message_sent t (a ∷ atoms) h l = list_sent t (a ∷ atoms) h l

  -- a message as a list, its selector before its atoms
  pub with_selector : (selector : ℕ) (atoms : List Atom) → IsMessage names selector atoms → AreAtoms names (atoms_with_selector selector atoms)
  with_selector zero atoms m = m.list.all
  with_selector (suc zero) atoms m = m.list.all
  with_selector (suc (suc zero)) atoms m = m.list.all
  with_selector (suc (suc (suc zero))) atoms m = m.list.all
  with_selector (suc (suc (suc (suc n)))) atoms m = ((m.known, tt), m.list.all)

  pub marked_sent : (t : Target) (selector : ℕ) (atoms : List Atom) → IsTarget names t → IsMessage names selector atoms → IsSend names (message_send t (atoms_with_selector selector atoms))
  marked_sent t zero atoms h m = message_sent t atoms h m.list
  marked_sent t (suc zero) atoms h m = message_sent t atoms h m.list
  marked_sent t (suc (suc zero)) atoms h m = message_sent t atoms h m.list
  marked_sent t (suc (suc (suc zero))) atoms h m = message_sent t atoms h m.list
  marked_sent t (suc (suc (suc (suc n)))) atoms h m = normal_sent t (suc (suc (suc (suc n)))) atoms h m

  pub cut_said : (atoms : List Atom) → AllByRecursion (IsNotice names) (cut_notices atoms)
  cut_said atoms = either (AllByRecursion (IsNotice names)) (nat_lt 1024 (length atoms)) (MessageCut ∷ []) [] (tt, tt) tt
