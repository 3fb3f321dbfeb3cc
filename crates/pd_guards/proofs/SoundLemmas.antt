-- The signal objects keep and say what is in order.
use Rattle.std.proofs.Common.{ℕ, ℤ, zero, suc, ◌==◌, List, [], ◌∷◌, drop, codes, bytes_eq, arith}
use Rattle.pd_num.specs.Scale.{number_of}
use Rattle.pd_atom.specs.Names.{Names, name_of}
use Rattle.pd_atom.specs.declared.Atom.{Atom}
use Rattle.pd_atom.specs.declared.Atom.TheVariants as atom
use Rattle.pd_kind.specs.declared.messages.Sort.{Sort}
use Rattle.pd_kind.specs.declared.messages.Sort.TheVariants as sort
use Rattle.pd_object.specs.declared.row_names.Row.TheVariants.{Sounding}
use Rattle.pd_object.specs.declared.row_names.SignalRow.{SignalRow}
use Rattle.pd_kind.specs.declared.states.State.{State}
use Rattle.pd_kind.specs.declared.states.State.TheVariants as state
use Rattle.pd_kind.specs.Hearing.{first_sort}
use Rattle.pd_kind.specs.Messages.{sort_of}
use Rattle.pd_held.specs.Stores.{stored_at, atom_stored, list_stored}
use Rattle.pd_held.specs.Rows.{spread, hears_numbers, bang_heard, other_heard, hot, cold, sounding_row}
use Rattle.pd_guards.specs.Order.{HasFirst, IsName, IsMessage, IsKept, IsSaid, IsHeard}
use Rattle.pd_guards.proofs.FactLemmas.{either}
use Rattle.pd_guards.proofs.NumberLemmas.{number_of_in}
use Rattle.pd_guards.proofs.BaseLemmas.{silence, number_said, deafness}

stored_in : (names : Names) (limit : ℕ) (s : State) (i : ℕ) (z : ℤ) → IsKept names limit s → IsKept names limit (stored_at s i z)
stored_in names limit (state.Sig v) zero z h = tt
stored_in names limit (state.Phasor held p rate) zero z h = tt
stored_in names limit (state.Phasor held p rate) (suc zero) z h = tt
stored_in names limit (state.Osc held p rate) zero z h = tt
stored_in names limit (state.Osc held p rate) (suc zero) z h = tt
stored_in names limit (state.SignalOperation left right) zero z h = tt
stored_in names limit (state.SignalOperation left right) (suc zero) z h = tt
stored_in names limit (state.SignalFunction held) zero z h = tt
stored_in names limit (state.SignalClip held low high) zero z h = tt
stored_in names limit (state.SignalClip held low high) (suc zero) z h = tt
stored_in names limit (state.SignalClip held low high) (suc (suc zero)) z h = tt
stored_in names limit (state.Line slope) zero z h = tt
stored_in names limit (state.Line slope) (suc zero) z h = tt
stored_in names limit (state.Samphold held control last kept) zero z h = tt
stored_in names limit (state.Samphold held control last kept) (suc zero) z h = tt
stored_in names limit (state.Lop held hz v rate) zero z h = tt
stored_in names limit (state.Lop held hz v rate) (suc zero) z h = tt
stored_in names limit (state.Hip held hz v rate) zero z h = tt
stored_in names limit (state.Hip held hz v rate) (suc zero) z h = tt
stored_in names limit (state.Delwrite held values next ran) zero z h = tt
stored_in names limit (state.Delread time rate) zero z h = tt
stored_in names limit (state.SignalSend held block) zero z h = tt
stored_in names limit (state.Throw held) zero z h = tt
stored_in names limit (state.Snapshot held last) zero z h = h
stored_in names limit (state.SignalTabread held) zero z h = tt
stored_in names limit (state.Dac held) i z h = tt
stored_in names limit (state.SignalInlet held) zero z h = tt
stored_in names limit (state.SignalOutlet held) zero z h = tt
stored_in names limit s i z h = h

atom_stored-in : (names : Names) (limit : ℕ) (s : State) (i : ℕ) (a : Atom) → IsKept names limit s → IsKept names limit (atom_stored s i a)
atom_stored-in names limit s i (atom.Number z) h = stored_in names limit s i z h
atom_stored-in names limit s i a h = h

list_stored-in : (names : Names) (limit : ℕ) (s : State) (i : ℕ) (atoms : List Atom) → IsKept names limit s → IsKept names limit (list_stored s i atoms)
list_stored-in names limit s i [] h = h
list_stored-in names limit s i (a ∷ atoms) h = list_stored-in names limit (atom_stored s i a) (suc i) atoms (atom_stored-in names limit s i a h)

spread_in : (names : Names) (limit : ℕ) (t : Sort) (s : State) (atoms : List Atom) → IsKept names limit s → IsKept names limit (spread t s atoms)
spread_in names limit sort.List s atoms h = list_stored-in names limit s 1 (drop 1 atoms) h
spread_in names limit t s atoms h = h

module _ (names : Names) (first : HasFirst names) (limit : ℕ) where
  bang_in : (r : SignalRow) (s : State) (selector : ℕ) → IsKept names limit s → IsName names selector → IsSaid names (bang_heard r s selector)
  bang_in r (state.Snapshot held last) selector h n = number_said names first 0 (number_of last) (number_of_in last h)
  bang_in r s selector h n = deafness names first (Sounding r) selector n

  other_in : (r : SignalRow) (s : State) (selector : ℕ) → IsKept names limit s → IsName names selector → IsHeard names limit (other_heard names r s selector)
  other_in r (state.Line slope) selector h n =
      either (IsHeard names limit) (bytes_eq (name_of names selector) (codes "stop")) _ _ (record { kept = tt; said = silence names first }) (record { kept = tt; said = deafness names first (Sounding r) selector n })
  other_in r s selector h n = record { kept = h; said = deafness names first (Sounding r) selector n }

  hot_in : (r : SignalRow) (s : State) (selector : ℕ) (t : Sort) → IsKept names limit s → IsName names selector → IsHeard names limit (hot names r s selector t)
  hot_in r s selector (sort.Float z) h n =
      either (IsHeard names limit) (hears_numbers r) _ _ (record { kept = stored_in names limit s 0 z h; said = silence names first }) (record { kept = h; said = deafness names first (Sounding r) 1 (omega (arith, first)) })
  hot_in r s selector sort.Bang h n = record { kept = h; said = bang_in r s selector h n }
  hot_in r s selector (sort.Symbol x) h n = record { kept = h; said = deafness names first (Sounding r) 2 (omega (arith, first)) }
  hot_in r s selector t h n = other_in r s selector h n

  cold_in : (r : SignalRow) (s : State) (i selector : ℕ) (t : Sort) → IsKept names limit s → IsName names selector → IsHeard names limit (cold r s i selector t)
  cold_in r s i selector (sort.Float z) h n = record { kept = stored_in names limit s i z h; said = silence names first }
  cold_in r s i selector t h n = record { kept = h; said = deafness names first (Sounding r) selector n }

  pub sounding_in : (r : SignalRow) (s : State) (inlet selector : ℕ) (atoms : List Atom) → IsKept names limit s → IsMessage names selector atoms → IsHeard names limit (sounding_row names r s inlet selector atoms)
  unfolding sounding_row
  sounding_in r s inlet selector atoms h m =
      either (IsHeard names limit) (inlet == 0) _ _
      (hot_in r (spread (sort_of selector atoms) s atoms) selector (first_sort (sort_of selector atoms) atoms) (spread_in names limit (sort_of selector atoms) s atoms h) m.known)
      (cold_in r s inlet selector (sort_of selector atoms) h m.known)
