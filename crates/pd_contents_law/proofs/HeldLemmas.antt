-- What the signal objects hold or store of a message is no text, and no value of an array or a table.
use Rattle.std.proofs.Common.{ℕ, ℤ, zero, suc, ◌==◌, List, [], ◌∷◌, drop, codes, bytes_eq}
use Rattle.pd_atom.specs.Names.{Names, name_of}
use Rattle.pd_atom.specs.declared.Atom.{Atom}
use Rattle.pd_atom.specs.declared.Atom.TheVariants as atom
use Rattle.pd_object.specs.declared.kinds.Kind.{Kind}
use Rattle.pd_object.specs.declared.kinds.Kind.TheVariants as kind
use Rattle.pd_kind.specs.declared.messages.Sort.{Sort}
use Rattle.pd_kind.specs.declared.messages.Sort.TheVariants as sort
use Rattle.pd_object.specs.declared.row_names.SignalRow.{SignalRow}
use Rattle.pd_kind.specs.declared.states.State.{State}
use Rattle.pd_kind.specs.declared.states.State.TheVariants as state
use Rattle.pd_kind.specs.Hearing.{first_sort}
use Rattle.pd_kind.specs.Messages.{sort_of}
use Rattle.pd_held.specs.Stores.{stored_at, atom_stored, list_stored}
use Rattle.pd_held.specs.Rows.{spread, hears_numbers, other_heard, hot, cold, sounding_row}
use Rattle.pd_vline.specs.Rows as line
use Rattle.pd_guards.proofs.FactLemmas.{either}
use Rattle.pd_contents_law.specs.Contents.{HasContents}
use Rattle.pd_contents_law.proofs.HearLemmas.{Stays}

module _ (size : ℕ) (known : Names) where
  -- a number at an inlet
  stored_kept : (s : State) (i : ℕ) (z : ℤ) → HasContents size known s → HasContents size known (stored_at s i z)
  stored_kept (state.Sig v) zero z h = h
  stored_kept (state.Phasor held p rate) zero z h = h
  stored_kept (state.Phasor held p rate) (suc zero) z h = h
  stored_kept (state.Osc held p rate) zero z h = h
  stored_kept (state.Osc held p rate) (suc zero) z h = h
  stored_kept (state.SignalOperation left right) zero z h = h
  stored_kept (state.SignalOperation left right) (suc zero) z h = h
  stored_kept (state.SignalFunction held) zero z h = h
  stored_kept (state.SignalClip held low high) zero z h = h
  stored_kept (state.SignalClip held low high) (suc zero) z h = h
  stored_kept (state.SignalClip held low high) (suc (suc zero)) z h = h
  stored_kept (state.Line slope) zero z h = h
  stored_kept (state.Line slope) (suc zero) z h = h
  stored_kept (state.Samphold held control last kept) zero z h = h
  stored_kept (state.Samphold held control last kept) (suc zero) z h = h
  stored_kept (state.Lop held hz v rate) zero z h = h
  stored_kept (state.Lop held hz v rate) (suc zero) z h = h
  stored_kept (state.Hip held hz v rate) zero z h = h
  stored_kept (state.Hip held hz v rate) (suc zero) z h = h
  stored_kept (state.Delwrite held values next ran) zero z h = h
  stored_kept (state.Delread time rate) zero z h = h
  stored_kept (state.SignalSend held block) zero z h = h
  stored_kept (state.Throw held) zero z h = h
  stored_kept (state.Snapshot held last) zero z h = h
  stored_kept (state.SignalTabread held) zero z h = h
  stored_kept (state.Dac held) i z h = h
  stored_kept (state.SignalInlet held) zero z h = h
  stored_kept (state.SignalOutlet held) zero z h = h
  stored_kept s i z h = h

  atom_kept : (s : State) (i : ℕ) (a : Atom) → HasContents size known s → HasContents size known (atom_stored s i a)
  atom_kept s i (atom.Number z) h = stored_kept s i z h
  atom_kept s i a h = h

  list_stored-kept : (s : State) (i : ℕ) (atoms : List Atom) → HasContents size known s → HasContents size known (list_stored s i atoms)
  list_stored-kept s i [] h = h
  list_stored-kept s i (a ∷ atoms) h = list_stored-kept (atom_stored s i a) (suc i) atoms (atom_kept s i a h)

  spread_kept : (t : Sort) (s : State) (atoms : List Atom) → HasContents size known s → HasContents size known (spread t s atoms)
  spread_kept sort.List s atoms h = list_stored-kept s 1 (drop 1 atoms) h
  spread_kept t s atoms h = h

  module _ (names : Names) where
    other_kept : (r : SignalRow) (s : State) (selector : ℕ) → HasContents size known s → Stays size known (other_heard names r s selector)
    other_kept r (state.Line slope) selector h = either (Stays size known) (bytes_eq (name_of names selector) (codes "stop")) _ _ tt tt
    other_kept r s selector h = h

    hot_kept : (r : SignalRow) (s : State) (selector : ℕ) (t : Sort) → HasContents size known s → Stays size known (hot names r s selector t)
    hot_kept r s selector (sort.Float z) h = either (Stays size known) (hears_numbers r) _ _ (stored_kept s 0 z h) h
    hot_kept r s selector sort.Bang h = h
    hot_kept r s selector (sort.Symbol x) h = h
    hot_kept r s selector t h = other_kept r s selector h

    cold_kept : (r : SignalRow) (s : State) (i selector : ℕ) (t : Sort) → HasContents size known s → Stays size known (cold r s i selector t)
    cold_kept r s i selector (sort.Float z) h = stored_kept s i z h
    cold_kept r s i selector t h = h

    pub row_kept : (r : SignalRow) (s : State) (inlet selector : ℕ) (atoms : List Atom) → HasContents size known s → Stays size known (sounding_row names r s inlet selector atoms)
    unfolding sounding_row
    row_kept r s inlet selector atoms h =
        let t = sort_of selector atoms in
        either (Stays size known) (inlet == 0) _ _ (hot_kept r (spread t s atoms) selector (first_sort t atoms) (spread_kept t s atoms h)) (cold_kept r s inlet selector t h)

    -- `vline~`
    pub line_kept : (now : ℕ) (k : Kind) (s : State) (inlet selector : ℕ) (atoms : List Atom) → HasContents size known s → Stays size known (line.heard names now k s inlet selector atoms)
    line_kept now kind.Vline (state.Vline r) inlet selector atoms h = h
    line_kept now k s inlet selector atoms h = h
