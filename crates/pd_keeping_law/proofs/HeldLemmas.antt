-- What the signal objects keep after what they hear: they hold or store numbers that are said.
use Rattle.std.proofs.Common.{ℕ, ℤ, pos, zero, suc, ◌==◌, List, [], ◌∷◌, drop, slice_get, Option, Some, None, IfSome, nat_lt, codes, bytes_eq}
use Rattle.std.specs.List.{AllByRecursion}
use Rattle.pd_atom.specs.Names.{Names, name_of}
use Rattle.pd_atom.specs.declared.Atom.{Atom}
use Rattle.pd_atom.specs.declared.Atom.TheVariants as atom
use Rattle.pd_object.specs.declared.kinds.Kind.{Kind}
use Rattle.pd_object.specs.declared.kinds.Kind.TheVariants as kind
use Rattle.pd_object.specs.declared.row_names.SignalRow.{SignalRow}
use Rattle.pd_kind.specs.Books.{with_times, with_ramp_last}
use Rattle.pd_kind.specs.declared.messages.Sort.{Sort}
use Rattle.pd_kind.specs.declared.messages.Sort.TheVariants as sort
use Rattle.pd_kind.specs.declared.states.Ramp.{Ramp}
use Rattle.pd_kind.specs.declared.states.Ramps.{Ramps}
use Rattle.pd_kind.specs.declared.states.State.{State}
use Rattle.pd_kind.specs.declared.states.State.TheVariants as state
use Rattle.pd_kind.specs.Hearing.{sort_of_atom, first_sort}
use Rattle.pd_kind.specs.Messages.{float_sort, symbol_sort, sort_of}
use Rattle.pd_held.specs.Stores.{stored_at, atom_stored, list_stored}
use Rattle.pd_held.specs.Rows.{spread, hears_numbers, other_heard, hot, cold, sounding_row}
use Rattle.pd_vline.specs.Rows as line
use Rattle.pd_keeping_law.proofs.FactLemmas.{either, all-at, all-drop}
use Rattle.pd_keeping_law.proofs.ChangeLemmas.{IsNumberSaid}
use Rattle.pd_keeping_law.proofs.RowLemmas.{Stays}
use Rattle.pd_keeping_law.specs.Changes.{Sayings, Becomes}
use Rattle.pd_keeping_law.specs.Changes as change

module _ (Said : Sayings) where
  abbrev AllSaid : List Atom → Type 0
  AllSaid atoms = AllByRecursion (IsNumberSaid Said) atoms

  -- the number of a message
  abbrev IsSort : Sort → Type 0
  IsSort (sort.Float z) = Said.numbers z
  IsSort t = Unit {0}

  float_said : (atoms : List Atom) → AllSaid atoms → IsSort (float_sort atoms)
  float_said [] m = tt
  float_said (atom.Number z ∷ atoms) m = m.0
  float_said (a ∷ atoms) m = tt

  symbol_said : (atoms : List Atom) → IsSort (symbol_sort atoms)
  symbol_said [] = tt
  symbol_said (atom.Symbol s ∷ atoms) = tt
  symbol_said (a ∷ atoms) = tt

  sort_said : (selector : ℕ) (atoms : List Atom) → AllSaid atoms → IsSort (sort_of selector atoms)
  sort_said zero atoms m = tt
  sort_said (suc zero) atoms m = float_said atoms m
  sort_said (suc (suc zero)) atoms m = symbol_said atoms
  sort_said (suc (suc (suc zero))) atoms m = tt
  sort_said (suc (suc (suc (suc n)))) atoms m = tt

  atom_said : (o : Option Atom) → IfSome o (IsNumberSaid Said) → IsSort (sort_of_atom o)
  atom_said None m = tt
  atom_said (Some (atom.Number z)) m = m
  atom_said (Some (atom.Symbol s)) m = tt
  atom_said (Some a) m = tt

  first_said : (t : Sort) (atoms : List Atom) → IsSort t → AllSaid atoms → IsSort (first_sort t atoms)
  first_said sort.List atoms k m = atom_said (slice_get atoms 0) (all-at (IsNumberSaid Said) atoms 0 m)
  first_said t atoms k m = k

  -- a number at an inlet
  stored_becomes : (s : State) (i : ℕ) (z : ℤ) → Said.numbers z → Becomes Said s (stored_at s i z)
  stored_becomes (state.Sig v) zero z n = change.sig n
  stored_becomes (state.Phasor held p rate) zero z n = change.phasor n
  stored_becomes (state.Phasor held p rate) (suc zero) z n = change.phasor_phase z n
  stored_becomes (state.Osc held p rate) zero z n = change.osc n
  stored_becomes (state.Osc held p rate) (suc zero) z n = change.osc_phase z n
  stored_becomes (state.SignalOperation left right) zero z n = change.signal_left n
  stored_becomes (state.SignalOperation left right) (suc zero) z n = change.signal_right n
  stored_becomes (state.SignalFunction held) zero z n = change.signal_function n
  stored_becomes (state.SignalClip held low high) zero z n = change.signal_clip n
  stored_becomes (state.SignalClip held low high) (suc zero) z n = change.signal_low n
  stored_becomes (state.SignalClip held low high) (suc (suc zero)) z n = change.signal_high n
  stored_becomes (state.Line slope) zero z n = change.line_to z n
  stored_becomes (state.Line slope) (suc zero) z n = change.line_time z n
  stored_becomes (state.Samphold held control last kept) zero z n = change.samphold n
  stored_becomes (state.Samphold held control last kept) (suc zero) z n = change.samphold_control n
  stored_becomes (state.Lop held hz v rate) zero z n = change.lop n
  stored_becomes (state.Lop held hz v rate) (suc zero) z n = change.lop_hertz n
  stored_becomes (state.Hip held hz v rate) zero z n = change.hip n
  stored_becomes (state.Hip held hz v rate) (suc zero) z n = change.hip_hertz n
  stored_becomes (state.Delwrite held values next ran) zero z n = change.delwrite n
  stored_becomes (state.Delread time rate) zero z n = change.delread n
  stored_becomes (state.SignalSend held block) zero z n = change.signal_send n
  stored_becomes (state.Throw held) zero z n = change.throw n
  stored_becomes (state.Snapshot held last) zero z n = change.snapshot n
  stored_becomes (state.SignalTabread held) zero z n = change.signal_tabread n
  stored_becomes (state.Dac held) i z n = change.dac i z n
  stored_becomes (state.SignalInlet held) zero z n = change.signal_inlet n
  stored_becomes (state.SignalOutlet held) zero z n = change.signal_outlet n
  stored_becomes s i z n = change.same

  atom_becomes : (s : State) (i : ℕ) (a : Atom) → IsNumberSaid Said a → Becomes Said s (atom_stored s i a)
  atom_becomes s i (atom.Number z) n = stored_becomes s i z n
  atom_becomes s i a n = change.same

  list_becomes : (s : State) (i : ℕ) (atoms : List Atom) → AllSaid atoms → Becomes Said s (list_stored s i atoms)
  list_becomes s i [] m = change.same
  list_becomes s i (a ∷ atoms) m = change.further (atom_becomes s i a m.0) (list_becomes (atom_stored s i a) (suc i) atoms m.1)

  spread_becomes : (t : Sort) (s : State) (atoms : List Atom) → AllSaid atoms → Becomes Said s (spread t s atoms)
  spread_becomes sort.List s atoms m = list_becomes s 1 (drop 1 atoms) (all-drop (IsNumberSaid Said) 1 atoms m)
  spread_becomes t s atoms m = change.same

  module _ (names : Names) where
    other_becomes : (r : SignalRow) (s : State) (selector : ℕ) → Stays Said s (other_heard names r s selector)
    other_becomes r (state.Line slope) selector = either (Stays Said (state.Line slope)) (bytes_eq (name_of names selector) (codes "stop")) _ _ change.line_stop change.same
    other_becomes r s selector = change.same

    hot_becomes : (r : SignalRow) (s : State) (selector : ℕ) (t : Sort) → IsSort t → Stays Said s (hot names r s selector t)
    hot_becomes r s selector (sort.Float z) n = either (Stays Said s) (hears_numbers r) _ _ (stored_becomes s 0 z n) change.same
    hot_becomes r s selector sort.Bang n = change.same
    hot_becomes r s selector (sort.Symbol x) n = change.same
    hot_becomes r s selector t n = other_becomes r s selector

    cold_becomes : (r : SignalRow) (s : State) (i selector : ℕ) (t : Sort) → IsSort t → Stays Said s (cold r s i selector t)
    cold_becomes r s i selector (sort.Float z) n = stored_becomes s i z n
    cold_becomes r s i selector t n = change.same

    pub row_becomes : (r : SignalRow) (s : State) (inlet selector : ℕ) (atoms : List Atom) → AllSaid atoms → Stays Said s (sounding_row names r s inlet selector atoms)
    unfolding sounding_row
    row_becomes r s inlet selector atoms m =
        let t : Sort = sort_of selector atoms in
        let k : IsSort t = sort_said selector atoms m in
        either (Stays Said s) (inlet == 0) _ _
        (change.further (spread_becomes t s atoms m) (hot_becomes r (spread t s atoms) selector (first_sort t atoms) (first_said t atoms k m))) (cold_becomes r s inlet selector t k)

    -- `vline~`
    abbrev Turns : Ramps → line.Left → Type 0
    Turns r l = Becomes Said (state.Vline r) (state.Vline l.ramps)

    ramp_becomes : (r : Ramps) (new : Ramp) → ((n : ℕ) → Becomes Said (state.Vline r) (state.Vline (with_ramp_last r n new))) → Turns r (line.with_ramp r new)
    ramp_becomes r new f = either (Turns r) (nat_lt (line.staying new r.ramps) 256) _ _ (f (line.staying new r.ramps)) change.same

    stop_becomes : (now : ℕ) (r : Ramps) (selector : ℕ) → Turns r (line.other_heard names now r selector)
    stop_becomes now r selector =
        either (Turns r) (bytes_eq (name_of names selector) (codes "stop")) _ _ (ramp_becomes r _ (λ n. change.vline_stop n now)) change.same

    line_hot : (now : ℕ) (r : Ramps) (selector : ℕ) (t : Sort) → IsSort t → Turns r (line.hot names now r selector t)
    line_hot now r selector (sort.Float z) n =
        let new : Ramp = line.float_ramp r now z in
        change.further (change.vline_times (pos 0) (pos 0)) (ramp_becomes (with_times r (pos 0) (pos 0)) new (λ i. change.vline_ramp i new.start new.end z n))
    line_hot now r selector sort.Bang n = change.same
    line_hot now r selector (sort.Symbol s) n = change.same
    line_hot now r selector sort.List n = stop_becomes now r selector
    line_hot now r selector sort.Other n = stop_becomes now r selector

    line_stored : (r : Ramps) (i : ℕ) (z : ℤ) → Becomes Said (state.Vline r) (state.Vline (line.stored_at r i z))
    line_stored r zero z = change.same
    line_stored r (suc zero) z = change.vline_times (line.limited z) r.delay
    line_stored r (suc (suc zero)) z = change.vline_times r.time (line.limited z)
    line_stored r (suc (suc (suc i))) z = change.same

    line_cold : (r : Ramps) (i selector : ℕ) (t : Sort) → Turns r (line.cold r i selector t)
    line_cold r i selector (sort.Float z) = line_stored r i z
    line_cold r i selector t = change.same

    line_spread : (t : Sort) (r : Ramps) (atoms : List Atom) → Becomes Said (state.Vline r) (state.Vline (line.spread t r atoms))
    line_spread sort.List r atoms = change.vline_times (line.time_or (slice_get atoms 1) r.time) (line.time_or (slice_get atoms 2) r.delay)
    line_spread t r atoms = change.same

    line_row : (now : ℕ) (r : Ramps) (inlet selector : ℕ) (atoms : List Atom) → AllSaid atoms → Turns r (line.vline_row names now r inlet selector atoms)
    unfolding line.vline_row
    line_row now r inlet selector atoms m =
        let t : Sort = sort_of selector atoms in
        either (Turns r) (inlet == 0) _ _
        (change.further (line_spread t r atoms) (line_hot now (line.spread t r atoms) selector (first_sort t atoms) (first_said t atoms (sort_said selector atoms m) m))) (line_cold r inlet selector t)

    pub line_becomes : (now : ℕ) (k : Kind) (s : State) (inlet selector : ℕ) (atoms : List Atom) → AllSaid atoms → Stays Said s (line.heard names now k s inlet selector atoms)
    line_becomes now kind.Vline (state.Vline r) inlet selector atoms m = line_row now r inlet selector atoms m
    line_becomes now k s inlet selector atoms m = change.same
