-- A `vline~` says what is in order.
use Rattle.std.proofs.Common.{◌≤◌, ℤ, ℕ, zero, suc, pos, ◌==◌, nat_lt, List, codes, bytes_eq, arith}
use Rattle.pd_atom.specs.Names.{Names, name_of}
use Rattle.pd_atom.specs.declared.Atom.{Atom}
use Rattle.pd_object.specs.declared.kinds.Kind.{Kind}
use Rattle.pd_object.specs.declared.kinds.Kind.TheVariants as kind
use Rattle.pd_kind.specs.declared.messages.Sort.{Sort}
use Rattle.pd_kind.specs.declared.messages.Sort.TheVariants as sort
use Rattle.pd_object.specs.declared.row_names.Row.TheVariants.{Sounding}
use Rattle.pd_object.specs.declared.row_names.SignalRow.TheVariants as row
use Rattle.pd_kind.specs.declared.states.Ramp.{Ramp}
use Rattle.pd_kind.specs.declared.states.Ramps.{Ramps}
use Rattle.pd_kind.specs.declared.states.State.{State}
use Rattle.pd_kind.specs.declared.states.State.TheVariants as state
use Rattle.pd_kind.specs.Books.{with_times}
use Rattle.pd_kind.specs.Hearing.{first_sort}
use Rattle.pd_kind.specs.Messages.{sort_of}
use Rattle.pd_vline.specs.Rows.{Left, refused, stored_at, float_ramp, stop_ramp, staying, with_ramp, other_heard, spread, hot, cold, vline_row, heard}
use Rattle.pd_vline.specs.Taken.{present}
use Rattle.pd_guards.specs.Order.{HasFirst, IsName, IsMessage, IsKept, IsSaid, IsHeard}
use Rattle.pd_guards.proofs.FactLemmas.{either}
use Rattle.pd_guards.proofs.BaseLemmas.{silence, quietly, deafness}

module _ (names : Names) (first : HasFirst names) (limit : ℕ) where
  -- what it says is in order, and it has run no block beyond the limit
  record SaysWell (l : Left) : Type 0 where
    said : IsSaid names l.said
    open_yet : l.ramps.end ≤ limit

  deaf_in : (r : Ramps) (selector : ℕ) → r.end ≤ limit → IsName names selector → SaysWell (refused r selector)
  deaf_in r selector h n = record { said = deafness names first (Sounding row.Vline) selector n; open_yet = h }

  ramp_in : (r : Ramps) (new : Ramp) → r.end ≤ limit → SaysWell (with_ramp r new)
  ramp_in r new h =
      either SaysWell (nat_lt (staying new r.ramps) 256) _ _ (record { said = silence names first; open_yet = h }) (record { said = record { sends = tt; deed = tt; notices = (tt, tt) }; open_yet = h })

  other_in : (now : ℕ) (r : Ramps) (selector : ℕ) → r.end ≤ limit → IsName names selector → SaysWell (other_heard names now r selector)
  other_in now r selector h n = either SaysWell (bytes_eq (name_of names selector) (codes "stop")) _ _ (ramp_in r (stop_ramp now (present r now)) h) (deaf_in r selector h n)

  hot_in : (now : ℕ) (r : Ramps) (selector : ℕ) (s : Sort) → r.end ≤ limit → IsName names selector → SaysWell (hot names now r selector s)
  hot_in now r selector (sort.Float z) h n = ramp_in (with_times r (pos 0) (pos 0)) (float_ramp r now z) h
  hot_in now r selector sort.Bang h n = deaf_in r selector h n
  hot_in now r selector (sort.Symbol s) h n = deaf_in r 2 h (omega (arith, first))
  hot_in now r selector sort.List h n = other_in now r selector h n
  hot_in now r selector sort.Other h n = other_in now r selector h n

  stored_in : (r : Ramps) (i : ℕ) (z : ℤ) → r.end ≤ limit → (stored_at r i z).end ≤ limit
  stored_in r zero z h = h
  stored_in r (suc zero) z h = h
  stored_in r (suc (suc zero)) z h = h
  stored_in r (suc (suc (suc i))) z h = h

  cold_in : (r : Ramps) (i selector : ℕ) (s : Sort) → r.end ≤ limit → IsName names selector → SaysWell (cold r i selector s)
  cold_in r i selector (sort.Float z) h n = record { said = silence names first; open_yet = stored_in r i z h }
  cold_in r i selector s h n = deaf_in r selector h n

  spread_in : (s : Sort) (r : Ramps) (atoms : List Atom) → r.end ≤ limit → (spread s r atoms).end ≤ limit
  spread_in sort.List r atoms h = h
  spread_in s r atoms h = h

  row_in : (now : ℕ) (r : Ramps) (inlet selector : ℕ) (atoms : List Atom) → r.end ≤ limit → IsName names selector → SaysWell (vline_row names now r inlet selector atoms)
  unfolding vline_row
  row_in now r inlet selector atoms h n =
      either SaysWell (inlet == 0) _ _
      (hot_in now (spread (sort_of selector atoms) r atoms) selector (first_sort (sort_of selector atoms) atoms) (spread_in (sort_of selector atoms) r atoms h) n)
      (cold_in r inlet selector (sort_of selector atoms) h n)

  pub line_in : (now : ℕ) (k : Kind) (s : State) (inlet selector : ℕ) (atoms : List Atom) → IsKept names limit s → IsMessage names selector atoms → IsHeard names limit (heard names now k s inlet selector atoms)
  line_in now kind.Vline (state.Vline r) inlet selector atoms h m = let w : SaysWell (vline_row names now r inlet selector atoms) = row_in now r inlet selector atoms h m.known in record { kept = w.open_yet; said = w.said }
  line_in now k s inlet selector atoms h m = quietly names first limit s h
