-- A message leaves the end of the block that a `vline~` ran last.
use Rattle.std.proofs.Common.{ℕ, ℤ, pos, ◌≤◌, ◌^◌, ◌&&◌, ◌==◌, zero, suc, nat_le, nat_lt, List, Option, bytes_eq, codes}
use Rattle.pd_atom.specs.Names.{Names, name_of}
use Rattle.pd_atom.specs.declared.Atom.{Atom}
use Rattle.pd_object.specs.declared.kinds.Kind.TheVariants as kind
use Rattle.pd_kind.specs.declared.messages.Sort.{Sort}
use Rattle.pd_kind.specs.declared.messages.Sort.TheVariants as sort
use Rattle.pd_kind.specs.declared.states.Ramp.{Ramp}
use Rattle.pd_kind.specs.declared.states.Ramps.{Ramps}
use Rattle.pd_kind.specs.declared.states.State.{State}
use Rattle.pd_kind.specs.declared.states.State.TheVariants as state
use Rattle.pd_kind.specs.Books.{with_times}
use Rattle.pd_kind.specs.Hearing.{first_sort}
use Rattle.pd_kind.specs.Messages.{sort_of}
use Rattle.pd_vline.specs.Taken.{present}
use Rattle.pd_vline.specs.Rows.{Left, float_ramp, stop_ramp, staying, with_ramp, other_heard, spread, hot, stored_at, cold, vline_row, heard, IsOpen}
use Rattle.pd_glue.specs.Rows.{Hearing}
use Rattle.pd_hearing.specs.Guards.{is_message, is_open}
use Rattle.pd_hearing.specs.Hearing.{heard_line, heard_kind}
use Rattle.pd_guards.proofs.FactLemmas.{either}

module _ (t : ℕ) (names : Names) (now : ℕ) where
  abbrev Ends : Left → Type 0
  Ends left = left.ramps.end ≤ t

  abbrev Leaves : Hearing → Type 0
  Leaves h = IsOpen t h.state

  ramp_ends : (r : Ramps) (new : Ramp) → r.end ≤ t → Ends (with_ramp r new)
  ramp_ends r new h = either Ends (nat_lt (staying new r.ramps) 256) _ _ h h

  other_ends : (r : Ramps) (selector : ℕ) → r.end ≤ t → Ends (other_heard names now r selector)
  other_ends r selector h = either Ends (bytes_eq (name_of names selector) (codes "stop")) _ _ (ramp_ends r (stop_ramp now (present r now)) h) h

  hot_ends : (r : Ramps) (selector : ℕ) (s : Sort) → r.end ≤ t → Ends (hot names now r selector s)
  hot_ends r selector (sort.Float z) h = ramp_ends (with_times r (pos 0) (pos 0)) (float_ramp r now z) h
  hot_ends r selector sort.Bang h = h
  hot_ends r selector (sort.Symbol n) h = h
  hot_ends r selector sort.List h = other_ends r selector h
  hot_ends r selector sort.Other h = other_ends r selector h

  spread_ends : (s : Sort) (r : Ramps) (atoms : List Atom) → r.end ≤ t → (spread s r atoms).end ≤ t
  spread_ends sort.List r atoms h = h
  spread_ends s r atoms h = h

  stored_ends : (r : Ramps) (i : ℕ) (z : ℤ) → r.end ≤ t → (stored_at r i z).end ≤ t
  stored_ends r zero z h = h
  stored_ends r (suc zero) z h = h
  stored_ends r (suc (suc zero)) z h = h
  stored_ends r (suc (suc (suc i))) z h = h

  cold_ends : (r : Ramps) (i selector : ℕ) (s : Sort) → r.end ≤ t → Ends (cold r i selector s)
  cold_ends r i selector (sort.Float z) h = stored_ends r i z h
  cold_ends r i selector s h = h

  row_ends : (r : Ramps) (inlet selector : ℕ) (atoms : List Atom) → r.end ≤ t → Ends (vline_row names now r inlet selector atoms)
  unfolding vline_row
  row_ends r inlet selector atoms h =
      let s : Sort = sort_of selector atoms in
      either Ends (inlet == 0) _ _ (hot_ends (spread s r atoms) selector (first_sort s atoms) (spread_ends s r atoms h)) (cold_ends r inlet selector s h)

  line_open : (s : State) (inlet selector : ℕ) (atoms : List Atom) → IsOpen t s → IsOpen t (heard names now kind.Vline s inlet selector atoms).state
  line_open (state.Vline r) inlet selector atoms h = row_ends r inlet selector atoms h
  line_open s inlet selector atoms h = h

  pub vline_open : (s : State) (inlet selector : ℕ) (atoms : List Atom) (table : Option (List ℤ)) → IsOpen t s → IsOpen t (heard_kind names kind.Vline s inlet selector atoms now table).state
  unfolding heard_kind
  vline_open s inlet selector atoms table h =
      either Leaves (is_message names selector atoms) (heard_line names kind.Vline s inlet selector atoms now) _
      (either Leaves (nat_le now (2 ^ 101) && is_open now s) _ _ (line_open s inlet selector atoms h) h) h
