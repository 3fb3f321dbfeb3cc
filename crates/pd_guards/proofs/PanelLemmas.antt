-- `bng` and `tgl` keep and say what is in order.
use Rattle.std.proofs.Common.{ℕ, ℤ, pos, Bool, List, [], ◌∷◌, slice_get, Option, Some, None, IfSome, codes, arith}
use Rattle.std.specs.List.{AllByRecursion}
use Rattle.pd_atom.specs.Names.{Names}
use Rattle.pd_atom.specs.declared.Atom.{Atom}
use Rattle.pd_atom.specs.declared.Atom.TheVariants as atom
use Rattle.pd_object.specs.declared.kinds.Kind.{Kind}
use Rattle.pd_object.specs.declared.kinds.Kind.TheVariants as kind
use Rattle.pd_object.specs.declared.kinds.Panel.{Panel}
use Rattle.pd_object.specs.declared.kinds.Panel.TheVariants as panel
use Rattle.pd_kind.specs.declared.messages.Sort.{Sort}
use Rattle.pd_kind.specs.declared.messages.Sort.TheVariants as sort
use Rattle.pd_object.specs.declared.row_names.Row.TheVariants as row
use Rattle.pd_kind.specs.declared.states.State.{State}
use Rattle.pd_kind.specs.declared.states.State.TheVariants as state
use Rattle.pd_kind.specs.Hearing.{first_sort}
use Rattle.pd_kind.specs.Messages.{sort_of}
use Rattle.pd_kind.specs.Said.{send_to}
use Rattle.pd_panel.specs.Rows.{is_called, is_zero, to_name, shown, bang_shown, number_shown, flipped, toggle_set, toggle_nonzero, toggle_other, turned, toggle_hot, panel_row, heard, panel_loaded, loaded}
use Rattle.pd_guards.specs.Order.{IsNumber, HasFirst, IsName, IsAtom, IsMessage, IsKept, IsPanel, IsKind, IsSend, IsSaid, IsHeard}
use Rattle.pd_guards.proofs.FactLemmas.{either, all-at}
use Rattle.pd_guards.proofs.BaseLemmas.{no_number, IsSort, sort_in, first_in, one, nothing, passed_on, silence, quietly, only, deafness, deaf_told}

module _ (names : Names) (first : HasFirst names) (limit : ℕ) where
  to_name-in : (o : Option ℕ) (selector : ℕ) (atoms : List Atom) → IfSome o (IsName names) → IsMessage names selector atoms → AllByRecursion (IsSend names) (to_name o selector atoms)
  to_name-in None selector atoms h m = tt
  to_name-in (Some s) selector atoms h m = (record { target = h; message = m }, tt)

  shown_in : (o : Option ℕ) (selector : ℕ) (atoms : List Atom) → IfSome o (IsName names) → IsMessage names selector atoms → IsSaid names (shown o selector atoms)
  shown_in o selector atoms h m = only names first (send_to 0 selector atoms ∷ to_name o selector atoms) (passed_on names first 0 selector atoms m, to_name-in o selector atoms h m)

  bang_in : (o : Option ℕ) → IfSome o (IsName names) → IsSaid names (bang_shown o)
  bang_in o h = shown_in o 0 [] h (record { known = omega (arith, first); list = nothing names first })

  number_in : (o : Option ℕ) (z : ℤ) → IfSome o (IsName names) → IsNumber z → IsSaid names (number_shown o z)
  number_in o z h k = shown_in o 1 (atom.Number z ∷ []) h (record { known = omega (arith, first); list = one names first (atom.Number z) (tt, k) })

  set_in : (value other : ℤ) (saved : Bool) (selector : ℕ) (o : Option Atom) → IsNumber value → IsNumber other → IsName names selector → IfSome o (IsAtom names) → IsHeard names limit (toggle_set value other saved selector o)
  set_in value other saved selector None v w n h = record { kept = (v, w); said = deafness names first row.Toggle selector n }
  set_in value other saved selector (Some (atom.Number z)) v w n h = record { kept = (h.1, w); said = silence names first }
  set_in value other saved selector (Some a) v w n h = record { kept = (v, w); said = deafness names first row.Toggle selector n }

  nonzero_in : (value other : ℤ) (saved : Bool) (selector : ℕ) (o : Option Atom) → IsNumber value → IsNumber other → IsName names selector → IfSome o (IsAtom names) → IsHeard names limit (toggle_nonzero value other saved selector o)
  nonzero_in value other saved selector None v w n h = record { kept = (v, w); said = deafness names first row.Toggle selector n }
  nonzero_in value other saved selector (Some (atom.Number z)) v w n h = record { kept = (v, either IsNumber (is_zero z) other z w h.1); said = silence names first }
  nonzero_in value other saved selector (Some a) v w n h = record { kept = (v, w); said = deafness names first row.Toggle selector n }

  other_in : (value other : ℤ) (saved : Bool) (selector : ℕ) (atoms : List Atom) → IsNumber value → IsNumber other → IsMessage names selector atoms → IsHeard names limit (toggle_other names value other saved selector atoms)
  other_in value other saved selector atoms v w m =
      either (IsHeard names limit) (is_called names selector (codes "set")) _ _ (set_in value other saved selector (slice_get atoms 0) v w m.known (all-at (IsAtom names) atoms 0 m.list.all))
      (either (IsHeard names limit) (is_called names selector (codes "nonzero")) _ _ (nonzero_in value other saved selector (slice_get atoms 0) v w m.known (all-at (IsAtom names) atoms 0 m.list.all))
      (record { kept = (v, w); said = deafness names first row.Toggle selector m.known }))

  turned_in : (o : Option ℕ) (value other : ℤ) (saved : Bool) → IfSome o (IsName names) → IsNumber value → IsNumber other → IsHeard names limit (turned o value other saved)
  turned_in o value other saved h v w = record { kept = (v, w); said = number_in o value h v }

  hot_in : (o : Option ℕ) (value other : ℤ) (saved : Bool) (selector : ℕ) (atoms : List Atom) (s : Sort) → IfSome o (IsName names) → IsNumber value → IsNumber other → IsMessage names selector atoms → IsSort names first s
      → IsHeard names limit (toggle_hot names o value other saved selector atoms s)
  hot_in o value other saved selector atoms (sort.Float z) h v w m k = turned_in o z other saved h k w
  hot_in o value other saved selector atoms sort.Bang h v w m k = turned_in o (flipped value other) other saved h (either IsNumber (is_zero value) other (pos 0) w no_number) w
  hot_in o value other saved selector atoms sort.Other h v w m k = other_in value other saved selector atoms v w m
  hot_in o value other saved selector atoms s h v w m k = record { kept = (v, w); said = deaf_told names first row.Toggle s selector m.known }

  row_in : (p : Panel) (s : State) (selector : ℕ) (atoms : List Atom) → IsPanel names p → IsKept names limit s → IsMessage names selector atoms → IsHeard names limit (panel_row names p s selector atoms)
  row_in (panel.Bng button) s selector atoms h k m = record { kept = k; said = bang_in button.send h }
  row_in (panel.Tgl toggle) (state.Toggle value other saved) selector atoms h k m =
      hot_in toggle.send value other saved selector atoms (first_sort (sort_of selector atoms) atoms) h k.0 k.1 m (first_in names first (sort_of selector atoms) atoms (sort_in names first selector atoms m.list.all) m.list.all)
  row_in p s selector atoms h k m = quietly names first limit s k

  pub panel_in : (k : Kind) (s : State) (selector : ℕ) (atoms : List Atom) → IsKind names k → IsKept names limit s → IsMessage names selector atoms → IsHeard names limit (heard names k s selector atoms)
  unfolding heard
  panel_in (kind.Panel p) s selector atoms h k m = row_in p s selector atoms h k m
  panel_in x s selector atoms h k m = quietly names first limit s k

  panel_loaded-in : (p : Panel) (s : State) → IsPanel names p → IsKept names limit s → IsSaid names (panel_loaded p s)
  panel_loaded-in (panel.Bng button) s h k = either (IsSaid names) (is_zero button.init) _ _ (silence names first) (bang_in button.send h)
  panel_loaded-in (panel.Tgl toggle) (state.Toggle value other saved) h k = either (IsSaid names) (is_zero toggle.init) _ _ (silence names first) (number_in toggle.send value h k.0)
  panel_loaded-in p s h k = silence names first

  pub loaded_in : (k : Kind) (s : State) → IsKind names k → IsKept names limit s → IsSaid names (loaded k s)
  unfolding loaded
  loaded_in (kind.Panel p) s h k = panel_loaded-in p s h k
  loaded_in x s h k = silence names first
