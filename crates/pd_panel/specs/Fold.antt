-- A toggle's two values after a list of messages.
use Rattle.std.specs.Prelude.{ℕ, ℤ, List, [], ◌∷◌, Option, Some, Bool, slice_get, if◌then◌else◌, codes, ◌≡◌}
use Rattle.pd_atom.specs.declared.Atom.{Atom}
use Rattle.pd_atom.specs.declared.Atom.TheVariants as atom
use Rattle.pd_atom.specs.Names.{Names}
use Rattle.pd_object.specs.declared.kinds.Kind.{Kind}
use Rattle.pd_object.specs.declared.kinds.Kind.TheVariants as kind
use Rattle.pd_object.specs.declared.kinds.Panel.TheVariants as panel
use Rattle.pd_object.specs.declared.kinds.Toggle.{Toggle}
use Rattle.pd_kind.specs.declared.messages.Sort.{Sort}
use Rattle.pd_kind.specs.declared.messages.Sort.TheVariants as sort
use Rattle.pd_kind.specs.declared.states.State.{State}
use Rattle.pd_kind.specs.declared.states.State.TheVariants as state
use Rattle.pd_kind.specs.Messages.{sort_of}
use Rattle.pd_kind.specs.Hearing.{first_sort}
use Rattle.pd_panel.specs.Rows.{is_called, is_zero, flipped, heard}

-- the value that a toggle shows, and the one that it takes when it is turned on
pub record Values : Type 0 where
  pub value : ℤ
  pub other : ℤ

abbrev pub with_value : Values → ℤ → Values
with_value v z = record { value = z; other = v.other }

-- 0 is never the other value
abbrev pub with_other : Values → ℤ → Values
with_other v z = if is_zero z then v else record { value = v.value; other = z }

abbrev pub with_first : (Values → ℤ → Values) → Values → Option Atom → Values
with_first change v (Some (atom.Number z)) = change v z
with_first change v _ = v

abbrev pub step_other : Names → Values → ℕ → List Atom → Values
step_other names v selector atoms =
    if is_called names selector (codes "set") then with_first with_value v (slice_get atoms 0) else
    if is_called names selector (codes "nonzero") then with_first with_other v (slice_get atoms 0) else v

abbrev pub step_at : Names → Values → ℕ → List Atom → Sort → Values
step_at names v selector atoms (sort.Float z) = with_value v z
step_at names v selector atoms sort.Bang = with_value v (flipped v.value v.other)
step_at names v selector atoms sort.Other = step_other names v selector atoms
step_at names v selector atoms s = v

-- what one message does to the values
abbrev pub step : Names → Values → ℕ → List Atom → Values
step names v selector atoms = step_at names v selector atoms (first_sort (sort_of selector atoms) atoms)

pub record Given : Type 0 where
  pub selector : ℕ
  pub atoms : List Atom

abbrev pub values_after : Names → Values → List Given → Values
values_after names v [] = v
values_after names v (m ∷ messages) = values_after names (step names v m.selector m.atoms) messages

-- the state after a list of messages that the box hears one by one
abbrev pub state_after : Names → Kind → State → List Given → State
state_after names k s [] = s
state_after names k s (m ∷ messages) = state_after names k (heard names k s m.selector m.atoms).state messages

abbrev pub toggle_with : Values → Bool → State
toggle_with v saved = state.Toggle v.value v.other saved

-- hearing messages one by one is a fold over them
abbrev pub ToggleFolds : Type 0
ToggleFolds = (names : Names) (t : Toggle) (saved : Bool) (v : Values) (messages : List Given) →
    state_after names (kind.Panel (panel.Tgl t)) (toggle_with v saved) messages ≡ toggle_with (values_after names v messages) saved
