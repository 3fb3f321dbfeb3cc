-- The owners of names where some boxes are not bound, and room for more owners.
use Rattle.std.specs.Prelude.{◌≡◌, ◌<◌, ◌≤◌, ◌+◌, ◌^◌, ℕ, Bool, false, not, List, [], ◌∷◌, ◌++◌, length, Option, Some, None, nat_eq, slice_get, ◌⊎◌}
use Rattle.std.specs.List.{filter, list_any}
use Rattle.slab.specs.Slab.{get}
use Rattle.pd_atom.specs.Names.{Names}
use Rattle.pd_name.specs.declared.Class.{Class}
use Rattle.pd_name.specs.Rows.{Row, owners_of, spare_of}
use Rattle.pd_grove.specs.declared.grove.Grove.{Grove}
use Rattle.pd_grove.specs.TextOrder.{keys_in_order}
use Rattle.pd_bind.specs.Naming.{Owned}
use Rattle.pd_bind.specs.Owning.{is_owned, owners_in}

-- whether a key is one of these
abbrev pub is_among : List ℕ → ℕ → Bool
is_among keys k = list_any (nat_eq k) keys

-- these keys but for some
abbrev pub but : List ℕ → List ℕ → List ℕ
but away keys = filter (λ k. not (is_among away k)) keys

-- each of these keys stands once among them, and is none of those that are away
abbrev pub AreNew : List ℕ → List ℕ → Type 0
AreNew [] away = Unit {0}
AreNew (k ∷ keys) away = (is_among (keys ++ away) k ≡ false) × AreNew keys away

-- each name has the owners that it has in the patch, but for these boxes, which are not bound
abbrev pub AreOwnersBut : List Row → Names → List ℕ → Grove → List ℕ → Type 0
AreOwnersBut names table file g away = (class : Class) (name : ℕ) → owners_of names class name ≡ but away (owners_in table file g class name)

-- so many more owners of a name can be bound without memory, and are no more than there are keys
abbrev pub HasRoom : List Row → Option Owned → ℕ → Type 0
HasRoom names None n = Unit {0}
HasRoom names (Some o) n = (n ≤ spare_of names o.0 o.1) × (length (owners_of names o.0 o.1) + n ≤ 2 ^ 32)

-- the owners of each name but this one stay, and so do their spare places
pub record OthersStay (old new : List Row) (o : Option Owned) : Type 0 where
  pub owners : (class : Class) (name : ℕ) → is_owned class name o ≡ false → owners_of new class name ≡ owners_of old class name
  pub spare : (class : Class) (name : ℕ) → is_owned class name o ≡ false → spare_of new class name ≡ spare_of old class name

-- of two keys in a list a stands before b
pub record Precedes (keys : List ℕ) (a b : ℕ) : Type 0 where
  pub first : ℕ
  pub second : ℕ
  pub at : slice_get keys first ≡ Some a
  pub other_at : slice_get keys second ≡ Some b
  pub less : first < second

-- an owner is the root canvas, under whose number no box lives, or a box that comes before this one
abbrev pub IsAhead : Grove → ℕ → ℕ → Type 0
IsAhead g node owner = (get g.nodes owner ≡ None) ⊎ Precedes (keys_in_order g) owner node
