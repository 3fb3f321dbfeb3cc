-- Who owns a name.
use Rattle.std.specs.Prelude.{◌≡◌, ℕ, Bool, true, false, ◌&&◌, List, [], ◌∷◌, ◌++◌, map, nat_eq, Option, Some, None, option_and_then, ◌==◌, if◌then◌else◌}
use Rattle.std.specs.List.{filter}
use Rattle.slab.specs.Slab.{get}
use Rattle.pd_atom.specs.Names.{Names}
use Rattle.pd_name.specs.declared.Class.{Class}
use Rattle.pd_name.specs.declared.Class.TheVariants.{Receiver}
use Rattle.pd_name.specs.Rows.{Row, same_class, owners_of}
use Rattle.pd_tree.specs.Trees.{Cell, Trees}
use Rattle.pd_grove.specs.declared.nodes.Node.{Node}
use Rattle.pd_grove.specs.declared.grove.Grove.{Grove}
use Rattle.pd_grove.specs.declared.spots.Spot.{Spot}
use Rattle.pd_grove.specs.Telling.{inner_in}
use Rattle.pd_grove.specs.TextOrder.{Placed, placed_in_order, keys_of_spots, spots_in_order, cell_under}
use Rattle.pd_bind.specs.declared.owners.Owner.{Owner}
use Rattle.pd_bind.specs.declared.owners.Owner.TheVariants as owner
use Rattle.pd_bind.specs.Naming.{Owned, owned, canvas_symbol, owned_by}

-- the owner that stands for the root canvas
abbrev pub root_owner : ℕ
root_owner = 4294967295

abbrev pub is_owned : Class → ℕ → Option Owned → Bool
is_owned class name None = false
is_owned class name (Some o) = same_class class o.0 && nat_eq name o.1

-- the name that the box at a place of text order owns
abbrev pub owned_at : Names → (ℕ → Option Node) → Spot → Option Owned
owned_at names nodes p = option_and_then (λ c. owned_by names p.is_top c) (cell_under nodes p.node)

-- the boxes among these that own a name in a class
abbrev pub boxes_owning : Names → (ℕ → Option Node) → Class → ℕ → List Spot → List ℕ
boxes_owning names nodes class name spots = keys_of_spots (filter (λ p. is_owned class name (owned_at names nodes p)) spots)

abbrev pub owner_if : Bool → ℕ → List ℕ
owner_if true k = k ∷ []
owner_if false k = []

-- the root canvas, where it owns the name: it hears at `pd-` and its file's name
abbrev pub root_owning : Names → List ℕ → Class → ℕ → List ℕ
root_owning names file class name = owner_if (is_owned class name (owned Receiver (canvas_symbol names file))) root_owner

-- the owners of a name in a class: the root canvas, and then the boxes in text order
abbrev pub owners_in : Names → List ℕ → Grove → Class → ℕ → List ℕ
owners_in names file g class name = root_owning names file class name ++ boxes_owning names (get g.nodes) class name (spots_in_order g)

-- an owner goes last in the list of the name that it owns, and every other list stays
abbrev pub Binds : List Row → List Row → Option Owned → ℕ → Type 0
Binds old new o k = (class : Class) (name : ℕ) → owners_of new class name ≡ owners_of old class name ++ owner_if (is_owned class name o) k

-- a box that owns a name, in a tree
abbrev pub owns : Names → Class → ℕ → Placed → Bool
owns names class name p = is_owned class name (owned_by names p.is_top p.cell)

abbrev pub cells_of : List Placed → List Cell
cells_of ps = map (λ (p : Placed). p.cell) ps

-- the boxes of a tree that own a name in a class, in text order
abbrev pub cells_owning : Names → Class → ℕ → Trees → List Cell
cells_owning names class name t = cells_of (filter (owns names class name) (placed_in_order true t))

-- what an owner is
abbrev pub box_or_canvas : ℕ → Option ℕ → Owner
box_or_canvas k None = owner.Node k
box_or_canvas k (Some j) = owner.Canvas j

abbrev pub owner_in : Grove → ℕ → Owner
owner_in g k = if k == root_owner then owner.Canvas g.root else box_or_canvas k (inner_in (get g.nodes k))

-- Where a tree stands, the boxes that own a name are those of the tree.
abbrev pub OwnersAreOfTheTree : Names → Grove → Trees → Type 0
OwnersAreOfTheTree names g t = (class : Class) (name : ℕ) →
    map (cell_under (get g.nodes)) (boxes_owning names (get g.nodes) class name (spots_in_order g)) ≡ map (λ c. Some c) (cells_owning names class name t)
