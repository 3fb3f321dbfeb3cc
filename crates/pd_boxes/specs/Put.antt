-- A grown box without a canvas inside comes into a canvas of a running patch.
use Rattle.std.specs.Prelude.{◌≡◌, ◌≢◌, ◌<◌, ◌⊎◌, ℕ, true, List, take, drop, slice_get, Some, None}
use Rattle.slab.specs.Slab.{get}
use Rattle.pd_atom.specs.Names.{Names}
use Rattle.pd_object.specs.declared.kinds.Kind.{Kind}
use Rattle.pd_object.specs.Ports.{IsSmallKind}
use Rattle.pd_name.specs.declared.Class.{Class}
use Rattle.pd_name.specs.Rows.{owners_of}
use Rattle.pd_tree.specs.Ports.{is_made}
use Rattle.pd_tree.specs.Trees.{stand_of}
use Rattle.pd_grove.specs.declared.nodes.Node.{Node}
use Rattle.pd_grove.specs.declared.seeds.Seed.{Seed}
use Rattle.pd_grove.specs.declared.ports.Side.{Side}
use Rattle.pd_grove.specs.Forest.{IsForest, holder_in}
use Rattle.pd_grove.specs.Grafts.{HasBoxMore}
use Rattle.pd_grove.specs.Planting.{IsRoomy}
use Rattle.pd_grove.specs.Ports.{port_signal}
use Rattle.pd_bind.specs.Naming.{owned_by}
use Rattle.pd_bind.specs.Owning.{root_owner, owners_in}
use Rattle.pd_owning.specs.Bound.{OthersStay}
use Rattle.pd_web.specs.Canvases.{keys_at}
use Rattle.pd_web.specs.Hops.{port_told}
use Rattle.pd_web.specs.Jacks.{KindsSmall, kind_jacks}
use Rattle.pd_ports.specs.Boxes.{HasPorts}
use Rattle.pd_patch.specs.declared.patch.Patch.{Patch}
use Rattle.pd_patch.specs.Numbers.{AreUnder, IsOut}
use Rattle.pd_patch.specs.Orders.{HasOrder}
use Rattle.pd_patch.specs.Telling.{order_in}
use Rattle.pd_patch.specs.Values.{blocks_told, first_blocks}
use Rattle.pd_wiring.specs.Changes.{CanRewire}
use Rattle.pd_boxes.specs.declared.room.Place.{Place}
use Rattle.pd_boxes.specs.Rows.{PutsUnder}

-- the box that a seed becomes in a canvas, where it holds none
abbrev pub node_of : ℕ → Seed → Node
node_of c s =
    record { board = c; element = s.row.element; text = s.row.text; kind = s.row.kind; fault = s.row.fault; state = Some s.state; inner = None }

-- the seed is that of a box without a canvas inside
pub record IsLeaf (s : Seed) : Type 0 where
  pub no_sheet : s.row.sheet ≡ None
  pub no_boxes : s.row.boxes ≡ 0
  pub roomy : IsRoomy s
  pub small : IsSmallKind s.row.kind

-- What a box that comes asks of a patch: one tree of boxes, with their ports and numbers, and no box under the key that stands for the root canvas.
pub record CanPut (p : Patch) : Type 0 where
  pub forest : IsForest (get p.grove.nodes) (get p.grove.boards) p.grove.root
  pub small : KindsSmall p.grove
  pub apart : get p.grove.nodes root_owner ≡ None
  pub runs : CanRewire p

-- under each name stand its owners, in text order
abbrev pub HasOwners : Patch → Names → List ℕ → Type 0
HasOwners p table file = (class : Class) (name : ℕ) → owners_of p.names class name ≡ owners_in table file p.grove class name

-- the boxes of a canvas before the place, and those behind
abbrev pub keys_before : Patch → Place → List ℕ
keys_before p place = take place.number (keys_at p.grove place.canvas)

abbrev pub keys_behind : Patch → Place → List ℕ
keys_behind p place = drop place.number (keys_at p.grove place.canvas)

-- A box is in at its place, with the ports of its kind and no wires, with silent blocks, and with room for a clock. It is among the
-- owners of the name that it owns, and the boxes of its canvas have their numbers. Of all else only the orders may differ.
pub record ComesIn (p q : Patch) (table : Names) (place : Place) (s : Seed) (key : ℕ) : Type 0 where
  pub grove : HasBoxMore (get p.grove.nodes) (get q.grove.nodes) (get p.grove.boards) (get q.grove.boards) place.canvas key (node_of place.canvas s)
      (keys_before p place) (keys_behind p place)
  pub root : q.grove.root ≡ p.grove.root
  pub ports : HasPorts p.web q.web key (λ side. kind_jacks side s.row.kind) (is_made s.row.kind)
  pub homes : (j : ℕ) → port_told q.web j ≡ port_told p.web j
  pub owners : (file : List ℕ) → HasOwners p table file → HasOwners q table file
  pub other_owners : OthersStay p.names q.names (owned_by table true (stand_of s.row).cell)
  pub links : q.links ≡ p.links
  pub numbers : AreUnder q.numbers.items (keys_at q.grove place.canvas)
  pub other_numbers : (k : ℕ) → IsOut (keys_at q.grove place.canvas) k → slice_get q.numbers.items k ≡ slice_get p.numbers.items k
  pub blocks : PutsUnder (blocks_told p) (blocks_told q) key (first_blocks q.web key)
  pub clocks : q.timers ≡ p.timers
  pub clock_room : key < q.timers.end
  pub low : key < root_owner
  pub rate : q.rate ≡ p.rate
  pub present : q.present ≡ p.present

-- a box came in: its canvas has its order with it, and the other canvases have the orders that they had
pub record IsPut (p q : Patch) (table : Names) (place : Place) (s : Seed) (key : ℕ) : Type 0 where
  pub comes : ComesIn p q table place s key
  pub order : HasOrder q.grove q.web (get q.grove.boards place.canvas) (order_in q.orders.items place.canvas)
  pub other_orders : (c : ℕ) → c ≢ place.canvas → order_in q.orders.items c ≡ order_in p.orders.items c

-- a box of this kind is no port of a box around the canvas
abbrev pub IsNoPort : Patch → Place → Kind → Type 0
IsNoPort p place kind = (holder_in (get p.grove.boards place.canvas) ≡ None) ⊎ ((side : Side) → port_signal side kind ≡ None)
