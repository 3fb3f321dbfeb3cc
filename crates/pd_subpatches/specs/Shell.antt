-- A grown box with an empty canvas inside comes into a canvas of a running patch.
use Rattle.std.specs.Prelude.{◌≡◌, ◌≢◌, ◌<◌, ◌≤◌, ◌+◌, ℕ, true, List, [], length, slice_get, Some, IsSome}
use Rattle.slab.specs.Slab.{get}
use Rattle.pd_atom.specs.Names.{Names}
use Rattle.pd_object.specs.declared.kinds.Kind.TheVariants as kind
use Rattle.pd_tree.specs.Trees.{stand_of}
use Rattle.pd_grove.specs.declared.boards.Board.{Board}
use Rattle.pd_grove.specs.declared.seeds.Seed.{Seed}
use Rattle.pd_grove.specs.Planting.{IsRoomy}
use Rattle.pd_grove.specs.Standing.{depth_of}
use Rattle.pd_bind.specs.Naming.{owned_by}
use Rattle.pd_bind.specs.Owning.{root_owner}
use Rattle.pd_owning.specs.Bound.{OthersStay}
use Rattle.pd_web.specs.Canvases.{keys_at}
use Rattle.pd_web.specs.Hops.{port_told}
use Rattle.pd_ports.specs.Boxes.{HasPorts}
use Rattle.pd_patch.specs.declared.patch.Patch.{Patch}
use Rattle.pd_patch.specs.Numbers.{AreUnder, IsOut}
use Rattle.pd_patch.specs.Orders.{HasOrder}
use Rattle.pd_patch.specs.Telling.{order_in}
use Rattle.pd_patch.specs.Values.{blocks_told}
use Rattle.pd_placing.specs.Room.{IsEmptyOrder}
use Rattle.pd_boxes.specs.declared.room.Place.{Place}
use Rattle.pd_boxes.specs.declared.room.Room.{Room}
use Rattle.pd_boxes.specs.Rows.{PutsUnder}
use Rattle.pd_boxes.specs.Room.{SameButRoom, TakesBox}
use Rattle.pd_boxes.specs.Put.{node_of, keys_before, keys_behind, HasOwners}
use Rattle.pd_subpatches.specs.Grove.{HasShellMore}

-- the seed is that of a box that holds a canvas without boxes
pub record IsShell (s : Seed) : Type 0 where
  pub sheet : IsSome s.row.sheet
  pub no_boxes : s.row.boxes ≡ 0
  pub canvas : s.row.kind ≡ kind.Canvas
  pub roomy : IsRoomy s

-- a canvas may lie in the canvas at the place
abbrev pub IsShallow : Patch → Place → Type 0
IsShallow p place = depth_of (get p.grove.boards place.canvas) + 1 < 257

-- the box of the room comes into its canvas without taking memory, and so does the order of the canvas that it holds
pub record TakesShell (p : Patch) (room : Room) (table : Names) : Type 0 where
  pub box : TakesBox p room table
  pub orders : p.grove.boards.capacity ≤ length p.orders.items

-- A box is in at its place, with the canvas that it holds, which has its sheet and no boxes. It has no ports, wires or blocks, and has room for
-- a clock. It is among the owners of the name that it owns, and the boxes of its canvas have their numbers. Of all else only the orders
-- may differ.
pub record ShellComesIn (p q : Patch) (table : Names) (place : Place) (s : Seed) (key : ℕ) : Type 0 where
  pub canvas : ℕ
  pub board : Board
  pub grove : HasShellMore (get p.grove.nodes) (get q.grove.nodes) (get p.grove.boards) (get q.grove.boards) place.canvas key canvas (node_of place.canvas s) board
      (keys_before p place) (keys_behind p place)
  pub sheet : s.row.sheet ≡ Some board.sheet
  pub root : q.grove.root ≡ p.grove.root
  pub ports : HasPorts p.web q.web key (λ side. []) true
  pub homes : (j : ℕ) → port_told q.web j ≡ port_told p.web j
  pub owners : (file : List ℕ) → HasOwners p table file → HasOwners q table file
  pub other_owners : OthersStay p.names q.names (owned_by table true (stand_of s.row).cell)
  pub links : q.links ≡ p.links
  pub numbers : AreUnder q.numbers.items (keys_at q.grove place.canvas)
  pub other_numbers : (k : ℕ) → IsOut (keys_at q.grove place.canvas) k → slice_get q.numbers.items k ≡ slice_get p.numbers.items k
  pub blocks : PutsUnder (blocks_told p) (blocks_told q) key []
  pub clocks : q.timers ≡ p.timers
  pub clock_room : key < q.timers.end
  pub low : key < root_owner
  pub rate : q.rate ≡ p.rate
  pub present : q.present ≡ p.present

-- a box came in with the canvas that it holds: the canvas around has its order with the box, the one inside has an order of no boxes, and the
-- other canvases have the orders that they had
pub record IsShellPut (p q : Patch) (table : Names) (place : Place) (s : Seed) (key : ℕ) : Type 0 where
  pub comes : ShellComesIn p q table place s key
  pub order : HasOrder q.grove q.web (get q.grove.boards place.canvas) (order_in q.orders.items place.canvas)
  pub own_order : IsEmptyOrder (order_in q.orders.items comes.canvas)
  pub other_orders : (c : ℕ) → c ≢ place.canvas → c ≢ comes.canvas → order_in q.orders.items c ≡ order_in p.orders.items c

-- room was set aside, and then a box of a seed came in with the canvas that it holds
pub record AddsShell (old new : Patch) (table : Names) (place : Place) (s : Seed) (key : ℕ) : Type 0 where
  pub ready : Patch
  pub room : SameButRoom old ready
  pub put : IsShellPut ready new table place s key
