-- A box goes from a canvas of a running patch, with all that lies in it and with its wires.
use Rattle.std.specs.Prelude.{◌≡◌, ◌≢◌, ◌≤◌, ◌+◌, ℕ, false, List, [], ◌∷◌, drop, filter, length, slice_get, Some, None, IsSome, IsTrue}
use Rattle.slab.specs.Slab.{get}
use Rattle.pd_atom.specs.Names.{Names}
use Rattle.pd_clock.specs.Queue.{Clock, without}
use Rattle.pd_clock.specs.declared.times.Rate.{Rate}
use Rattle.pd_owning.specs.Bound.{is_among, AreNew}
use Rattle.pd_owning.specs.Parts.{ArePart}
use Rattle.pd_grove.specs.declared.grove.Grove.{Grove}
use Rattle.pd_grove.specs.declared.nodes.Node.{Node}
use Rattle.pd_grove.specs.declared.spots.Spot.{Spot}
use Rattle.pd_grove.specs.TextOrder.{keys_of_spots, spots_in_order}
use Rattle.pd_grove.specs.declared.ports.Side.{Side}
use Rattle.pd_grove.specs.Grafts.{TakesBox}
use Rattle.pd_web.specs.declared.lines.Line.{Line}
use Rattle.pd_web.specs.Canvases.{keys_at}
use Rattle.pd_web.specs.Changes.{line_told, wires_told, Meet}
use Rattle.pd_web.specs.Hops.{fan_hops, feed_hops, port_told, ports_told}
use Rattle.pd_web.specs.Sockets.{made_at}
use Rattle.pd_ports.specs.Boxes.{HasNoWires}
use Rattle.pd_patch.specs.declared.patch.Patch.{Patch}
use Rattle.pd_patch.specs.Built.{IsBuilt}
use Rattle.pd_patch.specs.Numbers.{AreUnder, IsOut}
use Rattle.pd_patch.specs.Telling.{order_in}
use Rattle.pd_patch.specs.Values.{Blocks, block_at, blocks_told}
use Rattle.pd_boxes.specs.declared.room.Place.{Place}
use Rattle.pd_boxes.specs.Put.{CanPut, HasOwners, IsNoPort, keys_before}
use Rattle.pd_taking.specs.Loosening.{is_of_other}
use Rattle.pd_clearing.specs.Losing.{Lost, IsAtOne, AreLost, looks_for_all}

-- these are the box of a key and all boxes that lie in it, each once and as it stands in text order
pub record IsPartOf (g : Grove) (key : ℕ) (spots : List Spot) : Type 0 where
  pub are : ArePart (get g.nodes) (get g.boards) key (keys_of_spots spots)
  pub once : AreNew (keys_of_spots spots) []
  pub stand : (j : ℕ) (p : Spot) → slice_get spots j ≡ Some p → (i : ℕ) × (slice_get (spots_in_order g) i ≡ Some p)

-- the boxes of a canvas behind the one at the place
abbrev pub keys_past : Patch → Place → List ℕ
keys_past p place = drop (place.number + 1) (keys_at p.grove place.canvas)

-- the clocks of the other owners than these
abbrev pub without_all : List ℕ → List Clock → List Clock
without_all [] cs = cs
without_all (k ∷ keys) cs = without k (without_all keys cs)

-- no block is under these keys any more, and what is under other keys stays
pub record DropsAll (old new : Blocks) (part : List ℕ) : Type 0 where
  pub gone : (k outlet : ℕ) → IsTrue (is_among part k) → block_at new k outlet ≡ None
  pub others : (k : ℕ) → is_among part k ≡ false → slice_get new k ≡ slice_get old k

-- At the place stands a box that is no port of a box around.
pub record CanClear (p : Patch) (place : Place) (key : ℕ) : Type 0 where
  pub can : CanPut p
  pub is : slice_get (keys_at p.grove place.canvas) place.number ≡ Some key
  pub plain : (n : Node) → get p.grove.nodes key ≡ Some n → IsNoPort p place n.kind
  pub meet : Meet p.web

-- The wires of the boxes that are left: each list has those to other boxes than the one of the key, in their order and under their keys, and
-- no wire came. The boxes that went have none.
pub record KeepsOtherWires (p q : Patch) (key : ℕ) (part : List ℕ) : Type 0 where
  pub bare : (k : ℕ) → IsTrue (is_among part k) → HasNoWires q.web k
  pub fans : (k outlet : ℕ) → is_among part k ≡ false → fan_hops q.web k outlet ≡ filter (is_of_other key) (fan_hops p.web k outlet)
  pub feeds : (k inlet : ℕ) → is_among part k ≡ false → feed_hops q.web k inlet ≡ filter (is_of_other key) (feed_hops p.web k inlet)
  pub other_lines : (k : ℕ) (l : Line) → (IsAtOne part l → ⊥) → line_told p.web k ≡ Some l → line_told q.web k ≡ Some l
  pub none_comes : (k : ℕ) → line_told p.web k ≡ None → line_told q.web k ≡ None

-- the ports of the boxes that are left stay, and the boxes that went have none
pub record KeepsOtherPorts (p q : Patch) (part : List ℕ) : Type 0 where
  pub gone : (side : Side) (k : ℕ) → IsTrue (is_among part k) → ports_told q.web side k ≡ []
  pub ports : (side : Side) (k : ℕ) → is_among part k ≡ false → ports_told q.web side k ≡ ports_told p.web side k
  pub made : (k : ℕ) → is_among part k ≡ false → made_at q.web.sockets.items k ≡ made_at p.web.sockets.items k
  pub homes : (j : ℕ) → is_among part j ≡ false → port_told q.web j ≡ port_told p.web j

-- A box is gone from its place, with all that lay in it and with all wires at these boxes, which went one after the other, with so many looks
-- at signal wires. These boxes own no names any more and have no blocks and no clocks, and the boxes behind it have the numbers before theirs.
-- All else of the patch stays, but links and the order of the box's canvas. A patch that runs goes on to be one, ready for other boxes to come and go.
pub record IsCleared (p q : Patch) (table : Names) (place : Place) (key steps steps' : ℕ) : Type 0 where
  pub part : List ℕ
  pub is_part : ArePart (get p.grove.nodes) (get p.grove.boards) key part
  pub once : AreNew part []
  pub lost : List Lost
  pub loose : Patch
  pub one_by_one : AreLost part p lost loose
  pub looks : steps' ≤ steps + looks_for_all lost loose
  pub lines : (k : ℕ) → line_told q.web k ≡ line_told loose.web k
  pub feeds : (node inlet : ℕ) → feed_hops q.web node inlet ≡ feed_hops loose.web node inlet
  pub count : wires_told q.web + length lost ≡ wires_told p.web
  pub node : Node
  pub grove : TakesBox (get p.grove.nodes) (get q.grove.nodes) (get p.grove.boards) (get q.grove.boards) place.canvas key node (keys_before p place) (keys_past p place)
  pub root : q.grove.root ≡ p.grove.root
  pub wires : KeepsOtherWires p q key part
  pub ports : KeepsOtherPorts p q part
  pub owners : (file : List ℕ) → HasOwners p table file → HasOwners q table file
  pub numbers : (c : ℕ) → AreUnder q.numbers.items (keys_at q.grove c)
  pub other_numbers : (k : ℕ) → IsOut (keys_past p place) k → slice_get q.numbers.items k ≡ slice_get p.numbers.items k
  pub blocks : DropsAll (blocks_told p) (blocks_told q) part
  pub clocks : q.timers.clocks.clocks ≡ without_all part p.timers.clocks.clocks
  pub clock_room : q.timers.end ≡ p.timers.end
  pub orders : (c : ℕ) → c ≢ place.canvas → IsSome (get q.grove.boards c) → order_in q.orders.items c ≡ order_in p.orders.items c
  pub rate : q.rate ≡ p.rate
  pub present : q.present ≡ p.present
  pub can : CanPut q
  pub meet : Meet q.web
  pub built : (file : List ℕ) (rate : Rate) → IsBuilt p table file rate → IsBuilt q table file rate
