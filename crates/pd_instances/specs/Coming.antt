-- What the calls of all layers tell by which a box comes with all that lies in it.
use Rattle.std.specs.Prelude.{◌≡◌, ◌<◌, ◌≤◌, ◌+◌, ℕ, List, [], ◌∷◌, ◌++◌, Option, Some, IsTrue}
use Rattle.slab.specs.Slab.{get}
use Rattle.pd_atom.specs.Names.{Names}
use Rattle.pd_order.specs.Listing.{Listing}
use Rattle.pd_tree.specs.Trees.{Trees, stands_of, width}
use Rattle.pd_grove.specs.declared.nodes.Node.{Node}
use Rattle.pd_grove.specs.declared.seeds.Seed.{Seed}
use Rattle.pd_grove.specs.Grafts.{HasPartMore}
use Rattle.pd_grove.specs.Planting.{one, seed_stand, stands_ready, Uses}
use Rattle.pd_grove.specs.Standing.{Stands, depth_of}
use Rattle.pd_bind.specs.Owning.{root_owner}
use Rattle.pd_owning.specs.Bound.{is_among, AreNew, AreOwnersBut}
use Rattle.pd_owning.specs.Parts.{part_keys, ArePart}
use Rattle.pd_web.specs.declared.web.Web.{Web}
use Rattle.pd_web.specs.Canvases.{keys_at}
use Rattle.pd_patch.specs.declared.patch.Patch.{Patch}
use Rattle.pd_patch.specs.Telling.{order_in}
use Rattle.pd_patch.specs.Values.{blocks_told}
use Rattle.pd_placing.specs.Placing.{StayBut}
use Rattle.pd_wiring.specs.Graphs.{canvas_graph, signal_boxes, AreWired, IsOrderIn}
use Rattle.pd_boxes.specs.declared.room.Place.{Place}
use Rattle.pd_boxes.specs.Put.{keys_before, keys_behind}
use Rattle.pd_boxes.specs.Rows.{NumbersFrom}
use Rattle.pd_instances.specs.Lay.{LaysLines}
use Rattle.pd_instances.specs.Layers.{NumbersAll, OpensAll, OrdersAll, PutsBlocks}
use Rattle.pd_instances.specs.Part.{lines_of, looks_of, AreFedOnce}

-- The tree grew; the new boxes got their ports, blocks, names and numbers; the box joined the order of its canvas; wires were laid, and the canvases
-- inside got their orders.
pub record PartLayers (p q : Patch) (table : Names) (place : Place) (s : Seed) (seeds : List Seed) (key : ℕ) (part : List ℕ) (steps steps' : ℕ) : Type 0 where
  pub grove : HasPartMore (get p.grove.nodes) (get q.grove.nodes) (get p.grove.boards) (get q.grove.boards) place.canvas key (keys_before p place) (keys_behind p place)
  pub stands : (t : Trees) → one (seed_stand s) (stands_ready seeds) ≡ stands_of t → width t ≡ 1 →
      Stands (get q.grove.nodes) (get q.grove.boards) place.canvas (depth_of (get p.grove.boards place.canvas)) (key ∷ []) t
  pub uses : Uses (get p.grove.nodes) (get q.grove.nodes) (s ∷ seeds) []
  pub kind : (n : Node) → get q.grove.nodes key ≡ Some n → n.kind ≡ s.row.kind
  pub root : q.grove.root ≡ p.grove.root
  pub is_part : ArePart (get q.grove.nodes) (get q.grove.boards) key part
  pub in_order : part ≡ part_keys (get q.grove.nodes) (get q.grove.boards) key
  pub once : AreNew part []
  pub low : (k : ℕ) → IsTrue (is_among part k) → k < root_owner
  pub opened : Web
  pub opens : OpensAll q.grove p.web opened part
  pub blocks : PutsBlocks q.grove (blocks_told p) (blocks_told q) part
  pub binds : (file : List ℕ) → AreOwnersBut p.names table file q.grove (part ++ []) → AreOwnersBut q.names table file q.grove []
  pub numbers : List ℕ
  pub outer_numbers : NumbersFrom p.numbers.items numbers (keys_at q.grove place.canvas) place.number
  pub own_numbers : NumbersAll q.grove numbers q.numbers.items part
  pub orders : List (Option Listing)
  pub outer_order : IsOrderIn (canvas_graph q.grove p.links place.canvas) (signal_boxes q.grove place.canvas) (order_in orders place.canvas)
  pub other_orders : StayBut p.orders.items orders place.canvas
  pub lays : LaysLines opened q.web (lines_of q.grove part)
  pub wired : AreWired q.grove q.web q.links
  pub fed : AreFedOnce q.web
  pub own_orders : OrdersAll q.grove q.links orders q.orders.items part
  pub looks : steps' ≤ steps + 8 + looks_of q.grove q.links part
  pub clocks : q.timers ≡ p.timers
  pub clock_room : (k : ℕ) → IsTrue (is_among part k) → k < q.timers.end
  pub rate : q.rate ≡ p.rate
  pub present : q.present ≡ p.present
