-- A grown box comes into a canvas of a running patch, with all that lies in it.
use Rattle.std.specs.Prelude.{◌≡◌, ◌≢◌, ◌<◌, ◌≤◌, ◌+◌, ◌*◌, ℕ, false, List, [], ◌∷◌, length, slice_get, Option, Some, None, IsSome, IsTrue}
use Rattle.std.specs.List.{flat_map}
use Rattle.slab.specs.Slab.{get}
use Rattle.pd_atom.specs.Names.{Names}
use Rattle.pd_clock.specs.declared.times.Rate.{Rate}
use Rattle.pd_order.specs.Graph.{total, ends}
use Rattle.pd_links.specs.declared.links.Links.{Links}
use Rattle.pd_tree.specs.Trees.{Trees, stands_of, width}
use Rattle.pd_grove.specs.declared.grove.Grove.{Grove}
use Rattle.pd_grove.specs.declared.ports.Side.{Side}
use Rattle.pd_grove.specs.declared.seeds.Seed.{Seed}
use Rattle.pd_grove.specs.Grafts.{HasPartMore}
use Rattle.pd_grove.specs.Owning.{board_in}
use Rattle.pd_grove.specs.Planting.{one, seed_stand, stands_ready, Uses}
use Rattle.pd_grove.specs.Standing.{Stands, depth_of}
use Rattle.pd_grove.specs.Telling.{inner_in}
use Rattle.pd_bind.specs.Owning.{root_owner}
use Rattle.pd_owning.specs.Bound.{is_among, AreNew}
use Rattle.pd_owning.specs.Parts.{part_keys, ArePart}
use Rattle.pd_web.specs.declared.lines.Line.{Line}
use Rattle.pd_web.specs.Canvases.{keys_at}
use Rattle.pd_web.specs.declared.web.Hop.{Hop}
use Rattle.pd_web.specs.declared.web.Web.{Web}
use Rattle.pd_web.specs.Changes.{hop_at, line_by, line_told, wires_told, Meet}
use Rattle.pd_web.specs.Homes.{IsPortOf}
use Rattle.pd_web.specs.Hops.{fan_hops, feed_hops, feed_keys, places_of, port_told, ports_told}
use Rattle.pd_web.specs.Jacks.{jacks_at, made_in}
use Rattle.pd_web.specs.Lines.{fed_from, feeding, lines_at}
use Rattle.pd_web.specs.Sockets.{made_at}
use Rattle.pd_ports.specs.Boxes.{HasNoWires}
use Rattle.pd_patch.specs.declared.patch.Patch.{Patch}
use Rattle.pd_patch.specs.Built.{IsBuilt}
use Rattle.pd_patch.specs.Numbers.{AreUnder, IsOut}
use Rattle.pd_patch.specs.Orders.{HasOrder}
use Rattle.pd_patch.specs.Telling.{order_in}
use Rattle.pd_patch.specs.Values.{blocks_told, first_blocks}
use Rattle.pd_wiring.specs.Graphs.{canvas_graph, signal_boxes}
use Rattle.pd_boxes.specs.declared.room.Place.{Place}
use Rattle.pd_boxes.specs.Put.{CanPut, HasOwners, keys_before, keys_behind}
use Rattle.pd_boxes.specs.Room.{SameButRoom}

-- the wires that fit of the canvas that a box holds, where it holds one
abbrev pub lines_held : Grove → Option ℕ → List Line
lines_held g None = []
lines_held g (Some c) = lines_at g c

abbrev pub lines_inside : Grove → ℕ → List Line
lines_inside g k = lines_held g (inner_in (get g.nodes k))

-- those of all canvases that these boxes hold
abbrev pub lines_of : Grove → List ℕ → List Line
lines_of g part = flat_map (lines_inside g) part

-- the most looks that it takes to make the order of a canvas from nothing: four for each of its signal boxes and each end of a signal wire
-- there, and eight
abbrev pub fold_looks : Grove → Links → ℕ → ℕ
fold_looks g l c = 4 * (length (signal_boxes g c) + total (ends (canvas_graph g l c)) (signal_boxes g c)) + 8

abbrev pub looks_held : Grove → Links → Option ℕ → ℕ
looks_held g l None = 0
looks_held g l (Some c) = fold_looks g l c

-- those for the canvases that these boxes hold
abbrev pub looks_of : Grove → Links → List ℕ → ℕ
looks_of g l part = total (λ k. looks_held g l (inner_in (get g.nodes k))) part

-- These boxes came, under keys that were of no box, and no others did: the box of the key with all that lies in it, each once.
pub record ComesAs (p q : Patch) (key : ℕ) (part : List ℕ) : Type 0 where
  pub is_part : ArePart (get q.grove.nodes) (get q.grove.boards) key part
  pub once : AreNew part []
  pub vacant : (k : ℕ) → IsTrue (is_among part k) → get p.grove.nodes k ≡ None
  pub live : (k : ℕ) → IsTrue (is_among part k) → IsSome (get q.grove.nodes k)
  pub only : (k : ℕ) → get p.grove.nodes k ≡ None → IsSome (get q.grove.nodes k) → IsTrue (is_among part k)

-- The boxes that came have the ports of their kinds or of the canvases in them, and of each that is a port it is known which. The other boxes
-- have the ports that they had, and are the ports that they were.
pub record HasPartPorts (p q : Patch) (part : List ℕ) : Type 0 where
  pub ports : (side : Side) (k : ℕ) → IsTrue (is_among part k) → ports_told q.web side k ≡ jacks_at side q.grove k
  pub made : (k : ℕ) → IsTrue (is_among part k) → made_at q.web.sockets.items k ≡ made_in (get q.grove.nodes k)
  pub homes : (j k i : ℕ) → IsTrue (is_among part j) → port_told q.web j ≡ Some (k, i) → IsPortOf q.grove j k i
  pub homes_found : (j k i : ℕ) → IsTrue (is_among part j) → IsPortOf q.grove j k i → IsSome (port_told q.web j)
  pub other_ports : (side : Side) (k : ℕ) → is_among part k ≡ false → ports_told q.web side k ≡ ports_told p.web side k
  pub others_made : (k : ℕ) → is_among part k ≡ false → made_at q.web.sockets.items k ≡ made_at p.web.sockets.items k
  pub other_homes : (j : ℕ) → is_among part j ≡ false → port_told q.web j ≡ port_told p.web j

-- Each canvas that came has the wires of its sheet that fit, in each fan-out and among the feeds of each inlet in their order. The box of the
-- key has none. Every other list of wires stays, and every wire under its key.
pub record HasPartWires (p q : Patch) (key : ℕ) (part : List ℕ) : Type 0 where
  pub bare : HasNoWires q.web key
  pub fans : (c k outlet : ℕ) → get p.grove.boards c ≡ None → board_in (get q.grove.nodes k) ≡ Some c →
      places_of (fan_hops q.web k outlet) ≡ fed_from k outlet (lines_at q.grove c)
  pub feeds : (c k inlet : ℕ) → get p.grove.boards c ≡ None → board_in (get q.grove.nodes k) ≡ Some c →
      places_of (feed_hops q.web k inlet) ≡ feeding k inlet (lines_at q.grove c)
  pub other_fans : (k outlet : ℕ) → is_among part k ≡ false → fan_hops q.web k outlet ≡ fan_hops p.web k outlet
  pub other_feeds : (k inlet : ℕ) → is_among part k ≡ false → feed_hops q.web k inlet ≡ feed_hops p.web k inlet
  pub lines : (k : ℕ) (l : Line) → line_told p.web k ≡ Some l → line_told q.web k ≡ Some l
  pub count : wires_told q.web ≡ wires_told p.web + length (lines_of q.grove part)

-- each wire stands once among the feeds of an inlet, the one to which it leads
pub record AreFedOnce (w : Web) : Type 0 where
  pub lines : (node inlet i : ℕ) (h : Hop) → slice_get (feed_hops w node inlet) i ≡ Some h → line_told w h.key ≡ Some (line_by h (hop_at h.key node inlet))
  pub once : (node inlet i j k : ℕ) → slice_get (feed_keys w node inlet) i ≡ Some k → slice_get (feed_keys w node inlet) j ≡ Some k → i ≡ j

-- the boxes that came have silent blocks, one for each outlet where one of them carries signals, and the blocks of other keys stay
pub record HasPartBlocks (p q : Patch) (part : List ℕ) : Type 0 where
  pub blocks : (k : ℕ) → IsTrue (is_among part k) → slice_get (blocks_told q) k ≡ Some (first_blocks q.web k)
  pub other_blocks : (k : ℕ) → is_among part k ≡ false → slice_get (blocks_told q) k ≡ slice_get (blocks_told p) k

-- The canvas around has its order with the box, and each canvas that came has its own; the other canvases have the orders that they had.
pub record HasPartOrders (p q : Patch) (place : Place) : Type 0 where
  pub order : HasOrder q.grove q.web (get q.grove.boards place.canvas) (order_in q.orders.items place.canvas)
  pub own_orders : (c : ℕ) → get p.grove.boards c ≡ None → HasOrder q.grove q.web (get q.grove.boards c) (order_in q.orders.items c)
  pub other_orders : (c : ℕ) → c ≢ place.canvas → IsSome (get p.grove.boards c) → order_in q.orders.items c ≡ order_in p.orders.items c

-- A box of the first seed came in at its place, with all that lies in it, made of the seeds that follow: the tree that they are stands
-- under keys, each box with what its seed keeps. These boxes have their ports, wires, numbers, blocks and room for clocks, and are among the owners
-- of the names that they own; the boxes behind it in its canvas have the numbers after theirs. All else of the patch stays, but links.
-- A patch that runs goes on to be one, ready for other boxes to come and go.
pub record IsPartPut (p q : Patch) (table : Names) (place : Place) (s : Seed) (seeds : List Seed) (key steps steps' : ℕ) : Type 0 where
  pub part : List ℕ
  pub comes : ComesAs p q key part
  pub in_order : part ≡ part_keys (get q.grove.nodes) (get q.grove.boards) key
  pub grove : HasPartMore (get p.grove.nodes) (get q.grove.nodes) (get p.grove.boards) (get q.grove.boards) place.canvas key (keys_before p place) (keys_behind p place)
  pub stands : (t : Trees) → one (seed_stand s) (stands_ready seeds) ≡ stands_of t → width t ≡ 1 →
      Stands (get q.grove.nodes) (get q.grove.boards) place.canvas (depth_of (get p.grove.boards place.canvas)) (key ∷ []) t
  pub uses : Uses (get p.grove.nodes) (get q.grove.nodes) (s ∷ seeds) []
  pub root : q.grove.root ≡ p.grove.root
  pub ports : HasPartPorts p q part
  pub wires : HasPartWires p q key part
  pub owners : (file : List ℕ) → HasOwners p table file → HasOwners q table file
  pub numbers : (c : ℕ) → AreUnder q.numbers.items (keys_at q.grove c)
  pub other_numbers : (k : ℕ) → is_among part k ≡ false → IsOut (keys_behind p place) k → slice_get q.numbers.items k ≡ slice_get p.numbers.items k
  pub blocks : HasPartBlocks p q part
  pub clocks : q.timers ≡ p.timers
  pub clock_room : (k : ℕ) → IsTrue (is_among part k) → k < q.timers.end
  pub low : (k : ℕ) → IsTrue (is_among part k) → k < root_owner
  pub orders : HasPartOrders p q place
  pub looks : steps' ≤ steps + 8 + looks_of q.grove q.links part
  pub rate : q.rate ≡ p.rate
  pub present : q.present ≡ p.present
  pub can : CanPut q
  pub meet : Meet p.web → Meet q.web
  pub fed : AreFedOnce q.web
  pub built : (file : List ℕ) (rate : Rate) → IsBuilt p table file rate → IsBuilt q table file rate

-- room was set aside, and then a box of a seed came in with all that lies in it
pub record AddsPart (old new : Patch) (table : Names) (place : Place) (s : Seed) (seeds : List Seed) (steps steps' key : ℕ) : Type 0 where
  pub ready : Patch
  pub room : SameButRoom old ready
  pub put : IsPartPut ready new table place s seeds key steps steps'
