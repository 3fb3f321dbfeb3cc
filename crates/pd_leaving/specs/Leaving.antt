-- A port box goes from a canvas that a box holds.
use Rattle.std.specs.Prelude.{◌≡◌, ◌≢◌, ◌<◌, ℕ, false, List, [], length, slice_get, Some, None, IsSome}
use Rattle.slab.specs.Slab.{get}
use Rattle.pd_atom.specs.Names.{Names}
use Rattle.pd_clock.specs.Queue.{without}
use Rattle.pd_clock.specs.declared.times.Rate.{Rate}
use Rattle.pd_grove.specs.declared.nodes.Node.{Node}
use Rattle.pd_grove.specs.declared.ports.Side.{Side}
use Rattle.pd_grove.specs.Grafts.{TakesBox}
use Rattle.pd_grove.specs.Owning.{board_in}
use Rattle.pd_web.specs.declared.jacks.Jack.{Jack}
use Rattle.pd_web.specs.Canvases.{keys_at}
use Rattle.pd_web.specs.Changes.{wires_told, Meet}
use Rattle.pd_web.specs.Hops.{port_told}
use Rattle.pd_web.specs.Jacks.{jacks_at}
use Rattle.pd_ports.specs.Boxes.{HasPorts, but_of}
use Rattle.pd_ports.specs.Known.{KnowsHomes}
use Rattle.pd_ports.specs.Moves.{FollowsPorts}
use Rattle.pd_patch.specs.declared.patch.Patch.{Patch}
use Rattle.pd_patch.specs.Built.{IsBuilt}
use Rattle.pd_patch.specs.Numbers.{AreUnder, IsOut}
use Rattle.pd_patch.specs.Telling.{order_in}
use Rattle.pd_patch.specs.Values.{blocks_told}
use Rattle.pd_boxes.specs.declared.room.Place.{Place}
use Rattle.pd_boxes.specs.Put.{CanPut, HasOwners, keys_before}
use Rattle.pd_boxes.specs.Rows.{PutsUnder}
use Rattle.pd_taking.specs.Loosening.{Loosens, LosesWires}
use Rattle.pd_misfits.specs.Shedding.{Sheds}
use Rattle.pd_clearing.specs.Clearing.{keys_past}
use Rattle.pd_following.specs.Ports.{BlocksFollow, IsPortAt, RestStays, port_jack}
use Rattle.pd_following.specs.Raising.{Raises}
use Rattle.pd_leaving.specs.Wires.{port_wires}

-- At the place stands a box without a canvas inside, which is this port of the box around. Each box has a place for its blocks.
pub record CanTakePort (p : Patch) (place : Place) (key holder : ℕ) (side : Side) (port : ℕ) : Type 0 where
  pub can : CanPut p
  pub meet : Meet p.web
  pub is : slice_get (keys_at p.grove place.canvas) place.number ≡ Some key
  pub node : Node
  pub stands : get p.grove.nodes key ≡ Some node
  pub leaf : node.inner ≡ None
  pub at : IsPortAt p.grove place node.kind holder side
  pub numbered : port_told p.web key ≡ Some (holder, port)
  pub reached : (k : ℕ) → IsSome (get p.grove.nodes k) → k < length p.values.items

-- A box without wires and without a canvas inside is out of its canvas, with its own ports, its blocks and its clock. It is among no owners, and
-- the boxes behind it have the numbers before theirs. Of all else only the orders may differ.
pub record GoesOut (p q : Patch) (table : Names) (place : Place) (key : ℕ) : Type 0 where
  pub node : Node
  pub grove : TakesBox (get p.grove.nodes) (get q.grove.nodes) (get p.grove.boards) (get q.grove.boards) place.canvas key node (keys_before p place) (keys_past p place)
  pub root : q.grove.root ≡ p.grove.root
  pub ports : HasPorts p.web q.web key (λ _. []) false
  pub homes : (j : ℕ) → port_told q.web j ≡ but_of key (port_told p.web j)
  pub owners : (file : List ℕ) → HasOwners p table file → HasOwners q table file
  pub links : q.links ≡ p.links
  pub numbers : AreUnder q.numbers.items (keys_at q.grove place.canvas)
  pub other_numbers : (k : ℕ) → IsOut (keys_past p place) k → slice_get q.numbers.items k ≡ slice_get p.numbers.items k
  pub blocks : PutsUnder (blocks_told p) (blocks_told q) key []
  pub clocks : q.timers.clocks.clocks ≡ without key p.timers.clocks.clocks
  pub clock_room : q.timers.end ≡ p.timers.end
  pub other_orders : (c : ℕ) → c ≢ place.canvas → order_in q.orders.items c ≡ order_in p.orders.items c
  pub rate : q.rate ≡ p.rate
  pub present : q.present ≡ p.present

-- The box around has the port no more: where a port box comes back at that number, its web is that before again, so those behind it have the
-- numbers before theirs, and their wires went with them, in their order and under their keys. It has silent blocks, as many as its outlets ask
-- for now, where an outlet went.
pub record LeavesPort (p q : Patch) (holder : ℕ) (side : Side) (port : ℕ) (jack : Jack) : Type 0 where
  pub rest : RestStays p q
  pub orders : q.orders ≡ p.orders
  pub follows : FollowsPorts p.web q.web holder side (jacks_at side q.grove holder)
  pub lowers : Raises q.web p.web holder side port jack
  pub known : KnowsHomes q.web
  pub meet : Meet q.web
  pub wires : wires_told q.web ≡ wires_told p.web
  pub blocks : BlocksFollow side p q holder

-- A port box is gone from its place. First the wires at the port that it was went, in their order, each with the mend that the order of the canvas around
-- needs, then its own wires, then the box in every layer, and then the port. The orders of other canvases than these two stay. A patch that runs
-- goes on to be one, ready for other boxes to come and go.
pub record IsPortTaken (p q : Patch) (table : Names) (place : Place) (key holder : ℕ) (side : Side) (port steps steps' : ℕ) : Type 0 where
  pub loose : Patch
  pub between : ℕ
  pub loosens : Loosens p loose holder steps between
  pub sheds : Sheds p.web loose.web (port_wires p holder side port)
  pub ready : Patch
  pub own : Loosens loose ready key between steps'
  pub own_wires : LosesWires loose.web ready.web key
  pub out : Patch
  pub goes : GoesOut ready out table place key
  pub leaves : LeavesPort out q holder side port (port_jack side goes.node.kind key)
  pub orders : (c : ℕ) → c ≢ place.canvas → board_in (get p.grove.nodes holder) ≢ Some c → order_in q.orders.items c ≡ order_in p.orders.items c
  pub can : CanPut q
  pub built : (file : List ℕ) (rate : Rate) → IsBuilt p table file rate → IsBuilt q table file rate
