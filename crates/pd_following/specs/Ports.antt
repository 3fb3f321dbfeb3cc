-- A port box comes into a canvas that a box holds.
use Rattle.std.specs.Prelude.{◌≡◌, ◌≢◌, ℕ, Bool, false, Some, IsSome, unwrap_or}
use Rattle.slab.specs.Slab.{get}
use Rattle.pd_atom.specs.Names.{Names}
use Rattle.pd_object.specs.declared.kinds.Kind.{Kind}
use Rattle.pd_grove.specs.declared.grove.Grove.{Grove}
use Rattle.pd_grove.specs.declared.seeds.Seed.{Seed}
use Rattle.pd_grove.specs.declared.ports.Side.{Side}
use Rattle.pd_grove.specs.declared.ports.Side.TheVariants.{Inlets, Outlets}
use Rattle.pd_grove.specs.Forest.{holder_in}
use Rattle.pd_grove.specs.Ports.{port_signal}
use Rattle.pd_web.specs.declared.jacks.Jack.{Jack}
use Rattle.pd_web.specs.Changes.{Meet, wires_told}
use Rattle.pd_web.specs.Jacks.{jacks_at}
use Rattle.pd_ports.specs.Known.{KnowsHomes}
use Rattle.pd_ports.specs.Moves.{FollowsPorts}
use Rattle.pd_patch.specs.declared.patch.Patch.{Patch}
use Rattle.pd_patch.specs.Orders.{HasOrder}
use Rattle.pd_patch.specs.Telling.{order_in}
use Rattle.pd_patch.specs.Values.{blocks_told, first_blocks}
use Rattle.pd_boxes.specs.declared.room.Place.{Place}
use Rattle.pd_boxes.specs.Rows.{PutsUnder}
use Rattle.pd_boxes.specs.Put.{CanPut, ComesIn, IsLeaf}
use Rattle.pd_following.specs.Raising.{Raises}

-- whether a port of a kind carries signals
abbrev pub carries : Side → Kind → Bool
carries side kind = unwrap_or (port_signal side kind) false

-- the port that the box of a key is
abbrev pub port_jack : Side → Kind → ℕ → Jack
port_jack side kind key = record { is_signal = carries side kind; inner = Some key }

-- the place is in a canvas that the box of this key holds, and a box of the kind is a port of that box on this side
pub record IsPortAt (g : Grove) (place : Place) (kind : Kind) (holder : ℕ) (side : Side) : Type 0 where
  pub held : holder_in (get g.boards place.canvas) ≡ Some holder
  pub port : IsSome (port_signal side kind)

-- What a port box that comes asks of a patch: what every box does, wires that stand at both of their ports, and a box around.
pub record CanPutPort (p : Patch) (place : Place) (s : Seed) (holder : ℕ) (side : Side) : Type 0 where
  pub can : CanPut p
  pub meet : Meet p.web
  pub leaf : IsLeaf s
  pub at : IsPortAt p.grove place s.row.kind holder side

-- all but wires, blocks and orders stays
pub record RestStays (p q : Patch) : Type 0 where
  pub grove : q.grove ≡ p.grove
  pub names : q.names ≡ p.names
  pub links : q.links ≡ p.links
  pub numbers : q.numbers ≡ p.numbers
  pub clocks : q.timers ≡ p.timers
  pub rate : q.rate ≡ p.rate
  pub present : q.present ≡ p.present

-- the box around has silent blocks, as many as its outlets ask for now, where one of them came; every other block stays
abbrev pub BlocksFollow : Side → Patch → Patch → ℕ → Type 0
BlocksFollow Inlets p q holder = blocks_told q ≡ blocks_told p
BlocksFollow Outlets p q holder = PutsUnder (blocks_told p) (blocks_told q) holder (first_blocks q.web holder)

-- A port box is in at its place, as every box comes in. The box around has the port that it is, at its number among those of its side, and the
-- wires of the others are where their port boxes are. The canvas has its order with the box, and the other canvases have the orders that they
-- had.
pub record IsPortPut (p q : Patch) (table : Names) (place : Place) (s : Seed) (key holder : ℕ) (side : Side) : Type 0 where
  pub ready : Patch
  pub comes : ComesIn p ready table place s key
  pub rest : RestStays ready q
  pub number : ℕ
  pub follows : FollowsPorts ready.web q.web holder side (jacks_at side q.grove holder)
  pub raises : Raises ready.web q.web holder side number (port_jack side s.row.kind key)
  pub known : KnowsHomes q.web
  pub meet : Meet q.web
  pub wires : wires_told q.web ≡ wires_told p.web
  pub blocks : BlocksFollow side ready q holder
  pub order : HasOrder q.grove q.web (get q.grove.boards place.canvas) (order_in q.orders.items place.canvas)
  pub other_orders : (c : ℕ) → c ≢ place.canvas → order_in q.orders.items c ≡ order_in p.orders.items c
