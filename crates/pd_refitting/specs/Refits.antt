-- A box that becomes another one in its place, in a canvas of a running patch.
use Rattle.std.specs.Prelude.{◌≡◌, ◌≢◌, ◌⊎◌, ◌==◌, ◌&&◌, ℕ, Bool, true, false, not, cond, List, slice_get, Option, Some, None}
use Rattle.slab.specs.Slab.{get}
use Rattle.pd_atom.specs.Names.{Names}
use Rattle.pd_clock.specs.Queue.{without}
use Rattle.pd_object.specs.declared.kinds.Kind.{Kind}
use Rattle.pd_name.specs.declared.Class.{Class}
use Rattle.pd_name.specs.Rows.{Row, owners_of, spare_of}
use Rattle.pd_tree.specs.Ports.{is_made}
use Rattle.pd_tree.specs.Trees.{stand_of}
use Rattle.pd_grove.specs.declared.grove.Grove.{Grove}
use Rattle.pd_grove.specs.declared.nodes.Node.{Node}
use Rattle.pd_grove.specs.declared.seeds.Seed.{Seed}
use Rattle.pd_grove.specs.declared.ports.Side.{Side}
use Rattle.pd_grove.specs.Forest.{holder_in}
use Rattle.pd_grove.specs.Ports.{port_signal}
use Rattle.pd_grove.specs.Standing.{node_seen}
use Rattle.pd_bind.specs.Naming.{Owned, owned_by}
use Rattle.pd_bind.specs.Owning.{is_owned}
use Rattle.pd_grove.specs.declared.ports.Side.TheVariants.{Inlets, Outlets}
use Rattle.pd_web.specs.declared.jacks.Jack.{Jack}
use Rattle.pd_web.specs.declared.lines.Line.{Line}
use Rattle.pd_web.specs.declared.web.Hop.{Hop}
use Rattle.pd_web.specs.declared.web.Web.{Web}
use Rattle.pd_web.specs.Changes.{Meet}
use Rattle.pd_web.specs.Hops.{jack_told, port_told}
use Rattle.pd_web.specs.Jacks.{kind_jacks}
use Rattle.pd_web.specs.Sockets.{made_at}
use Rattle.pd_ports.specs.Boxes.{HasPorts}
use Rattle.pd_patch.specs.declared.patch.Patch.{Patch}
use Rattle.pd_patch.specs.Orders.{is_signal, HasOrder}
use Rattle.pd_patch.specs.Telling.{order_in}
use Rattle.pd_patch.specs.Values.{blocks_told, first_blocks}
use Rattle.pd_wiring.specs.Changes.{is_signal_line}
use Rattle.pd_taking.specs.Loosening.{hops_at, line_at}
use Rattle.pd_boxes.specs.Put.{node_of, CanPut, HasOwners, IsLeaf}
use Rattle.pd_boxes.specs.Rows.{PutsUnder}

-- a port of a box, where the box of the key is of this kind
abbrev pub jack_with : Web → ℕ → Kind → Side → ℕ → ℕ → Option Jack
jack_with w key k side node port = cond (node == key) (slice_get (kind_jacks side k) port) (jack_told w side node port)

-- whether a box is made, where the box of the key is of this kind
abbrev pub made_with : Web → ℕ → Kind → ℕ → Bool
made_with w key k node = cond (node == key) (is_made k) (made_at w.sockets.items node)

-- The wire along the line fits where the box of the key is of this kind: both ports are there, and it carries signals into no port without of a box
-- that is made. It is a signal wire then just where it is one now.
pub record StaysWire (w : Web) (key : ℕ) (k : Kind) (l : Line) : Type 0 where
  pub from : Jack
  pub to : Jack
  pub source : jack_with w key k Outlets l.source l.outlet ≡ Some from
  pub sink : jack_with w key k Inlets l.sink l.inlet ≡ Some to
  pub fits : (from.is_signal && (not to.is_signal && made_with w key k l.sink)) ≡ false
  pub same : (from.is_signal && to.is_signal) ≡ is_signal_line w l

-- the wires at a box are still wires where it is of this kind, and carry what they carry now
abbrev pub TakesWires : Web → ℕ → Kind → Type 0
TakesWires w key k = (side : Side) (port i : ℕ) (h : Hop) → slice_get (hops_at w side key port) i ≡ Some h → StaysWire w key k (line_at side key port h)

-- the box of a key is this one now, and all else stays
pub record Becomes (old new : Grove) (k : ℕ) (n : Node) : Type 0 where
  pub is : get new.nodes k ≡ Some n
  pub others : (l : ℕ) → l ≢ k → get new.nodes l ≡ get old.nodes l
  pub boards : new.boards ≡ old.boards
  pub labels : new.labels ≡ old.labels
  pub root : new.root ≡ old.root

-- a box of this kind in the canvas of a key is no port of a box around
abbrev pub IsPlainIn : Patch → ℕ → Kind → Type 0
IsPlainIn p c kind = (holder_in (get p.grove.boards c) ≡ None) ⊎ ((side : Side) → port_signal side kind ≡ None)

-- Under the key stands this box, which holds no canvas. The box of the seed holds none either, and the wires can stay. Neither is a port of a
-- box around.
pub record CanRefit (p : Patch) (key : ℕ) (n : Node) (s : Seed) : Type 0 where
  pub can : CanPut p
  pub is : get p.grove.nodes key ≡ Some n
  pub bare : n.inner ≡ None
  pub leaf : IsLeaf s
  pub wires : TakesWires p.web key s.row.kind
  pub meet : Meet p.web
  pub plain : IsPlainIn p n.board n.kind
  pub stays_plain : IsPlainIn p n.board s.row.kind

-- the owners of each name but these two stay, and so do their spare places
pub record OthersStay (old new : List Row) (o o' : Option Owned) : Type 0 where
  pub owners : (class : Class) (name : ℕ) → is_owned class name o ≡ false → is_owned class name o' ≡ false → owners_of new class name ≡ owners_of old class name
  pub spare : (class : Class) (name : ℕ) → is_owned class name o ≡ false → is_owned class name o' ≡ false → spare_of new class name ≡ spare_of old class name

-- the most looks at signal wires: eight where the new box stands in the signal order of its canvas and the old one did not
abbrev pub refit_looks : Kind → Kind → ℕ
refit_looks old new = cond (is_signal new && not (is_signal old)) 8 0

-- The box of a key is that of the seed now, at its place and with its wires; it has the ports of its kind. It is among the owners of the name
-- that it owns, and no owner of the name that the old one owned; it has silent blocks, and no clock. Its canvas has its order, and the other
-- canvases have the orders that they had. Of all else only room may differ.
pub record IsRefitted (p q : Patch) (table : Names) (key : ℕ) (n : Node) (s : Seed) : Type 0 where
  pub grove : Becomes p.grove q.grove key (node_of n.board s)
  pub ports : HasPorts p.web q.web key (λ side. kind_jacks side s.row.kind) (is_made s.row.kind)
  pub homes : (j : ℕ) → port_told q.web j ≡ port_told p.web j
  pub owners : (file : List ℕ) → HasOwners p table file → HasOwners q table file
  pub other_owners : OthersStay p.names q.names (owned_by table true (node_seen n).cell) (owned_by table true (stand_of s.row).cell)
  pub links : q.links ≡ p.links
  pub order : HasOrder q.grove q.web (get q.grove.boards n.board) (order_in q.orders.items n.board)
  pub other_orders : (c : ℕ) → c ≢ n.board → order_in q.orders.items c ≡ order_in p.orders.items c
  pub numbers : q.numbers ≡ p.numbers
  pub blocks : PutsUnder (blocks_told p) (blocks_told q) key (first_blocks q.web key)
  pub clocks : q.timers.clocks.clocks ≡ without key p.timers.clocks.clocks
  pub clock_room : q.timers.end ≡ p.timers.end
  pub rate : q.rate ≡ p.rate
  pub present : q.present ≡ p.present
