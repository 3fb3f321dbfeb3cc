-- A port box that moves in the canvas of a box.
use Rattle.std.specs.Prelude.{◌≡◌, ℕ, ℤ, List, slice_get, Some}
use Rattle.slab.specs.Slab.{get}
use Rattle.pd_grove.specs.declared.nodes.Node.{Node}
use Rattle.pd_grove.specs.declared.ports.Side.{Side}
use Rattle.pd_grove.specs.declared.ports.Side.TheVariants.{Outlets}
use Rattle.pd_grove.specs.Refits.{at_place, Alters}
use Rattle.pd_web.specs.declared.web.Hop.{Hop}
use Rattle.pd_web.specs.declared.web.Web.{Web}
use Rattle.pd_web.specs.Changes.{line_by, line_told, hop_at, wires_told, Meet}
use Rattle.pd_web.specs.Hops.{ports_told, port_told, feed_keys, feed_hops}
use Rattle.pd_web.specs.Jacks.{jacks_at}
use Rattle.pd_seek.specs.Places.{label_at, AreInOrder}
use Rattle.pd_ports.specs.Known.{KnowsHomes}
use Rattle.pd_patch.specs.declared.patch.Patch.{Patch}
use Rattle.pd_patch.specs.Values.{block_count}
use Rattle.pd_boxes.specs.declared.room.Place.{Place}
use Rattle.pd_boxes.specs.Put.{CanPut}
use Rattle.pd_following.specs.Ports.{IsPortAt}
use Rattle.pd_sliding.specs.Slides.{inlet_slid, Slides}

-- Under the key stands a box which is this port of the box around.
pub record CanSlide (p : Patch) (key holder : ℕ) (side : Side) (from : ℕ) : Type 0 where
  pub can : CanPut p
  pub meet : Meet p.web
  pub node : Node
  pub stands : get p.grove.nodes key ≡ Some node
  pub place : Place
  pub canvas : place.canvas ≡ node.board
  pub at : IsPortAt p.grove place node.kind holder side
  pub numbered : port_told p.web key ≡ Some (holder, from)

-- all but the tree and the wires stays
pub record StaysButPorts (p q : Patch) : Type 0 where
  pub names : q.names ≡ p.names
  pub timers : q.timers ≡ p.timers
  pub links : q.links ≡ p.links
  pub orders : q.orders ≡ p.orders
  pub numbers : q.numbers ≡ p.numbers
  pub values : q.values ≡ p.values
  pub rate : q.rate ≡ p.rate
  pub present : q.present ≡ p.present

-- each wire stands once among the feeds of an inlet, the one to which it leads
pub record AreFedOnce (w : Web) : Type 0 where
  pub lines : (node inlet i : ℕ) (h : Hop) → slice_get (feed_hops w node inlet) i ≡ Some h → line_told w h.key ≡ Some (line_by h (hop_at h.key node inlet))
  pub once : (node inlet i j k : ℕ) → slice_get (feed_keys w node inlet) i ≡ Some k → slice_get (feed_keys w node inlet) j ≡ Some k → i ≡ j

-- of the boxes from which these feeds come no other one has the label of this box
abbrev pub HaveOwnLabel : List ℕ → List Hop → ℕ → Type 0
HaveOwnLabel labels feeds key = (i : ℕ) (h : Hop) → slice_get feeds i ≡ Some h → label_at labels h.node ≡ label_at labels key → h.node ≡ key

-- The port box stands at another place of its canvas's window. The box around has the ports that this canvas has now: the port that was the first
-- of two numbers is the second, and those between have made way, with their wires. Feeds that were in order by the numbers of their boxes are. All
-- else of the patch stays, and each box asks for as many blocks as it did.
pub record IsSlid (p q : Patch) (key holder : ℕ) (side : Side) (x y : ℤ) (from to : ℕ) : Type 0 where
  pub box : Alters p.grove q.grove key (at_place x y)
  pub slides : Slides p.web q.web holder side from to
  pub in_order : (n i : ℕ) → HaveOwnLabel p.numbers.items (feed_hops p.web n i) holder → AreInOrder p.numbers.items (feed_hops p.web n i)
      → AreInOrder p.numbers.items (feed_hops q.web n (inlet_slid side holder from to n i))
  pub now : ports_told q.web side holder ≡ jacks_at side q.grove holder
  pub numbered : port_told q.web key ≡ Some (holder, to)
  pub known : KnowsHomes q.web
  pub meet : Meet q.web
  pub fed : AreFedOnce q.web
  pub wires : wires_told q.web ≡ wires_told p.web
  pub blocks : (k : ℕ) → block_count (ports_told q.web Outlets k) ≡ block_count (ports_told p.web Outlets k)
  pub rest : StaysButPorts p q
  pub can : CanPut q
