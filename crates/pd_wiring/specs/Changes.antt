-- A running patch with one wire more or less.
use Rattle.std.specs.Prelude.{◌≡◌, ◌≢◌, ◌+◌, ◌*◌, ℕ, Bool, ◌&&◌, List, length, Option, Some, None, slice_get, option_map}
use Rattle.slab.specs.Slab.{get}
use Rattle.pd_atom.specs.Names.{Names}
use Rattle.pd_clock.specs.declared.times.Rate.{Rate}
use Rattle.pd_order.specs.Graph.{Graph, ends}
use Rattle.pd_order.specs.Spots.{nodes_of}
use Rattle.pd_order.specs.Window.{changed_places, changed_ends}
use Rattle.pd_order.specs.Listing.{Listing}
use Rattle.pd_links.specs.Linked.{SameLinks, TakesOne}
use Rattle.pd_grove.specs.Owning.{AreOwn, board_in}
use Rattle.pd_grove.specs.Telling.{with_state}
use Rattle.pd_grove.specs.declared.ports.Side.TheVariants.{Inlets, Outlets}
use Rattle.pd_web.specs.declared.web.Web.{Web}
use Rattle.pd_web.specs.declared.lines.Line.{Line}
use Rattle.pd_web.specs.Hops.{jack_told, signal_in, fan_hops}
use Rattle.pd_web.specs.Canvases.{keys_at}
use Rattle.pd_web.specs.Changes.{hop_at, HasRoom, IsSame}
use Rattle.pd_patch.specs.declared.patch.Patch.{Patch}
use Rattle.pd_patch.specs.Built.{IsBuilt, HasPorts}
use Rattle.pd_patch.specs.Linked.{HasLinks, StayInside}
use Rattle.pd_patch.specs.Numbers.{AreUnder}
use Rattle.pd_patch.specs.Orders.{AreOrdered}
use Rattle.pd_patch.specs.Telling.{order_in}
use Rattle.pd_wiring.specs.Graphs.{canvas_graph, AreOrderedBy}

-- What a wire more or less asks of a patch: boxes that lie in one canvas each, their ports and their numbers, wires that stay in their
-- canvases, the signal wires as links, and the signal order of each canvas.
pub record CanRewire (p : Patch) : Type 0 where
  pub own : AreOwn (get p.grove.nodes) (get p.grove.boards)
  pub ports : HasPorts p.grove p.web
  pub inside : StayInside p.grove p.web
  pub linked : HasLinks p.web p.links
  pub orders : AreOrdered p.grove p.web p.orders.items
  pub numbers : (c : ℕ) → AreUnder p.numbers.items (keys_at p.grove c)

-- But for what the boxes keep, and for names, clocks and blocks, the patches are alike.
pub record AreAlike (p q : Patch) : Type 0 where
  pub nodes : (k : ℕ) → option_map (with_state None) (get q.grove.nodes k) ≡ option_map (with_state None) (get p.grove.nodes k)
  pub boards : q.grove.boards ≡ p.grove.boards
  pub web : q.web ≡ p.web
  pub links : q.links ≡ p.links
  pub orders : q.orders ≡ p.orders
  pub numbers : q.numbers ≡ p.numbers

-- what a patch has as long as it runs, it still has
abbrev pub StaysBuilt : Patch → Patch → Type 0
StaysBuilt old new = (names : Names) (file : List ℕ) (rate : Rate) → IsBuilt old names file rate → IsBuilt new names file rate

-- the signal wires of a canvas of a patch, and the orders of all canvases by them
abbrev pub graph_in : Patch → ℕ → Graph
graph_in p c = canvas_graph p.grove p.links c

abbrev pub HasOrders : Patch → Type 0
HasOrders p = AreOrderedBy p.grove p.links p.orders.items

-- whether a line leads from an outlet that carries signals to an inlet that does
abbrev pub is_signal_line : Web → Line → Bool
is_signal_line w l = signal_in (jack_told w Outlets l.source l.outlet) && signal_in (jack_told w Inlets l.sink l.inlet)

-- there is room for a wire more along the line
pub record TakesWire (p : Patch) (l : Line) : Type 0 where
  pub web : HasRoom p.web 0 2 1
  pub links : TakesOne p.links l.source l.sink

-- all that a patch tells is as it was; there may be more room
pub record SameButRoom (old new : Patch) : Type 0 where
  pub grove : new.grove ≡ old.grove
  pub web : IsSame old.web new.web
  pub links : SameLinks old.links new.links
  pub names : new.names ≡ old.names
  pub timers : new.timers ≡ old.timers
  pub orders : new.orders ≡ old.orders
  pub numbers : new.numbers ≡ old.numbers
  pub values : new.values ≡ old.values
  pub rate : new.rate ≡ old.rate
  pub present : new.present ≡ old.present

-- an order has as many boxes as it had, and room for as many
pub record HasSamePlaces (old new : Listing) : Type 0 where
  pub spots : length new.spots ≡ length old.spots
  pub room : new.room ≡ old.room

abbrev pub SamePlaces : Option Listing → Option Listing → Type 0
SamePlaces None o = o ≡ None
SamePlaces (Some old) None = ⊥
SamePlaces (Some old) (Some new) = HasSamePlaces old new

-- what stays where a wire of this box came or went: all but wires, links and the order of the box's canvas, which keeps
-- its room
pub record StaysButWire (old new : Patch) (source : ℕ) : Type 0 where
  pub grove : new.grove ≡ old.grove
  pub names : new.names ≡ old.names
  pub timers : new.timers ≡ old.timers
  pub numbers : new.numbers ≡ old.numbers
  pub values : new.values ≡ old.values
  pub rate : new.rate ≡ old.rate
  pub present : new.present ≡ old.present
  pub orders : (c : ℕ) → board_in (get old.grove.nodes source) ≢ Some c → order_in new.orders.items c ≡ order_in old.orders.items c
  pub places : (c : ℕ) → SamePlaces (order_in old.orders.items c) (order_in new.orders.items c)

-- the wire of this key leads along the line
pub record LeadsAlong (w : Web) (key : ℕ) (l : Line) : Type 0 where
  pub place : ℕ
  pub stands : slice_get (fan_hops w l.source l.outlet) place ≡ Some (hop_at key l.sink l.inlet)

-- The most looks that it takes to mend an order where a wire into the box `sink` came or went, in the graph that has the wire: four for
-- each place between the first and the last at which the chains differ, for each end of a wire at the boxes there and at those that they
-- feed, and for each end of a wire at the sink, and eight.
abbrev pub mending : Graph → ℕ → Listing → Listing → ℕ
mending g sink old new = 4 * (changed_places old.chain new.chain + changed_ends g (nodes_of old.spots) old.chain new.chain) + 4 * ends g sink + 8

abbrev pub most_mending : Graph → ℕ → Option Listing → Option Listing → ℕ
most_mending g sink None new = 0
most_mending g sink (Some old) None = 0
most_mending g sink (Some old) (Some new) = mending g sink old new
