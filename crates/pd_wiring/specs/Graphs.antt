-- The signal wires of one canvas as a graph, by the links of the whole patch, and orders by it.
use Rattle.std.specs.Prelude.{◌≡◌, ◌<◌, ℕ, Bool, false, ◌==◌, cond, List, [], Option, Some, None}
use Rattle.slab.specs.Slab.{get}
use Rattle.pd_order.specs.Graph.{Graph, tally, IsLawful, IsOrder, cut_wire, add_wire}
use Rattle.pd_order.specs.Listing.{Listing}
use Rattle.pd_chain.specs.declared.graph.SignalWire.{SignalWire}
use Rattle.pd_links.specs.declared.links.Links.{Links}
use Rattle.pd_links.specs.Linked.{feeders_of, followers_of}
use Rattle.pd_grove.specs.declared.boards.Board.{Board}
use Rattle.pd_grove.specs.declared.grove.Grove.{Grove}
use Rattle.pd_grove.specs.Owning.{AreOwn, board_in}
use Rattle.pd_grove.specs.Labelled.{label_of}
use Rattle.pd_grove.specs.declared.ports.Side.{Side}
use Rattle.pd_web.specs.declared.web.Web.{Web}
use Rattle.pd_web.specs.Canvases.{keys_at}
use Rattle.pd_web.specs.Hops.{ports_told}
use Rattle.pd_web.specs.Jacks.{jacks_at}
use Rattle.pd_patch.specs.Linked.{HasLinks, StayInside}
use Rattle.pd_patch.specs.Orders.{signal_among}
use Rattle.pd_patch.specs.Telling.{order_in}
use Rattle.pd_wiring.specs.declared.graph.CanvasGraph.{CanvasGraph}
use Rattle.pd_wiring.specs.declared.mend.Change.{Change}
use Rattle.pd_wiring.specs.declared.mend.Change.TheVariants.{Came, Went}

abbrev pub is_key : ℕ → Option ℕ → Bool
is_key c None = false
is_key c (Some d) = d == c

-- whether a box lies in the canvas
abbrev pub lies_in : Grove → ℕ → ℕ → Bool
lies_in g c k = is_key c (board_in (get g.nodes k))

-- the boxes of a canvas that stand in its order
abbrev pub signal_boxes : Grove → ℕ → List ℕ
signal_boxes g c = signal_among g (keys_at g c)

-- a box's rank is its label, and a box of another canvas has no wire
abbrev pub canvas_graph : Grove → Links → ℕ → Graph
canvas_graph g l c = record {
  rank = λ x. label_of g x;
  feeders = λ x. cond (lies_in g c x) (feeders_of l x) [];
  followers = λ x. cond (lies_in g c x) (followers_of l x) [];
}

-- what a graph tells, and the boxes of its canvas that stand in the order
abbrev pub graph_told : CanvasGraph → Graph
graph_told s = canvas_graph s.grove.now s.links.now s.canvas

abbrev pub signal_told : CanvasGraph → List ℕ
signal_told s = signal_boxes s.grove.now s.canvas

-- a graph as it was before the wire came or went, and the graph that has the wire
abbrev pub graph_before : Change → Graph → SignalWire → Graph
graph_before Came g v = cut_wire g v.source v.sink
graph_before Went g v = add_wire g v.source v.sink

abbrev pub graph_with : Change → Graph → SignalWire → Graph
graph_with Came g v = g
graph_with Went g v = add_wire g v.source v.sink

-- what mending asks of a graph: that an order may ask it, that it has the wire where that came, and that the wire leads to a box of the order
pub record CanMend (s : CanvasGraph) (v : SignalWire) (change : Change) : Type 0 where
  pub lawful : IsLawful (graph_told s) (signal_told s)
  pub wire : change ≡ Came → 0 < tally v.source ((graph_told s).feeders v.sink)
  pub sink : 0 < tally v.sink (signal_told s)

-- what a canvas's graph rests on: boxes that lie in one canvas each, with their ports, wires that stay in their canvases, and the links that
-- are the signal wires
pub record AreWired (g : Grove) (w : Web) (l : Links) : Type 0 where
  pub own : AreOwn (get g.nodes) (get g.boards)
  pub ports : (side : Side) (k : ℕ) → ports_told w side k ≡ jacks_at side g k
  pub inside : StayInside g w
  pub linked : HasLinks w l

-- it is an order of these boxes
abbrev pub IsOrderIn : Graph → List ℕ → Option Listing → Type 0
IsOrderIn g nodes None = ⊥
IsOrderIn g nodes (Some o) = IsOrder g nodes o.chain o.stuck

-- a canvas that lives has the order that its links give, and no other has one
abbrev pub HasOrderBy : Graph → List ℕ → Option Board → Option Listing → Type 0
HasOrderBy g signal None o = o ≡ None
HasOrderBy g signal (Some b) o = IsOrderIn g signal o

abbrev pub AreOrderedBy : Grove → Links → List (Option Listing) → Type 0
AreOrderedBy g l orders = (c : ℕ) → HasOrderBy (canvas_graph g l c) (signal_boxes g c) (get g.boards c) (order_in orders c)
