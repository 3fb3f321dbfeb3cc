-- The signal orders of canvases where one box is missing.
use Rattle.std.specs.Prelude.{◌≡◌, ◌≢◌, ◌<◌, ◌-◌, ℕ, Bool, List, [], length, slice_get, Option}
use Rattle.slab.specs.Slab.{get}
use Rattle.pd_order.specs.Graph.{tally, take_out, IsAlone, IsLawful}
use Rattle.pd_order.specs.Listing.{Listing}
use Rattle.pd_links.specs.declared.links.Links.{Links}
use Rattle.pd_links.specs.Linked.{feeders_of, followers_of}
use Rattle.pd_grove.specs.declared.grove.Grove.{Grove}
use Rattle.pd_patch.specs.Telling.{order_in}
use Rattle.pd_wiring.specs.declared.graph.CanvasGraph.{CanvasGraph}
use Rattle.pd_wiring.specs.Graphs.{is_key, canvas_graph, signal_boxes, graph_told, signal_told, IsOrderIn, HasOrderBy}

-- no signal wire comes to the box or leads from it
pub record IsLoose (l : Links) (k : ℕ) : Type 0 where
  pub unfed : feeders_of l k ≡ []
  pub unfollowed : followers_of l k ≡ []

-- a canvas that lives has the order that its links give, and another one has none
abbrev pub IsOrdered : Grove → Links → List (Option Listing) → ℕ → Type 0
IsOrdered g l orders c = HasOrderBy (canvas_graph g l c) (signal_boxes g c) (get g.boards c) (order_in orders c)

-- a canvas has the order of its other boxes, and k is not in it
abbrev pub LacksBox : Grove → Links → List (Option Listing) → ℕ → ℕ → Type 0
LacksBox g l orders c k = IsOrderIn (canvas_graph g l c) (take_out k (signal_boxes g c)) (order_in orders c)

-- each canvas has its order, but in that of c the box k is missing
pub record AreOrderedBut (g : Grove) (l : Links) (orders : List (Option Listing)) (c k : ℕ) : Type 0 where
  pub lacks : LacksBox g l orders c k
  pub others : (d : ℕ) → d ≢ c → IsOrdered g l orders d

-- every canvas but one has the order that it had
abbrev pub StayBut : List (Option Listing) → List (Option Listing) → ℕ → Type 0
StayBut old new c = (d : ℕ) → d ≢ c → order_in new d ≡ order_in old d

-- whether the box stands last
abbrev pub is_last : List ℕ → ℕ → Bool
is_last keys k = is_key k (slice_get keys (length keys - 1))

-- a signal box of a canvas without wires, in a graph that an order may ask
pub record StandsAlone (s : CanvasGraph) (k : ℕ) : Type 0 where
  pub lawful : IsLawful (graph_told s) (signal_told s)
  pub alone : IsAlone (graph_told s) k
  pub there : 0 < tally k (signal_told s)

-- every other box of the order stands before this one
abbrev pub IsBehind : CanvasGraph → ℕ → Type 0
IsBehind s k = (x : ℕ) → 0 < tally x (take_out k (signal_told s)) → (graph_told s).rank x < (graph_told s).rank k
