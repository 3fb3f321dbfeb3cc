-- A canvas by the numbers of its boxes, whatever their keys.
use Rattle.std.specs.Prelude.{◌≡◌, ℕ, List, map}
use Rattle.pd_order.specs.Graph.{Graph, tally, IsOrder}
use Rattle.pd_chain.specs.declared.graph.SignalWire.{SignalWire}
use Rattle.pd_chain.specs.Wires.{place_of, sources_into, sinks_from, graph_of}

abbrev pub numbers_of : List ℕ → List ℕ → List ℕ
numbers_of nodes keys = map (place_of nodes) keys

-- a wire by the numbers of its boxes
abbrev pub by_number : List ℕ → SignalWire → SignalWire
by_number nodes w = record { source = place_of nodes w.source; sink = place_of nodes w.sink }

-- the graph of the numbers, each its own rank
abbrev pub graph_by_number : List ℕ → List SignalWire → Graph
graph_by_number nodes wires = record {
  rank = λ x. x;
  feeders = λ x. sources_into (map (by_number nodes) wires) x;
  followers = λ x. sinks_from (map (by_number nodes) wires) x;
}

-- two canvases have the same signal boxes and the same wires by number, in any order
pub record SameByNumber (nodes signal : List ℕ) (wires : List SignalWire) (nodes' signal' : List ℕ) (wires' : List SignalWire) : Type 0 where
  pub boxes : (n : ℕ) → tally n (numbers_of nodes signal) ≡ tally n (numbers_of nodes' signal')
  pub feeders : (n m : ℕ) → tally m ((graph_by_number nodes wires).feeders n) ≡ tally m ((graph_by_number nodes' wires').feeders n)

-- their orders list the same numbers
abbrev pub OrdersAgree : List ℕ → List ℕ → List SignalWire → List ℕ → List ℕ → List SignalWire → Type 0
OrdersAgree nodes signal wires nodes' signal' wires' = (chain stuck chain' stuck' : List ℕ) → IsOrder (graph_of nodes wires) signal chain stuck → IsOrder (graph_of nodes' wires') signal' chain' stuck' →
    (numbers_of nodes chain ≡ numbers_of nodes' chain') × (numbers_of nodes stuck ≡ numbers_of nodes' stuck')
