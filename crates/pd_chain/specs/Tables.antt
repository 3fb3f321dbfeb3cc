-- A graph as tables have it.
use Rattle.std.specs.Prelude.{◌≡◌, ℕ, ◌<◌, List, slice_index}
use Rattle.pd_order.specs.Graph.{Graph, tally}
use Rattle.pd_chain.specs.declared.entries.Entry.{Entry}
use Rattle.pd_chain.specs.declared.graph.SignalWire.{SignalWire}
use Rattle.pd_chain.specs.Entries.{values_at}
use Rattle.pd_chain.specs.Wires.{place_of, sources_into, sinks_from}

-- places under boxes, sources under sinks, sinks under sources
pub record Tables : Type 0 where
  pub places : List Entry
  pub feeders : List Entry
  pub followers : List Entry

abbrev pub graph_in : Tables → Graph
graph_in t = record {
  rank = λ x. slice_index (values_at t.places x) 0;
  feeders = λ x. values_at t.feeders x;
  followers = λ x. values_at t.followers x;
}

-- a graph in which each node has the rank of its place, and the wires are these, in any order at each end
pub record Draws (g : Graph) (nodes : List ℕ) (wires : List SignalWire) : Type 0 where
  pub ranks : (x : ℕ) → 0 < tally x nodes → g.rank x ≡ place_of nodes x
  pub feeders : (x u : ℕ) → tally u (g.feeders x) ≡ tally u (sources_into wires x)
  pub followers : (x u : ℕ) → tally u (g.followers x) ≡ tally u (sinks_from wires x)
