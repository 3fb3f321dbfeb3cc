-- The graph of a canvas's boxes and signal wires.
use Rattle.std.specs.Prelude.{ℕ, ◌+◌, ◌<◌, ◌≤◌, ◌==◌, cond, List, [], ◌∷◌, map}
use Rattle.pd_order.specs.Graph.{Graph, tally}
use Rattle.pd_chain.specs.declared.entries.Entry.{Entry}
use Rattle.pd_chain.specs.declared.graph.SignalWire.{SignalWire}

-- the first place of x, counted from 0, which is one behind the last where x isn't there
abbrev pub place_of : List ℕ → ℕ → ℕ
place_of [] x = 0
place_of (n ∷ ns) x = cond (n == x) 0 (place_of ns x + 1)

-- where the wires into x come from
abbrev pub sources_into : List SignalWire → ℕ → List ℕ
sources_into [] x = []
sources_into (w ∷ ws) x = cond (w.sink == x) (w.source ∷ sources_into ws x) (sources_into ws x)

-- where the wires out of x lead
abbrev pub sinks_from : List SignalWire → ℕ → List ℕ
sinks_from [] x = []
sinks_from (w ∷ ws) x = cond (w.source == x) (w.sink ∷ sinks_from ws x) (sinks_from ws x)

-- the nodes are the keys of the boxes in the order of their numbers, and a box's number is its rank
abbrev pub graph_of : List ℕ → List SignalWire → Graph
graph_of nodes wires = record {
  rank = λ x. place_of nodes x;
  feeders = λ x. sources_into wires x;
  followers = λ x. sinks_from wires x;
}

-- the keys of a canvas's boxes and of its signal boxes, none of them twice, and wires between signal boxes
pub record IsCanvas (nodes signal : List ℕ) (wires : List SignalWire) : Type 0 where
  pub once : (x : ℕ) → tally x nodes ≤ 1
  pub signal_once : (x : ℕ) → tally x signal ≤ 1
  pub among : (x : ℕ) → 0 < tally x signal → 0 < tally x nodes
  pub sources : (x : ℕ) → 0 < tally x (map (λ w. w.source) wires) → 0 < tally x signal
  pub sinks : (x : ℕ) → 0 < tally x (map (λ w. w.sink) wires) → 0 < tally x signal

-- a wire's source under its sink, and its sink under its source
abbrev pub entry_into : SignalWire → Entry
entry_into w = record { key = w.sink; value = w.source }

abbrev pub entry_from : SignalWire → Entry
entry_from w = record { key = w.source; value = w.sink }
