use Rattle.std.proofs.Common.{◌≡◌, ℕ, ◌<◌, vec_len}
use Rattle.pd_order.specs.Graph.{tally}
use Rattle.pd_cases.proofs.orders.Wires.new.Given as goal

abbrev pub invariant-loop-wire : goal.invariant-loop-wire
invariant-loop-wire l = record {
  paired : vec_len l.sources ≡ vec_len l.sinks;
  few : vec_len l.sources < 4294967295;
  sources_below : (u : ℕ) → 0 < tally u l.sources.items → u < l.nodes;
  sinks_below : (u : ℕ) → 0 < tally u l.sinks.items → u < l.nodes;
}
