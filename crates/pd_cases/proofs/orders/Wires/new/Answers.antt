use Rattle.std.proofs.Common.{ℕ, ◌<◌, List, sym, subst, arith}
use Rattle.pd_order.specs.Graph.{tally}
use Rattle.pd_order.proofs.WiredLemmas.{push_below}
use Rattle.pd_cases.proofs.orders.Wires.new.Goals as goal

pub loop-wire-preserved : goal.loop-wire-preserved
loop-wire-preserved c = record {
  paired = (let a = c.in_ok-push.ensures.len in let b = c.in_ok-push-2.ensures.len in let p = c.loop-wire.invariant.paired in omega arith);
  few = (let a = c.in_ok-push.ensures.len in omega arith);
  sources_below = subst (λ (l : List ℕ). (u : ℕ) → 0 < tally u l → u < c.args.nodes) (sym c.in_ok-push.ensures.items) (push_below c.loop-wire.sources.items c.in-Some-wire_of.source c.args.nodes c.loop-wire.invariant.sources_below c.in-Some-wire_of.ensures.source);
  sinks_below = subst (λ (l : List ℕ). (u : ℕ) → 0 < tally u l → u < c.args.nodes) (sym c.in_ok-push-2.ensures.items) (push_below c.loop-wire.sinks.items c.in-Some-wire_of.sink c.args.nodes c.loop-wire.invariant.sinks_below c.in-Some-wire_of.ensures.sink);
}
