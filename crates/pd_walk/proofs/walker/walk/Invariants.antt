use Rattle.std.proofs.Common.{◌≡◌, ◌≤◌, ℕ, List, [], false, Option}
use Rattle.pd_atom.specs.Names.{Extends}
use Rattle.pd_turns.specs.Turns.{World}
use Rattle.pd_hearing.specs.Worlds.{Kept, net_of, kept_of, states_of}
use Rattle.pd_walk.specs.Outcome.{StatesStay}
use Rattle.pd_stack.specs.Piles.{IsPiled}
use Rattle.pd_walk.specs.Relays.{AreRoutes}
use Rattle.pd_walk.specs.Ways.{IsUnderWay}
use Rattle.pd_walk.proofs.walker.walk.Given as goal

abbrev pub invariant-loop-task : goal.invariant-loop-task
invariant-loop-task g l = record {
  piled : IsPiled l.stack;
  uncut : l.budget.cut ≡ false;
  routes : AreRoutes l.patch.web l.routes;
  net : net_of l.patch ≡ net_of l.fn.patch;
  states : StatesStay (states_of l.fn.patch) (states_of l.patch);
  extends : Extends l.fn.symbols l.symbols;
  way : (before : Option (List ℕ)) (final : World Kept)
      → IsUnderWay (net_of l.fn.patch) l.now (kept_of l.fn.patch l.fn.symbols l.fn.queue) l.fn.budget l.fn.stack [] before (g.L.Sink.taken l.fn.lines) l.fn.held.items final
      → IsUnderWay (net_of l.patch) l.now (kept_of l.patch l.symbols l.queue) l.budget l.stack [] before (g.L.Sink.taken l.lines) l.held.items final;
  counted : g.L.Sink.faults l.fn.lines ≤ g.L.Sink.faults l.lines;
}

abbrev pub decreases-loop-task : goal.decreases-loop-task
decreases-loop-task g l = l.budget.left
