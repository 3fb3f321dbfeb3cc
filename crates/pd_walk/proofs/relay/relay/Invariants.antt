use Rattle.std.proofs.Common.{◌≡◌, ◌≤◌, ◌-◌, ℕ, length}
use Rattle.pd_atom.specs.Names.{Names}
use Rattle.pd_queue.specs.Queue.{Waiting}
use Rattle.pd_hearing.specs.Worlds.{net_of, kept_of, states_of}
use Rattle.pd_walk.specs.Outcome.{StatesStay}
use Rattle.pd_walk.specs.Relays.{AreRoutes, deeper, spent, saying_tasks, Leads}
use Rattle.pd_walk.proofs.relay.relay.Given as goal

abbrev pub invariant-loop-turns : goal.invariant-loop-turns
invariant-loop-turns l = record {
  net : net_of l.patch ≡ net_of l.fn.patch;
  clocks : l.patch.timers ≡ l.fn.patch.timers;
  few : l.turns ≤ l.most;
  lent : l.budget ≡ record { left = l.fn.budget.left - l.most; cut = l.fn.budget.cut };
  depth : l.here.depth ≡ l.saying.depth;
  routes : AreRoutes l.patch.web l.routes;
  states : StatesStay (states_of l.fn.patch) (states_of l.patch);
  leads : (now : ℕ) (names : Names) (queue : Waiting) → 2 ≤ length names → Leads (net_of l.fn.patch) now (kept_of l.fn.patch names queue) l.fn.budget
      (saying_tasks (net_of l.fn.patch) l.saying) (kept_of l.patch names queue) (spent (l.most - l.turns) l.fn.budget) (saying_tasks (net_of l.fn.patch) (deeper (l.most - l.turns) l.here));
}

abbrev pub decreases-loop-turns : goal.decreases-loop-turns
decreases-loop-turns l = l.turns
