use Rattle.std.proofs.Common.{◌≡◌, ◌≤◌, ◌<◌, ◌+◌, ℕ, true, false, cond, length}
use Rattle.pd_atom.specs.Names.{Names}
use Rattle.pd_queue.specs.Queue.{Waiting}
use Rattle.pd_hearing.specs.Worlds.{net_of, kept_of, states_of}
use Rattle.pd_walk.specs.Outcome.{StatesStay}
use Rattle.pd_walk.specs.Relays.{AreRoutes, resumption, Leads}
use Rattle.pd_walk.proofs.relay.repeat.Given as goal

abbrev pub invariant-loop-goes_on : goal.invariant-loop-goes_on
invariant-loop-goes_on l = record {
  net : net_of l.patch ≡ net_of l.fn.patch;
  clocks : l.patch.timers ≡ l.fn.patch.timers;
  stack : l.stack ≡ l.fn.stack;
  uncut : l.budget.cut ≡ false;
  no_more : l.budget.left ≤ l.fn.budget.left;
  less : l.has_gone ≡ true → l.budget.left < l.fn.budget.left;
  budget : l.has_gone ≡ false → l.budget ≡ l.fn.budget;
  kept : l.has_gone ≡ false → states_of l.patch ≡ states_of l.fn.patch;
  routes : AreRoutes l.patch.web l.routes;
  states : StatesStay (states_of l.fn.patch) (states_of l.patch);
  leads : (now : ℕ) (names : Names) (queue : Waiting) → 2 ≤ length names → Leads (net_of l.fn.patch) now (kept_of l.fn.patch names queue) l.fn.budget
      (resumption l.depth l.node) (kept_of l.patch names queue) l.budget (resumption l.depth l.node);
}

abbrev pub decreases-loop-goes_on : goal.decreases-loop-goes_on
decreases-loop-goes_on l = l.budget.left + cond l.goes_on 1 0
