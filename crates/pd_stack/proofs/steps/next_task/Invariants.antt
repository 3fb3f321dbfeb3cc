use Rattle.std.proofs.Common.{◌≤◌, List, [], length}
use Rattle.pd_hearing.specs.Worlds.{net_of}
use Rattle.pd_stack.specs.Tasks.{Task}
use Rattle.pd_stack.specs.Piles.{IsPiled, LeftOn}
use Rattle.pd_stack.specs.Turns.{Yields}
use Rattle.pd_stack.proofs.steps.next_task.Given as goal

abbrev pub invariant-loop-top : goal.invariant-loop-top
invariant-loop-top g l = record {
  piled : IsPiled l.stack;
  yields : (tasks : List Task) → LeftOn (net_of l.patch) l.fn.stack tasks →
      Yields (net_of l.patch) l.symbols (g.L.Sink.taken l.fn.lines) l.fn.held.items (g.L.Sink.taken l.lines) l.held.items l.stack [] tasks;
  counted : g.L.Sink.faults l.fn.lines ≤ g.L.Sink.faults l.lines;
}

abbrev pub decreases-loop-top : goal.decreases-loop-top
decreases-loop-top g l = length l.stack.pendings
