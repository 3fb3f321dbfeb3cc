use Rattle.std.proofs.Common.{◌≡◌, ◌≤◌, ℕ, List, Option, take}
use Rattle.pd_atom.specs.Names.{Extends}
use Rattle.pd_say.specs.Gathering.{IsSaid}
use Rattle.pd_hearing.specs.Worlds.{net_of, kept_of, states_of}
use Rattle.pd_walk.specs.Outcome.{world, all_loaded, StatesStay}
use Rattle.pd_walk.specs.Ways.{IsDone}
use Rattle.pd_walk.proofs.walker.walk_loads.Given as goal

abbrev pub invariant-loop-node : goal.invariant-loop-node
invariant-loop-node g l = record {
  net : net_of l.patch ≡ net_of l.fn.patch;
  states : StatesStay (states_of l.fn.patch) (states_of l.patch);
  extends : Extends l.fn.symbols l.symbols;
  done : (before : Option (List ℕ)) (said : List ℕ) → IsSaid before (g.L.Sink.taken l.fn.lines) l.fn.held.items said
      → IsDone (kept_of l.patch l.symbols l.queue) l.budget before (g.L.Sink.taken l.lines) l.held.items
      (all_loaded (net_of l.fn.patch) l.now (world (kept_of l.fn.patch l.fn.symbols l.fn.queue) l.fn.budget said) (take l.node-index l.boxes));
  counted : g.L.Sink.faults l.fn.lines ≤ g.L.Sink.faults l.lines;
}
