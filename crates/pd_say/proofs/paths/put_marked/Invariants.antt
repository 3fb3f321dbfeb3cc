use Rattle.std.proofs.Common.{◌≤◌, take}
use Rattle.pd_say.specs.Gathering.{Says}
use Rattle.pd_say.specs.Paths.{marked}
use Rattle.pd_say.proofs.paths.put_marked.Given as goal

abbrev pub invariant-loop-number : goal.invariant-loop-number
invariant-loop-number g l =
    record {
      says : Says (g.L.Sink.taken l.fn.sink) l.fn.held.items (g.L.Sink.taken l.sink) l.held.items (marked l.mark (take l.number-index l.numbers));
      counted : g.L.Sink.faults l.fn.sink ≤ g.L.Sink.faults l.sink;
    }
