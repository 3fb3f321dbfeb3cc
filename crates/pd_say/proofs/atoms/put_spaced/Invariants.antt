use Rattle.std.proofs.Common.{◌≤◌, take}
use Rattle.pd_say.specs.Gathering.{Says}
use Rattle.pd_say.specs.Messages.{spaced}
use Rattle.pd_say.proofs.atoms.put_spaced.Given as goal

abbrev pub invariant-loop-atom : goal.invariant-loop-atom
invariant-loop-atom g l =
    record {
      says : Says (g.L.Sink.taken l.fn.sink) l.fn.held.items (g.L.Sink.taken l.sink) l.held.items (spaced l.symbols (take l.atom-index l.atoms));
      counted : g.L.Sink.faults l.fn.sink ≤ g.L.Sink.faults l.sink;
    }
