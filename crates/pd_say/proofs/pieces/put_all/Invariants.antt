use Rattle.std.proofs.Common.{◌≤◌, take}
use Rattle.pd_say.specs.Gathering.{Says}
use Rattle.pd_say.specs.Pieces.{pieces_text}
use Rattle.pd_say.proofs.pieces.put_all.Given as goal

abbrev pub invariant-loop-piece : goal.invariant-loop-piece
invariant-loop-piece g l =
    record {
      says : Says (g.L.Sink.taken l.fn.sink) l.fn.held.items (g.L.Sink.taken l.sink) l.held.items (pieces_text l.symbols (take l.piece-index l.pieces));
      counted : g.L.Sink.faults l.fn.sink ≤ g.L.Sink.faults l.sink;
    }
