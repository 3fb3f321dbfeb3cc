use Rattle.std.proofs.Common.{◌≡◌, ◌+◌, [], length}
use Rattle.pd_wire.specs.Book.{live_wires}
use Rattle.pd_web.specs.Sockets.{AreTied, Keeps}
use Rattle.pd_web.specs.Lines.{IsLaid, lines_below}
use Rattle.pd_web.proofs.wires.lay_wires.Given as goal

abbrev pub invariant-loop-key : goal.invariant-loop-key
invariant-loop-key l = record {
  tied : AreTied l.sockets l.spots.items l.book;
  keeps : Keeps l.fn.sockets l.sockets;
  laid : IsLaid l.fn.sockets l.fn.book [] → IsLaid l.sockets l.book (lines_below l.grove l.key);
  counted : live_wires l.book ≡ live_wires l.fn.book + length (lines_below l.grove l.key);
  left : l.left + length (lines_below l.grove l.key) ≡ l.fn.most;
}
