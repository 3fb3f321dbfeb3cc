use Rattle.std.proofs.Common.{◌≡◌, ◌+◌, ◌++◌, List, length, take}
use Rattle.pd_wire.specs.Book.{live_wires}
use Rattle.pd_web.specs.Sockets.{AreTied, Keeps}
use Rattle.pd_web.specs.Lines.{Line, IsLaid, laid_lines}
use Rattle.pd_web.proofs.wires.lay_all.Given as goal

abbrev pub invariant-loop-wire : goal.invariant-loop-wire
invariant-loop-wire l = record {
  tied : AreTied l.sockets l.spots.items l.book;
  keeps : Keeps l.fn.sockets l.sockets;
  laid : (ls : List Line) → IsLaid l.fn.sockets l.fn.book ls → IsLaid l.sockets l.book (ls ++ laid_lines l.fn.sockets l.keys (take l.wire-index l.wires));
  counted : live_wires l.book ≡ live_wires l.fn.book + length (laid_lines l.fn.sockets l.keys (take l.wire-index l.wires));
  left : l.left + length (laid_lines l.fn.sockets l.keys (take l.wire-index l.wires)) ≡ l.fn.left;
}
