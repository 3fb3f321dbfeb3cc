use Rattle.std.proofs.Common.{◌≡◌, ◌≤◌, ◌+◌, true, length, drop}
use Rattle.pd_atom.specs.Names.{Extends}
use Rattle.pd_message.specs.Texts.{filled_with}
use Rattle.pd_message.specs.Room.{filling_of}
use Rattle.pd_message.proofs.pieces.fill.Given as goal

abbrev pub invariant-loop-atom : goal.invariant-loop-atom
invariant-loop-atom l = record {
  filling : filled_with l.args (filling_of l.symbols l.first l.out true) (drop l.atom-index l.piece) ≡ filled_with l.args (filling_of l.fn.symbols l.first l.fn.out true) l.piece;
  extends : Extends l.fn.symbols l.symbols;
  rows : l.out.rows ≡ l.fn.out.rows;
  atoms : length l.out.atoms ≤ length l.fn.out.atoms + l.atom-index;
  longer : length l.fn.out.atoms ≤ length l.out.atoms;
  notices : length l.out.notices ≤ length l.fn.out.notices + l.atom-index;
}
