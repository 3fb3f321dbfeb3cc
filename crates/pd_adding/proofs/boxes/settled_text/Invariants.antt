use Rattle.std.proofs.Common.{◌≡◌, map, take}
use Rattle.std.specs.List.{All}
use Rattle.pd_atom.specs.Tokens.{settled}
use Rattle.pd_canvas.specs.Proper.{IsReady}
use Rattle.pd_adding.proofs.boxes.settled_text.Given as goal

abbrev pub invariant-loop-atom : goal.invariant-loop-atom
invariant-loop-atom l = record {
  text : l.out ≡ map (settled l.symbols) (take l.atom-index l.text);
  ready : All (IsReady l.symbols) l.out;
}
