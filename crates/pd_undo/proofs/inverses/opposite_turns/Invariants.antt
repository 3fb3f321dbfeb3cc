use Rattle.std.proofs.Common.{◌≡◌, ◌++◌, map, drop}
use Rattle.pd_undo.specs.Acts.{placed, AreThere, HaveRoom}
use Rattle.pd_undo.specs.Inverses.{opposites}
use Rattle.pd_undo.proofs.inverses.opposite_turns.Given as goal

abbrev pub invariant-loop-turn : goal.invariant-loop-turn
invariant-loop-turn l = record {
  there : AreThere (map placed (drop l.turn-index l.turns)) l.here.root;
  room : HaveRoom (map placed (drop l.turn-index l.turns)) l.here.root;
  value : opposites (map placed (drop l.turn-index l.turns)) l.here.root ++ map placed l.back.items ≡ opposites (map placed l.turns) l.initial.here.root;
}
