use Rattle.std.proofs.Common.{◌≡◌, ◌++◌, map, drop}
use Rattle.pd_undo.specs.Acts.{placed}
use Rattle.pd_undo.specs.Inverses.{wires_of}
use Rattle.pd_undo.proofs.inverses.push_former_wires.Given as goal

abbrev pub invariant-loop-turn : goal.invariant-loop-turn
invariant-loop-turn l =
    map placed l.back.items ++ wires_of (map placed (drop l.turn-index l.turns)) l.doc.root ≡ map placed l.initial.back.items ++ wires_of (map placed l.turns) l.doc.root
