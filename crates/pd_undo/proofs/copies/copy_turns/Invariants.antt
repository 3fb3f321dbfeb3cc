use Rattle.std.proofs.Common.{◌≡◌, map, take}
use Rattle.pd_undo.specs.Acts.{placed}
use Rattle.pd_undo.proofs.copies.copy_turns.Given as goal

abbrev pub invariant-loop-turn : goal.invariant-loop-turn
invariant-loop-turn l = map placed l.copies.items ≡ map placed (take l.turn-index l.turns)
