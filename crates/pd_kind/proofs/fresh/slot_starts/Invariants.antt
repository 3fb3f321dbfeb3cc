use Rattle.std.proofs.Common.{◌≡◌, map, take}
use Rattle.pd_kind.specs.States.{slot_start}
use Rattle.pd_kind.proofs.fresh.slot_starts.Given as goal

abbrev pub invariant-loop-slot : goal.invariant-loop-slot
invariant-loop-slot l = l.atoms.items ≡ map slot_start (take l.slot-index l.slots)
