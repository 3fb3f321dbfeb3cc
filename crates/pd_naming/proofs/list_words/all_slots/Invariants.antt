use Rattle.std.proofs.Common.{◌≡◌, map, take}
use Rattle.pd_naming.specs.Naming.{slot_of}
use Rattle.pd_naming.proofs.list_words.all_slots.Given as goal

abbrev pub invariant-loop-atom : goal.invariant-loop-atom
invariant-loop-atom l = l.list.items ≡ map (slot_of l.symbols) (take l.atom-index l.arguments)
