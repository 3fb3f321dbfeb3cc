use Rattle.std.proofs.Common.{◌≡◌, map, take}
use Rattle.pd_chain.specs.Wires.{place_of}
use Rattle.pd_chain.proofs.numbers.numbers_in.Given as goal

abbrev pub invariant-loop-key : goal.invariant-loop-key
invariant-loop-key l = l.numbers.items ≡ map (place_of l.fn.nodes) (take l.key-index l.keys)
