use Rattle.std.proofs.Common.{◌≡◌, take}
use Rattle.pd_present.specs.Presents.{wires_among}
use Rattle.pd_present.proofs.wires.wires_of.Given as goal

abbrev pub invariant-loop-key : goal.invariant-loop-key
invariant-loop-key l = l.wires.items ≡ wires_among l.web l.numbers (take l.key-index l.keys)
