use Rattle.std.proofs.Common.{◌≡◌, take}
use Rattle.pd_made.specs.Tallies.{tallied}
use Rattle.pd_made.proofs.tally.Tally.add.Given as goal

abbrev pub invariant-loop-byte : goal.invariant-loop-byte
invariant-loop-byte l = l.self ≡ tallied l.fn.self (take l.byte-index l.bytes)
