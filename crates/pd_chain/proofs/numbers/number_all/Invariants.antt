use Rattle.std.proofs.Common.{◌≡◌, take}
use Rattle.pd_chain.specs.Entries.{numbered}
use Rattle.pd_chain.proofs.numbers.number_all.Given as goal

abbrev pub invariant-loop-place : goal.invariant-loop-place
invariant-loop-place l = l.entries.items ≡ numbered 0 (take l.place l.nodes)
