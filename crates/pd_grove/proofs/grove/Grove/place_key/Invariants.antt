use Rattle.std.proofs.Common.{◌≡◌, Some, drop}
use Rattle.pd_grove.specs.Telling.{reached}
use Rattle.pd_grove.proofs.grove.Grove.place_key.Given as goal

abbrev pub invariant-loop-number : goal.invariant-loop-number
invariant-loop-number l = reached l.self l.here (drop l.number-index l.path) ≡ reached l.self (Some l.self.root) l.path
