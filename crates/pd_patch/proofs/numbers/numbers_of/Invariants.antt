use Rattle.std.proofs.Common.{ℕ, ◌<◌}
use Rattle.pd_web.specs.Canvases.{keys_at, IsOwn}
use Rattle.pd_patch.specs.Numbers.{AreUnder}
use Rattle.pd_patch.proofs.numbers.numbers_of.Given as goal

abbrev pub invariant-loop-key : goal.invariant-loop-key
invariant-loop-key l = (c : ℕ) → c < l.key → IsOwn l.grove c → AreUnder l.numbers.items (keys_at l.grove c)
