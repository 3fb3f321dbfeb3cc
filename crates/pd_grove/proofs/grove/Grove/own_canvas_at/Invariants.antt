use Rattle.std.proofs.Common.{◌≡◌, Some, drop}
use Rattle.pd_grove.specs.OwnPaths.{sub_reached}
use Rattle.pd_grove.proofs.grove.Grove.own_canvas_at.Given as goal

abbrev pub invariant-loop-number : goal.invariant-loop-number
invariant-loop-number l = sub_reached l.self l.here (drop l.number-index l.path) ≡ sub_reached l.self (Some l.self.root) l.path
