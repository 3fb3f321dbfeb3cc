use Rattle.std.proofs.Common.{◌-◌, length}
use Rattle.pd_web.specs.Hops.{fan_keys, fan_hops}
use Rattle.pd_seek.proofs.PlaceLemmas.{Passed, passed}
use Rattle.pd_seek.proofs.fans.wire_between.Given as goal

abbrev pub invariant-loop-next : goal.invariant-loop-next
invariant-loop-next l =
    Passed l.line (fan_hops l.web l.line.source l.line.outlet) l.next (passed (fan_keys l.web l.line.source l.line.outlet) l.next)

abbrev pub decreases-loop-next : goal.decreases-loop-next
decreases-loop-next l = length (fan_keys l.web l.line.source l.line.outlet) - passed (fan_keys l.web l.line.source l.line.outlet) l.next
