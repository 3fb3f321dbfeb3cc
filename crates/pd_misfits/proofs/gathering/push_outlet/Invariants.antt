use Rattle.std.proofs.Common.{◌-◌, length}
use Rattle.pd_web.specs.Hops.{fan_hops}
use Rattle.pd_misfits.specs.Misfits.{wire_from}
use Rattle.pd_misfits.proofs.WalkLemmas.{passed, IsWalked}
use Rattle.pd_misfits.proofs.gathering.push_outlet.Given as goal

abbrev pub invariant-loop-next : goal.invariant-loop-next
invariant-loop-next l =
    IsWalked (wire_from l.fate l.web l.numbers l.key l.kind l.outlet.node l.outlet.port) (fan_hops l.web l.outlet.node l.outlet.port) l.fn.found.items l.found.items l.next

abbrev pub decreases-loop-next : goal.decreases-loop-next
decreases-loop-next l = length (fan_hops l.web l.outlet.node l.outlet.port) - passed (fan_hops l.web l.outlet.node l.outlet.port) l.next
