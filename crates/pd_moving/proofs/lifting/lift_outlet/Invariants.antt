use Rattle.std.proofs.Common.{◌≡◌, length, vec_capacity}
use Rattle.pd_web.specs.Hops.{fan_hops}
use Rattle.pd_moving.proofs.LiftLemmas.{Lifting}
use Rattle.pd_moving.proofs.lifting.lift_outlet.Given as goal

abbrev pub invariant-loop-next : goal.invariant-loop-next
invariant-loop-next l = Lifting l.fn.web l.web l.node l.outlet l.lines.items l.next × (vec_capacity l.lines ≡ vec_capacity l.fn.lines)

abbrev pub decreases-loop-next : goal.decreases-loop-next
decreases-loop-next l = length (fan_hops l.web l.node l.outlet)
