use Rattle.std.proofs.Common.{◌≡◌, ◌≤◌, ◌-◌, length, slice_get}
use Rattle.pd_web.specs.Hops.{fan_hops}
use Rattle.pd_sliding.proofs.reserving.fan_count.Given as goal

abbrev pub invariant-loop-next : goal.invariant-loop-next
invariant-loop-next l = (l.next ≡ slice_get (fan_hops l.web l.node l.outlet) l.count) × (l.count ≤ length (fan_hops l.web l.node l.outlet))

abbrev pub decreases-loop-next : goal.decreases-loop-next
decreases-loop-next l = length (fan_hops l.web l.node l.outlet) - l.count
