use Rattle.std.proofs.Common.{◌≡◌, map}
use Rattle.pd_web.specs.Jacks.{plain_jack, marks}
use Rattle.pd_web.proofs.jacks.inlet_jacks.Given as goal

abbrev pub invariant-loop-i : goal.invariant-loop-i
invariant-loop-i l = l.jacks.items ≡ map plain_jack (marks l.list.signal_inlets l.i)
