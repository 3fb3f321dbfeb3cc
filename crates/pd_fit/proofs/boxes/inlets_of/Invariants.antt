use Rattle.std.proofs.Common.{◌≡◌}
use Rattle.pd_fit.specs.Seeing.{marks}
use Rattle.pd_fit.proofs.boxes.inlets_of.Given as goal

abbrev pub invariant-loop-i : goal.invariant-loop-i
invariant-loop-i l = l.signals.items ≡ marks l.list.signal_inlets l.i
