use Rattle.std.proofs.Common.{◌≡◌, ◌≢◌, ℕ, ◌<◌, false}
use Rattle.pd_grove.specs.declared.ports.Side.TheVariants.{Outlets}
use Rattle.pd_web.specs.Hops.{jack_told, signal_in}
use Rattle.pd_leaving.proofs.reserving.has_other_signal_outlet.Given as goal

abbrev pub invariant-loop-outlet : goal.invariant-loop-outlet
invariant-loop-outlet l = (i : ℕ) → i < l.outlet → i ≢ l.port.port → signal_in (jack_told l.web Outlets l.port.node i) ≡ false
