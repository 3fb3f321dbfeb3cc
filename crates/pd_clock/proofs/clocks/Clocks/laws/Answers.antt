use Rattle.std.proofs.Common.{◌≤◌, length, subst}
use Rattle.pd_clock.specs.Queue.{ClockList, AreApart}
use Rattle.pd_clock.proofs.clocks.Clocks.laws.Goals as goal

pub returns-clause-apart : goal.returns-clause-apart
returns-clause-apart c = subst (λ (v : ClockList). AreApart v.clocks) c.self.view_is c.self.invariant.apart

pub returns-clause-few : goal.returns-clause-few
returns-clause-few c = subst (λ (v : ClockList). length v.clocks ≤ v.room) c.self.view_is c.self.invariant.few
