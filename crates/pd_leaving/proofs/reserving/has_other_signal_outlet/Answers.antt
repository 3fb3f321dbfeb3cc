use Rattle.std.proofs.Common.{arith, ◌≡◌, ◌≤◌, length, sym, ◌∙◌}
use Rattle.pd_grove.specs.declared.ports.Side.TheVariants.{Outlets}
use Rattle.pd_web.specs.Hops.{ports_told}
use Rattle.pd_leaving.proofs.BlockLemmas.{none_before, other_sounds}
use Rattle.pd_leaving.proofs.reserving.has_other_signal_outlet.Goals as goal

pub returns-then-outlet_signal_at : goal.returns-then-outlet_signal_at
returns-then-outlet_signal_at c =
    sym (other_sounds (ports_told c.args.web.now Outlets c.args.port.node) c.args.port.port c.loop-outlet.outlet c.if-outlet-port.true (sym c.outlet_signal_at.ensures ∙ c.if-outlet_signal_at.true))

pub returns : goal.returns
returns c =
    let outlets = ports_told c.args.web.now Outlets c.args.port.node in
    let count : c.outlets_at-outlet-end.result ≡ length outlets = c.outlets_at-outlet-end.ensures in
    let past = c.loop-outlet-test.false in
    let all : length outlets ≤ c.loop-outlet.outlet = omega (arith, count, past) in
    sym (none_before outlets c.args.port.port c.loop-outlet.outlet all c.loop-outlet.invariant)
