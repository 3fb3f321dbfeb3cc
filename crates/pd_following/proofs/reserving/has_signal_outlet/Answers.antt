use Rattle.std.proofs.Common.{arith, ◌≡◌, ◌≤◌, length, sym}
use Rattle.pd_grove.specs.declared.ports.Side.TheVariants.{Outlets}
use Rattle.pd_web.specs.Hops.{ports_told}
use Rattle.pd_patch.proofs.BlockLemmas.{silent_more}
use Rattle.pd_following.proofs.ReserveLemmas.{some_signal, no_signal}
use Rattle.pd_following.proofs.reserving.has_signal_outlet.Goals as goal

pub loop-outlet-preserved : goal.loop-outlet-preserved
loop-outlet-preserved c = silent_more (ports_told c.args.web.now Outlets c.args.node) c.loop-outlet.outlet c.loop-outlet.invariant (sym c.if-outlet_signal_at.ensures)

pub returns-then-outlet_signal_at : goal.returns-then-outlet_signal_at
returns-then-outlet_signal_at c = sym (some_signal (ports_told c.args.web.now Outlets c.args.node) c.loop-outlet.outlet (sym c.if-outlet_signal_at.ensures))

pub returns : goal.returns
returns c =
    let outlets = ports_told c.args.web.now Outlets c.args.node in
    let count : c.outlets_at-outlet-end.result ≡ length outlets = c.outlets_at-outlet-end.ensures in
    let past = c.loop-outlet-test.false in
    let all : length outlets ≤ c.loop-outlet.outlet = omega (arith, count, past) in
    sym (no_signal outlets c.loop-outlet.outlet all c.loop-outlet.invariant)
