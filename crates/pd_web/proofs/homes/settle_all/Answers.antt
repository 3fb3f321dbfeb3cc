use Rattle.std.proofs.Common.{false, None, refl}
use Rattle.pd_web.proofs.HomeLemmas.{settles_no_ports, settles_port}
use Rattle.pd_web.proofs.homes.settle_all.Goals as goal

pub loop-i-init : goal.loop-i-init
loop-i-init c = settles_no_ports c.args.homes.now c.args.side c.args.node _ refl

pub loop-i-preserved : goal.loop-i-preserved
loop-i-preserved c =
    settles_port _ _ _ c.args.side c.args.node c.args.ports.now c.loop-i.i (record { end = None; jack = record { is_signal = false; inner = None } }) c.loop-i-test.true c.loop-i.invariant c.settle.ensures
