use Rattle.std.proofs.Common.{false, None}
use Rattle.pd_web.specs.declared.sockets.Port.{Port}
use Rattle.pd_ports.proofs.HomeLemmas.{forgets_port}
use Rattle.pd_ports.proofs.homes.forget_all.Goals as goal

pub loop-port-preserved : goal.loop-port-preserved
loop-port-preserved c =
    let none : Port = record { end = None; jack = record { is_signal = false; inner = None } } in
    forgets_port c.args.homes.now c.loop-port.homes c.forget.new.homes c.args.node c.args.ports.now c.loop-port.port-index none c.loop-port-test.true c.loop-port.invariant c.forget.ensures
