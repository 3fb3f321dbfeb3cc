use Rattle.std.proofs.Common.{false, None}
use Rattle.pd_web.specs.declared.sockets.Port.{Port}
use Rattle.pd_ports.proofs.HomeLemmas.{knows_begun, knows_port}
use Rattle.pd_ports.proofs.homes.know_all.Goals as goal

pub loop-i-init : goal.loop-i-init
loop-i-init c = knows_begun c.args.homes.now c.args.ports.now c.args.side c.args.node

pub loop-i-preserved : goal.loop-i-preserved
loop-i-preserved c =
    let none : Port = record { end = None; jack = record { is_signal = false; inner = None } } in
    knows_port c.args.homes.now c.loop-i.homes c.know.new.homes c.args.ports.now c.args.side c.args.node c.loop-i.i none c.loop-i-test.true c.requires.once c.loop-i.invariant c.know.ensures.is c.know.ensures.others c.know.auto.homes
