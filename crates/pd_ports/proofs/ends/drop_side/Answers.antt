use Rattle.std.proofs.Common.{false, None}
use Rattle.pd_web.specs.declared.sockets.Port.{Port}
use Rattle.pd_ports.proofs.EndLemmas.{drops_port, next_live}
use Rattle.pd_ports.proofs.ends.drop_side.Goals as goal

pub drop_end_of-requires : goal.drop_end_of-requires
drop_end_of-requires c = λ e h.
    let none : Port = record { end = None; jack = record { is_signal = false; inner = None } } in
    next_live c.args.book.now c.loop-port.book c.args.ports.now c.loop-port.port-index e none c.loop-port-test.true c.requires c.loop-port.invariant h

pub loop-port-preserved : goal.loop-port-preserved
loop-port-preserved c =
    let none : Port = record { end = None; jack = record { is_signal = false; inner = None } } in
    drops_port c.args.book.now c.loop-port.book c.drop_end_of.new.book c.args.ports.now c.loop-port.port-index none c.loop-port-test.true c.loop-port.invariant c.drop_end_of.ensures
