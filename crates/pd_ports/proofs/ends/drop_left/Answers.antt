use Rattle.std.proofs.Common.{false, None}
use Rattle.pd_web.specs.declared.sockets.Port.{Port}
use Rattle.pd_ports.proofs.EndLemmas.{left_begun, left_port, left_live}
use Rattle.pd_ports.proofs.ends.drop_left.Goals as goal

pub loop-port-init : goal.loop-port-init
loop-port-init c = left_begun c.args.book.now c.args.old.now c.args.new.now

pub drop_left_end-requires-clause-live : goal.drop_left_end-requires-clause-live
drop_left_end-requires-clause-live c = λ e h.
    let none : Port = record { end = None; jack = record { is_signal = false; inner = None } } in
    left_live c.args.book.now c.loop-port.book c.args.old.now c.args.new.now c.loop-port.port-index e none c.loop-port-test.true c.requires.live c.loop-port.invariant h

pub loop-port-preserved : goal.loop-port-preserved
loop-port-preserved c =
    let none : Port = record { end = None; jack = record { is_signal = false; inner = None } } in
    left_port c.args.book.now c.loop-port.book c.drop_left_end.new.book c.args.old.now c.args.new.now c.loop-port.port-index none c.loop-port-test.true c.loop-port.invariant c.drop_left_end.ensures
