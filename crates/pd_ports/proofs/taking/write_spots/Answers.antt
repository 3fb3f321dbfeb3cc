use Rattle.std.proofs.Common.{false, None}
use Rattle.pd_web.specs.declared.sockets.Port.{Port}
use Rattle.pd_ports.proofs.SpotLemmas.{respots_begun, respots_port, next_within}
use Rattle.pd_ports.proofs.taking.write_spots.Goals as goal

pub loop-i-init : goal.loop-i-init
loop-i-init c = respots_begun c.args.spots.now.items c.args.ports.now c.args.side c.args.key

pub write_spot-requires : goal.write_spot-requires
write_spot-requires c = λ e h.
    let none : Port = record { end = None; jack = record { is_signal = false; inner = None } } in
    next_within c.args.spots.now.items c.loop-i.spots.items c.args.ports.now c.args.side c.args.key c.loop-i.i e none c.loop-i-test.true c.requires.apart c.loop-i.invariant h

pub loop-i-preserved : goal.loop-i-preserved
loop-i-preserved c =
    let none : Port = record { end = None; jack = record { is_signal = false; inner = None } } in
    respots_port c.args.spots.now.items c.loop-i.spots.items c.write_spot.new.spots.items c.args.ports.now c.args.side c.args.key c.loop-i.i none c.loop-i-test.true c.requires.apart c.loop-i.invariant c.write_spot.ensures.told c.write_spot.ensures.others
    c.write_spot.ensures.len
