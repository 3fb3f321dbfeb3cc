use Rattle.std.proofs.Common.{length, refl, ap, arith}
use Rattle.pd_web.specs.Sockets.{side_ports}
use Rattle.pd_web.proofs.EndLemmas.{set_end, gives_inlet, gives_outlet}
use Rattle.pd_web.proofs.ends.put_end_in.Goals as goal

pub returns-in-Inlets : goal.returns-in-Inlets
returns-in-Inlets c =
    let e = ap (λ s. length (side_ports s c.args.own.now)) c.in-Inlets.is in
    let h = c.requires in
    gives_inlet c.args.own.now _ c.args.side c.args.port c.args.end c.in-Inlets.is
    (set_end c.args.own.now.inlets.items c.args.port c.args.end c.index_mut.result.now (omega (arith, e, h)) c.index_mut.ensures.value) refl refl

pub returns-in-Outlets : goal.returns-in-Outlets
returns-in-Outlets c =
    let e = ap (λ s. length (side_ports s c.args.own.now)) c.in-Outlets.is in
    let h = c.requires in
    gives_outlet c.args.own.now _ c.args.side c.args.port c.args.end c.in-Outlets.is refl
    (set_end c.args.own.now.outlets.items c.args.port c.args.end c.index_mut-in-Outlets.result.now (omega (arith, e, h)) c.index_mut-in-Outlets.ensures.value) refl
