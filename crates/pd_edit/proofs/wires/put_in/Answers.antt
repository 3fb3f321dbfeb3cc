use Rattle.std.proofs.Common.{arith, length}
use Rattle.pd_web.specs.Hops.{fan_keys}
use Rattle.pd_edit.proofs.RoomLemmas.{attached_same}
use Rattle.pd_edit.proofs.wires.put_in.Goals as goal

pub returns-clause-done : goal.returns-clause-done
returns-clause-done g c =
    let r = c.reserve_wire.ensures in
    let at = c.attach.ensures.joins in
    attached_same c.args.patch.now c.reserve_wire.new.patch c.attach.new.patch c.args.coming.line c.attach.result at.0 r.same r.kept r.built at.1 at.2 c.attach.ensures.rest c.attach.ensures.rewires c.attach.ensures.built

pub returns-clause-more : goal.returns-clause-more
returns-clause-more g c =
    let l = c.args.coming.line in
    let m = c.reserve_wire.new.patch.web in
    let at = c.attach.ensures.joins in
    let one = c.wires_are_counted.ensures.joins m c.attach.new.patch.web c.attach.result l (length (fan_keys m l.source l.outlet)) at.0 at.2 in
    let same = c.wires_are_counted.ensures.stays c.args.patch.now.web m c.reserve_wire.ensures.same.web in omega (arith, one, same)
