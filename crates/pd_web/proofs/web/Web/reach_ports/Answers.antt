use Rattle.std.proofs.Common.{refl, ap, arith}
use Rattle.pd_web.specs.Sockets.{jacks_of}
use Rattle.pd_web.proofs.RoomLemmas.{sockets_stand, sockets_same}
use Rattle.pd_web.proofs.web.Web.reach_ports.Goals as goal

pub invariant_of-self : goal.invariant_of-self
invariant_of-self c =
    let w = c.args.self.now in
    let stands = sockets_stand w.sockets.items c.reach_sockets.new.sockets.items w.spots.items w.book w.spare.items c.reach_sockets.ensures.same w.few w.tied w.free in
    record { few = stands.0; tied = stands.1; free = stands.2 }

pub returns-clause-same : goal.returns-clause-same
returns-clause-same c =
    let w = c.args.self.now in
    let same = c.reach_sockets.ensures.same in
    let lists = sockets_same w.sockets.items c.reach_sockets.new.sockets.items w.spots.items w.book same in
    record {
      kept = record { ports = λ side k. ap jacks_of (same.ports side k); made = same.made; homes = λ j. refl };
      lines = λ k. refl;
      fans = lists.0;
      feeds = lists.1;
    }

pub returns-clause-kept : goal.returns-clause-kept
returns-clause-kept c = λ k p n h.
    let longer = c.reach_sockets.ensures.same.longer in
    let boxes = h.boxes in
    record { boxes = omega (arith, longer, boxes); homes = h.homes; ends = h.ends; wires = h.wires }
