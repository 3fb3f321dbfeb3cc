use Rattle.std.proofs.Common.{ℕ, Some, refl, sym, ap, ◌∙◌, vec_len, arith}
use Rattle.pd_web.proofs.ChangeLemmas.{given_kept, none_left, last_live, fewer_left}
use Rattle.pd_web.proofs.web.Web.take_end.Goals as goal

pub unreachable-requires : goal.unreachable-requires
unreachable-requires c =
    let h = c.requires.room in
    let ok = c.args.self.now.spare.ok.0 in
    none_left (vec_len c.args.self.now.spare) c.pop.result (omega (arith, h, ok)) c.in_default.is c.pop.ensures.variant.1

pub set_spot-requires : goal.set_spot-requires
set_spot-requires c =
    let w = c.args.self.now in
    w.tied.spotted c.in-Some.number (last_live w.sockets.items w.book w.spare.items c.pop.new.self.items c.in-Some.number w.free c.in-Some.ensures.items)

pub give_end-requires : goal.give_end-requires
give_end-requires c = c.requires.there

pub invariant_of-self : goal.invariant_of-self
invariant_of-self c =
    let w = c.args.self.now in
    let kept = given_kept w.sockets.items c.give_end.new.sockets.items w.spots.items c.set_spot.new.spots.items w.book w.spare.items c.pop.new.self.items c.args.spot c.in-Some.number c.laws.ensures
    (record { tied = w.tied; free = w.free; none = c.requires.none; items = c.in-Some.ensures.items; writes = c.set_spot.ensures; gives = c.give_end.ensures.gives }) in
    record { few = kept.few w.few; tied = kept.tied; free = kept.free }

pub returns-clause-is : goal.returns-clause-is
returns-clause-is c = c.give_end.ensures.gives.is ∙ ap (λ (n : ℕ). Some n) (sym c.of_number.ensures)

pub returns-clause-same : goal.returns-clause-same
returns-clause-same c =
    let w = c.args.self.now in
    let kept = given_kept w.sockets.items c.give_end.new.sockets.items w.spots.items c.set_spot.new.spots.items w.book w.spare.items c.pop.new.self.items c.args.spot c.in-Some.number c.laws.ensures
    (record { tied = w.tied; free = w.free; none = c.requires.none; items = c.in-Some.ensures.items; writes = c.set_spot.ensures; gives = c.give_end.ensures.gives }) in
    record {
      kept = record { ports = c.give_end.ensures.gives.jacks; made = c.give_end.ensures.gives.made; homes = λ j. refl };
      lines = kept.lines;
      fans = kept.fans;
      feeds = kept.feeds;
    }

pub returns-clause-ends : goal.returns-clause-ends
returns-clause-ends c =
    let w = c.args.self.now in
    let kept = given_kept w.sockets.items c.give_end.new.sockets.items w.spots.items c.set_spot.new.spots.items w.book w.spare.items c.pop.new.self.items c.args.spot c.in-Some.number c.laws.ensures
    (record { tied = w.tied; free = w.free; none = c.requires.none; items = c.in-Some.ensures.items; writes = c.set_spot.ensures; gives = c.give_end.ensures.gives }) in
    kept.ends

pub returns-clause-room : goal.returns-clause-room
returns-clause-room c = λ k p n h.
    let same = c.give_end.ensures.len in
    let fewer = fewer_left c.args.self.now.spare.items c.pop.new.self.items c.in-Some.number c.in-Some.ensures.items in
    let boxes = h.boxes in
    let ends = h.ends in
    record { boxes = omega (arith, same, boxes); homes = h.homes; ends = omega (arith, fewer, ends); wires = h.wires }
