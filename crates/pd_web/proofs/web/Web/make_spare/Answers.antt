use Rattle.std.proofs.Common.{refl, ap, arith}
use Rattle.pd_wire.specs.Book.{fan_part, feed_part}
use Rattle.pd_web.proofs.RoomLemmas.{made_stands, made_room, made_more, made_live}
use Rattle.pd_web.proofs.web.Web.make_spare.Goals as goal

pub drop_lost-requires-clause-end : goal.drop_lost-requires-clause-end
drop_lost-requires-clause-end c = made_live c.args.self.now.book c.make_end-end.new.self c.make_end-end.result c.make_end-end.ensures

pub drop_lost-requires-clause-no_fan : goal.drop_lost-requires-clause-no_fan
drop_lost-requires-clause-no_fan c = ap fan_part c.make_end-end.ensures.end

pub drop_lost-requires-clause-no_feeds : goal.drop_lost-requires-clause-no_feeds
drop_lost-requires-clause-no_feeds c = ap feed_part c.make_end-end.ensures.end

pub invariant_of-self : goal.invariant_of-self
invariant_of-self c =
    let w = c.args.self.now in
    let k = c.keep_end-kept in
    let stands = made_stands w.sockets.items w.spots.items k.new.spots.items w.book c.make_end-end.new.self c.drop_lost.new.book w.spare.items k.new.spare.items c.make_end-end.result k.result
    (record { linked = c.laws.ensures; tied = w.tied; free = w.free; makes = c.make_end-end.ensures; longer = k.ensures.longer; far = k.ensures.far; kept = k.ensures.kept; more = k.ensures.more; ok = c.drop_lost.ensures.ok; err = c.drop_lost.ensures.err }) in
    record { few = w.few; tied = stands.tied; free = stands.free }

pub returns-clause-same : goal.returns-clause-same
returns-clause-same c =
    let w = c.args.self.now in
    let k = c.keep_end-kept in
    let stands = made_stands w.sockets.items w.spots.items k.new.spots.items w.book c.make_end-end.new.self c.drop_lost.new.book w.spare.items k.new.spare.items c.make_end-end.result k.result
    (record { linked = c.laws.ensures; tied = w.tied; free = w.free; makes = c.make_end-end.ensures; longer = k.ensures.longer; far = k.ensures.far; kept = k.ensures.kept; more = k.ensures.more; ok = c.drop_lost.ensures.ok; err = c.drop_lost.ensures.err }) in
    record {
      kept = record { ports = λ side k. refl; made = λ k. refl; homes = λ j. refl };
      lines = stands.lines;
      fans = stands.fans;
      feeds = stands.feeds;
    }

pub returns-clause-kept : goal.returns-clause-kept
returns-clause-kept c = λ x p n h.
    let w = c.args.self.now in
    let k = c.keep_end-kept in
    let room = made_room w.book c.make_end-end.new.self c.drop_lost.new.book w.spare.items k.new.spare.items c.make_end-end.result k.result c.make_end-end.ensures k.ensures.kept k.ensures.more c.drop_lost.ensures.ok c.drop_lost.ensures.err in
    let ends = h.ends in
    let wires = h.wires in
    let more_ends = room.0 in
    let more_wires = room.1 in
    record { boxes = h.boxes; homes = h.homes; ends = omega (arith, ends, more_ends); wires = omega (arith, wires, more_wires) }

pub returns-clause-more : goal.returns-clause-more
returns-clause-more c =
    let k = c.keep_end-kept in
    made_more c.args.self.now.spare.items k.new.spare.items c.make_end-end.result k.result c.drop_lost.result c.drop_lost.ensures.same k.ensures.more
