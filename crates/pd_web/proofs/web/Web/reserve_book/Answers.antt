use Rattle.std.proofs.Common.{refl, arith}
use Rattle.pd_web.proofs.RoomLemmas.{grown_stands, same_grows, book_reserved}
use Rattle.pd_web.proofs.web.Web.reserve_book.Goals as goal

pub invariant_of-self : goal.invariant_of-self
invariant_of-self c =
    let w = c.args.self.now in
    let same = book_reserved c.reserve.result w.book c.reserve.new.self c.args.ends c.args.wires c.reserve.ensures.ok c.reserve.ensures.err in
    let stands = grown_stands w.sockets.items w.spots.items w.spots.items w.book c.reserve.new.self w.spare.items c.laws.ensures w.tied w.free (same_grows w.spots.items w.book c.reserve.new.self same) in
    record { few = w.few; tied = stands.tied; free = stands.free }

pub returns-clause-same : goal.returns-clause-same
returns-clause-same c =
    let w = c.args.self.now in
    let same = book_reserved c.reserve.result w.book c.reserve.new.self c.args.ends c.args.wires c.reserve.ensures.ok c.reserve.ensures.err in
    let stands = grown_stands w.sockets.items w.spots.items w.spots.items w.book c.reserve.new.self w.spare.items c.laws.ensures w.tied w.free (same_grows w.spots.items w.book c.reserve.new.self same) in
    record {
      kept = record { ports = λ side k. refl; made = λ k. refl; homes = λ j. refl };
      lines = stands.lines;
      fans = stands.fans;
      feeds = stands.feeds;
    }

pub returns-clause-kept : goal.returns-clause-kept
returns-clause-kept c = λ k p n h.
    let w = c.args.self.now in
    let same = book_reserved c.reserve.result w.book c.reserve.new.self c.args.ends c.args.wires c.reserve.ensures.ok c.reserve.ensures.err in
    let had = h.wires in
    let room = same.room in
    record { boxes = h.boxes; homes = h.homes; ends = h.ends; wires = omega (arith, had, room) }
