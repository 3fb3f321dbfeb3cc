use Rattle.std.proofs.Common.{◌≡◌, ◌+◌, List, Some, sym, ap, ◌∙◌, subst, arith}
use Rattle.std.specs.List.{insert}
use Rattle.pd_wire.specs.Book.{fan_of, feeds_of}
use Rattle.pd_web.specs.declared.sockets.Spot.{Spot}
use Rattle.pd_web.specs.declared.web.Hop.{Hop}
use Rattle.pd_web.specs.Sockets.{IsThere, end_at}
use Rattle.pd_web.specs.Lines.{line_from, line_to}
use Rattle.pd_web.specs.Hops.{fan_keys, feed_keys}
use Rattle.pd_web.specs.Changes.{HasRoom, IsSame, hop_at}
use Rattle.pd_web.proofs.ChangeLemmas.{joined_more, same_more, there_still, fan_along, feeds_along, stands_along}
use Rattle.pd_web.proofs.web.Web.rejoin.Goals as goal

pub end_for_wire-source-requires-clause-there : goal.end_for_wire-source-requires-clause-there
end_for_wire-source-requires-clause-there c =
    let P : Spot → Type 0 = λ s. IsThere c.args.self.now.sockets.items s in subst P (sym c.from.ensures) c.requires.route.from

pub end_for_wire-source-requires-clause-room : goal.end_for_wire-source-requires-clause-room
end_for_wire-source-requires-clause-room c = let h = c.requires.room.ends in omega (arith, h)

pub end_for_wire-sink-requires-clause-there : goal.end_for_wire-sink-requires-clause-there
end_for_wire-sink-requires-clause-there c =
    let w = c.args.self.now in
    let w1 = c.end_for_wire-source.new.self in
    let P : Spot → Type 0 = λ s. IsThere w1.sockets.items s in
    subst P (sym c.to.ensures) (there_still w.sockets.items w1.sockets.items (line_to c.args.line) c.end_for_wire-source.ensures.same.kept.ports c.requires.route.to)

pub end_for_wire-sink-requires-clause-room : goal.end_for_wire-sink-requires-clause-room
end_for_wire-sink-requires-clause-room c = let h = (c.end_for_wire-source.ensures.room 0 1 1 c.requires.room).ends in omega (arith, h)

pub insert_before-requires-clause-room : goal.insert_before-requires-clause-room
insert_before-requires-clause-room c =
    let h = (c.end_for_wire-sink.ensures.room 0 0 1 (c.end_for_wire-source.ensures.room 0 1 1 c.requires.room)).wires in omega (arith, h)

pub insert_before-requires-clause-source : goal.insert_before-requires-clause-source
insert_before-requires-clause-source c =
    let w = c.args.self.now in
    let w1 = c.end_for_wire-source.new.self in
    let w2 = c.end_for_wire-sink.new.self in
    let line = c.args.line in
    let source = c.end_for_wire-source.result in
    let sink = c.end_for_wire-sink.result in
    let same : IsSame w w2 = same_more w w1 w2 c.end_for_wire-source.ensures.same c.end_for_wire-sink.ensures.same in
    let from : end_at w2.sockets.items (line_from line) ≡ Some source = c.end_for_wire-sink.ensures.ends (line_from line) source (ap (end_at w1.sockets.items) (sym c.from.ensures) ∙ c.end_for_wire-source.ensures.is) in
    let to : end_at w2.sockets.items (line_to line) ≡ Some sink = ap (end_at w2.sockets.items) (sym c.to.ensures) ∙ c.end_for_wire-sink.ensures.is in
    (w2.tied.placed (line_from line) source from).live

pub insert_before-requires-clause-sink : goal.insert_before-requires-clause-sink
insert_before-requires-clause-sink c =
    let w = c.args.self.now in
    let w1 = c.end_for_wire-source.new.self in
    let w2 = c.end_for_wire-sink.new.self in
    let line = c.args.line in
    let source = c.end_for_wire-source.result in
    let sink = c.end_for_wire-sink.result in
    let same : IsSame w w2 = same_more w w1 w2 c.end_for_wire-source.ensures.same c.end_for_wire-sink.ensures.same in
    let from : end_at w2.sockets.items (line_from line) ≡ Some source = c.end_for_wire-sink.ensures.ends (line_from line) source (ap (end_at w1.sockets.items) (sym c.from.ensures) ∙ c.end_for_wire-source.ensures.is) in
    let to : end_at w2.sockets.items (line_to line) ≡ Some sink = ap (end_at w2.sockets.items) (sym c.to.ensures) ∙ c.end_for_wire-sink.ensures.is in
    (w2.tied.placed (line_to line) sink to).live

pub insert_before-requires-clause-fan_next : goal.insert_before-requires-clause-fan_next
insert_before-requires-clause-fan_next c =
    let w = c.args.self.now in
    let w1 = c.end_for_wire-source.new.self in
    let w2 = c.end_for_wire-sink.new.self in
    let line = c.args.line in
    let source = c.end_for_wire-source.result in
    let sink = c.end_for_wire-sink.result in
    let same : IsSame w w2 = same_more w w1 w2 c.end_for_wire-source.ensures.same c.end_for_wire-sink.ensures.same in
    let from : end_at w2.sockets.items (line_from line) ≡ Some source = c.end_for_wire-sink.ensures.ends (line_from line) source (ap (end_at w1.sockets.items) (sym c.from.ensures) ∙ c.end_for_wire-source.ensures.is) in
    let to : end_at w2.sockets.items (line_to line) ≡ Some sink = ap (end_at w2.sockets.items) (sym c.to.ensures) ∙ c.end_for_wire-sink.ensures.is in
    (c.requires.fan_next.0, stands_along (fan_keys w line.source line.outlet) (fan_of w2.book source) c.requires.fan_next.0 c.args.fan_next (fan_along w w2 line source same from) c.requires.fan_next.1)

pub insert_before-requires-clause-feed_next : goal.insert_before-requires-clause-feed_next
insert_before-requires-clause-feed_next c =
    let w = c.args.self.now in
    let w1 = c.end_for_wire-source.new.self in
    let w2 = c.end_for_wire-sink.new.self in
    let line = c.args.line in
    let source = c.end_for_wire-source.result in
    let sink = c.end_for_wire-sink.result in
    let same : IsSame w w2 = same_more w w1 w2 c.end_for_wire-source.ensures.same c.end_for_wire-sink.ensures.same in
    let from : end_at w2.sockets.items (line_from line) ≡ Some source = c.end_for_wire-sink.ensures.ends (line_from line) source (ap (end_at w1.sockets.items) (sym c.from.ensures) ∙ c.end_for_wire-source.ensures.is) in
    let to : end_at w2.sockets.items (line_to line) ≡ Some sink = ap (end_at w2.sockets.items) (sym c.to.ensures) ∙ c.end_for_wire-sink.ensures.is in
    (c.requires.feed_next.0, stands_along (feed_keys w line.sink line.inlet) (feeds_of w2.book sink) c.requires.feed_next.0 c.args.feed_next (feeds_along w w2 line sink same to) c.requires.feed_next.1)

pub invariant_of-self : goal.invariant_of-self
invariant_of-self c =
    let w = c.args.self.now in
    let w1 = c.end_for_wire-source.new.self in
    let w2 = c.end_for_wire-sink.new.self in
    let line = c.args.line in
    let source = c.end_for_wire-source.result in
    let sink = c.end_for_wire-sink.result in
    let same : IsSame w w2 = same_more w w1 w2 c.end_for_wire-source.ensures.same c.end_for_wire-sink.ensures.same in
    let from : end_at w2.sockets.items (line_from line) ≡ Some source = c.end_for_wire-sink.ensures.ends (line_from line) source (ap (end_at w1.sockets.items) (sym c.from.ensures) ∙ c.end_for_wire-source.ensures.is) in
    let to : end_at w2.sockets.items (line_to line) ≡ Some sink = ap (end_at w2.sockets.items) (sym c.to.ensures) ∙ c.end_for_wire-sink.ensures.is in
    let n = c.requires.fan_next.0 in
    let s = c.requires.fan_next.1 in
    let m = c.requires.feed_next.0 in
    let t = c.requires.feed_next.1 in
    let along = fan_along w w2 line source same from in
    let along_feeds = feeds_along w w2 line sink same to in
    let adds = c.insert_before.ensures n m (stands_along (fan_keys w line.source line.outlet) (fan_of w2.book source) n c.args.fan_next along s) (stands_along (feed_keys w line.sink line.inlet) (feeds_of w2.book sink) m c.args.feed_next along_feeds t) in
    let more = joined_more w2.sockets.items w2.spots.items w2.book c.insert_before.new.self w2.spare.items line c.insert_before.result source n sink m
    (record { linked = c.laws.ensures; tied = w2.tied; free = w2.free; from = from; to = to; adds = adds }) in
    record { few = w2.few; tied = more.tied; free = more.free }

pub returns : goal.returns
returns c =
    let w = c.args.self.now in
    let w1 = c.end_for_wire-source.new.self in
    let w2 = c.end_for_wire-sink.new.self in
    let line = c.args.line in
    let source = c.end_for_wire-source.result in
    let sink = c.end_for_wire-sink.result in
    let same : IsSame w w2 = same_more w w1 w2 c.end_for_wire-source.ensures.same c.end_for_wire-sink.ensures.same in
    let from : end_at w2.sockets.items (line_from line) ≡ Some source = c.end_for_wire-sink.ensures.ends (line_from line) source (ap (end_at w1.sockets.items) (sym c.from.ensures) ∙ c.end_for_wire-source.ensures.is) in
    let to : end_at w2.sockets.items (line_to line) ≡ Some sink = ap (end_at w2.sockets.items) (sym c.to.ensures) ∙ c.end_for_wire-sink.ensures.is in
    λ n m s t.
    let along = fan_along w w2 line source same from in
    let along_feeds = feeds_along w w2 line sink same to in
    let adds = c.insert_before.ensures n m (stands_along (fan_keys w line.source line.outlet) (fan_of w2.book source) n c.args.fan_next along s) (stands_along (feed_keys w line.sink line.inlet) (feeds_of w2.book sink) m c.args.feed_next along_feeds t) in
    let more = joined_more w2.sockets.items w2.spots.items w2.book c.insert_before.new.self w2.spare.items line c.insert_before.result source n sink m
    (record { linked = c.laws.ensures; tied = w2.tied; free = w2.free; from = from; to = to; adds = adds }) in
    record {
      was_vacant = sym (same.lines c.insert_before.result) ∙ more.was_vacant;
      line = more.line;
      other_lines = λ k ne. more.other_lines k ne ∙ same.lines k;
      fan = more.fan ∙ ap (λ (xs : List Hop). insert xs n (hop_at c.insert_before.result line.sink line.inlet)) (same.fans line.source line.outlet);
      other_fans = λ node outlet ne. more.other_fans node outlet ne ∙ same.fans node outlet;
      feeds = more.feeds ∙ ap (λ (xs : List Hop). insert xs m (hop_at c.insert_before.result line.source line.outlet)) (same.feeds line.sink line.inlet);
      other_feeds = λ node inlet ne. more.other_feeds node inlet ne ∙ same.feeds node inlet;
      kept = record { ports = same.kept.ports; made = same.kept.made; homes = same.kept.homes };
      room = λ k p q h.
          let had = h.ends in
          let two : HasRoom w k (p + 1 + 1) (q + 1) = record { boxes = h.boxes; homes = h.homes; ends = omega (arith, had); wires = h.wires } in
          let left = c.end_for_wire-sink.ensures.room k p (q + 1) (c.end_for_wire-source.ensures.room k (p + 1) (q + 1) two) in
          let wires = left.wires in
          let used = adds.spare_wires in
          record { boxes = left.boxes; homes = left.homes; ends = left.ends; wires = omega (arith, wires, used) };
    }
