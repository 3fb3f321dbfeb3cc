use Rattle.std.proofs.Common.{length, ap, arith}
use Rattle.pd_feed.specs.Feed.{Feed}
use Rattle.pd_feed.proofs.FedLemmas.{unshown}
use Rattle.pd_feed.proofs.FeedLemmas.{searched_more, came_behind}
use Rattle.pd_feed.proofs.feed.RecordFeed.fill.Goals as goal

pub fill-requires : goal.fill-requires
fill-requires g c =
    let f = c.args.self.now in
    let u = unshown f.passed f.blank f.bytes c.requires.begun c.requires.unshown in
    omega (arith, u.in_record, ap (λ (f : Feed). length f.bytes) c.self.view_is)

pub invariant_of-self : goal.invariant_of-self
invariant_of-self g c =
    let f = c.args.self.now in
    let v = c.self.view_is in
    let u = unshown f.passed f.blank f.bytes c.requires.begun c.requires.unshown in
    let i = c.self.inside in
    let m = came_behind c.fill.result i.buffer c.fill.new.self _ _ c.fill.ensures.gains c.fill.ensures.same in
    record {
      searching = rw m.1 (searched_more i.buffer m.0 i.searched i.escaped c.self.invariant.searching);
      counted = omega (arith, u.in_script, c.fill.ensures.short, ap (λ (f : Feed). f.passed) v, ap (λ (f : Feed). f.blank) v);
      body = c.self.invariant.body;
      short = c.self.invariant.short;
      room = c.self.invariant.room;
    }
