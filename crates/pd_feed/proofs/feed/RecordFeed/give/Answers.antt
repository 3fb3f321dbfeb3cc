use Rattle.std.proofs.Common.{length, ap, arith}
use Rattle.pd_feed.specs.Feed.{Feed}
use Rattle.pd_feed.proofs.FeedLemmas.{semicolon-within}
use Rattle.pd_feed.proofs.feed.RecordFeed.give.Goals as goal

pub overflow_add-count : goal.overflow_add-count
overflow_add-count c =
    let w = semicolon-within c.args.self.now.bytes c.args.place c.requires.ends in
    omega (arith, w, c.self.invariant.counted, ap (λ (f : Feed). length f.bytes) c.self.view_is)

pub overflow_add-count-2 : goal.overflow_add-count-2
overflow_add-count-2 c =
    let w = semicolon-within c.args.self.now.bytes c.args.place c.requires.ends in
    omega (arith, w, c.self.invariant.counted, ap (λ (f : Feed). length f.bytes) c.self.view_is)
