use Rattle.std.proofs.Common.{length, ap, ◌∙◌}
use Rattle.pd_feed.specs.Feed.{Feed}
use Rattle.pd_feed.proofs.FedLemmas.{unfinished_is}
use Rattle.pd_feed.proofs.feed.RecordFeed.rest.Goals as goal

pub returns-else-len-eq0 : goal.returns-else-len-eq0
returns-else-len-eq0 c =
    let f = c.args.self.now in
    unfinished_is f.passed f.blank f.bytes c.requires.begun
    (λ z. c.if-len-eq0.false (c.len.ensures ∙ ap (λ (f : Feed). length f.bytes) c.self.view_is ∙ z)) c.requires.unshown
