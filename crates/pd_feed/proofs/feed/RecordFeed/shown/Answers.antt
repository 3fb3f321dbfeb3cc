use Rattle.std.proofs.Common.{sym, ◌∙◌, subst}
use Rattle.pd_feed.specs.Feed.{Feed, Stays}
use Rattle.pd_feed.proofs.FedLemmas.{found_is_shown, too_long_is}
use Rattle.pd_feed.proofs.NextLemmas.{shows_after, stays_self, then_shows}
use Rattle.pd_feed.specs.declared.feed.Fed.TheVariants.{TooLong}
use Rattle.pd_feed.proofs.feed.RecordFeed.shown.Goals as goal

pub returns-in-Some-clause-fed : goal.returns-in-Some-clause-fed
returns-in-Some-clause-fed c =
    let a = c.args.self.now in
    let b = c.find.new.self in
    let s = subst (λ (f : Feed). Stays a a.bytes f f.bytes) (sym c.in-Some.ensures.same) c.skip_white.ensures.stays in
    shows_after c.give.result a b c.give.new.self s c.give.ensures.fed
    (found_is_shown b.passed b.blank b.bytes c.in-Some.place (sym c.in-Some.ensures.place)) c.give.ensures.leaves

pub returns-in-None-clause-fed : goal.returns-in-None-clause-fed
returns-in-None-clause-fed c =
    let a = c.args.self.now in
    let b = c.find.new.self in
    let s = subst (λ (f : Feed). Stays a a.bytes f f.bytes) (sym c.in-None.ensures.same) c.skip_white.ensures.stays in
    then_shows c.is_rest_too_long.result c.then_some.result a b c.then_some.ensures
    (λ t.
    let v = sym c.is_rest_too_long.ensures ∙ t in
    shows_after TooLong a b b s (too_long_is b.passed b.blank b.bytes (sym c.in-None.ensures.place) v) v (stays_self b b.bytes))
