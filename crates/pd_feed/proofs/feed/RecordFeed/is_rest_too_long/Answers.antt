use Rattle.std.proofs.Common.{◌≡◌, ◌+◌, length, ap, ◌∙◌, arith}
use Rattle.pd_feed.specs.Feed.{Feed}
use Rattle.pd_feed.specs.Script.{is_long}
use Rattle.pd_feed.proofs.FedLemmas.{rest_test}
use Rattle.pd_feed.proofs.feed.RecordFeed.is_rest_too_long.Goals as goal

pub returns-then-len-gt0 : goal.returns-then-len-gt0
returns-then-len-gt0 c =
    let v = c.self.view_is in
    let f = c.args.self.now in
    let n : c.len-len.result ≡ length f.bytes = c.len-len.ensures ∙ ap (λ (f : Feed). length f.bytes) v in
    let b : c.self.inside.blank ≡ f.blank = ap (λ (f : Feed). f.blank) v in
    let p : c.self.inside.passed ≡ f.passed = ap (λ (f : Feed). f.passed) v in
    let s : c.self.inside.blank + c.len-len.result ≡ f.blank + length f.bytes = omega arith in
    ap is_long s ∙ rest_test f.passed f.blank f.bytes c.requires.none c.requires.begun (omega (arith, c.if-len-gt0.true)) (omega (arith, c.if-self-count-gt-MOST_IN_SCRIPT.false))
