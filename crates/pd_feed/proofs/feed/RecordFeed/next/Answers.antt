use Rattle.std.proofs.Common.{arith}
use Rattle.std.proofs.lemmas.Result.{err_from_is_err_and}
use Rattle.pd_feed.proofs.NextLemmas.{shown_feeds, feeds_all, waits_all, waits_now, not_shown, ends_feeds, goes_on, stays_on, smaller}
use Rattle.pd_feed.proofs.ScriptLemmas.{reads_script}
use Rattle.pd_feed.proofs.feed.RecordFeed.next.Goals as goal

pub returns-in-Some-clause-fed : goal.returns-in-Some-clause-fed
returns-in-Some-clause-fed g c =
    shown_feeds c.in-Some.fed c.args.self.now c.reading.self c.shown.new.self _ _ c.reading.invariant.way c.in-Some.ensures.fed

pub returns-in-Some-clause-all : goal.returns-in-Some-clause-all
returns-in-Some-clause-all g c =
    feeds_all c.in-Some.fed c.args.self.now c.shown.new.self _ _
    (shown_feeds c.in-Some.fed c.args.self.now c.reading.self c.shown.new.self _ _ c.reading.invariant.way c.in-Some.ensures.fed)

pub returns-in-Some-clause-script : goal.returns-in-Some-clause-script
returns-in-Some-clause-script g c =
    reads_script c.in-Some.fed c.args.self.now c.shown.new.self _ _
    (feeds_all c.in-Some.fed c.args.self.now c.shown.new.self _ _
    (shown_feeds c.in-Some.fed c.args.self.now c.reading.self c.shown.new.self _ _ c.reading.invariant.way c.in-Some.ensures.fed))

pub returns-in_err-fill-clause-waits : goal.returns-in_err-fill-clause-waits
returns-in_err-fill-clause-waits g c =
    let p = err_from_is_err_and c.from_residual.result c.from_residual.ensures.1 in
    let f = c.in_err-fill.ensures in
    rw p.1
    (waits_now c.args.self.now c.reading.self c.shown.new.self c.fill.new.self _ _ _ c.reading.invariant.way c.in_default.ensures.unshown f.same f.passed
    f.blank f.last f.failed)

pub returns-in_err-fill-clause-waits_all : goal.returns-in_err-fill-clause-waits_all
returns-in_err-fill-clause-waits_all g c =
    let p = err_from_is_err_and c.from_residual.result c.from_residual.ensures.1 in
    let f = c.in_err-fill.ensures in
    rw p.1
    (waits_all c.args.self.now c.fill.new.self _ _
    (waits_now c.args.self.now c.reading.self c.shown.new.self c.fill.new.self _ _ _ c.reading.invariant.way c.in_default.ensures.unshown f.same f.passed
    f.blank f.last f.failed))

pub returns-in_err-fill-clause-at_hand : goal.returns-in_err-fill-clause-at_hand
returns-in_err-fill-clause-at_hand g c =
    λ h. absurd (not_shown c.args.self.now c.reading.self c.shown.new.self _ _ c.reading.invariant.way c.in_default.ensures.unshown h)

pub returns-then-branch-eq0-clause-fed : goal.returns-then-branch-eq0-clause-fed
returns-then-branch-eq0-clause-fed g c =
    let f = c.in_ok-fill.ensures in
    ends_feeds c.rest.result c.args.self.now c.reading.self c.shown.new.self c.fill.new.self _ _ _ c.in_ok-fill.field-0 c.reading.invariant.way
    c.in_default.ensures.unshown f.gains c.if-branch-eq0.true f.at_end f.passed f.blank f.last c.rest.ensures

pub returns-then-branch-eq0-clause-all : goal.returns-then-branch-eq0-clause-all
returns-then-branch-eq0-clause-all g c =
    let f = c.in_ok-fill.ensures in
    feeds_all c.rest.result c.args.self.now c.fill.new.self _ _
    (ends_feeds c.rest.result c.args.self.now c.reading.self c.shown.new.self c.fill.new.self _ _ _ c.in_ok-fill.field-0 c.reading.invariant.way
    c.in_default.ensures.unshown f.gains c.if-branch-eq0.true f.at_end f.passed f.blank f.last c.rest.ensures)

pub returns-then-branch-eq0-clause-script : goal.returns-then-branch-eq0-clause-script
returns-then-branch-eq0-clause-script g c =
    let f = c.in_ok-fill.ensures in
    reads_script c.rest.result c.args.self.now c.fill.new.self _ _
    (feeds_all c.rest.result c.args.self.now c.fill.new.self _ _
    (ends_feeds c.rest.result c.args.self.now c.reading.self c.shown.new.self c.fill.new.self _ _ _ c.in_ok-fill.field-0 c.reading.invariant.way
    c.in_default.ensures.unshown f.gains c.if-branch-eq0.true f.at_end f.passed f.blank f.last c.rest.ensures))

pub returns-then-branch-eq0-clause-at_hand : goal.returns-then-branch-eq0-clause-at_hand
returns-then-branch-eq0-clause-at_hand g c =
    λ h. absurd (not_shown c.args.self.now c.reading.self c.shown.new.self _ _ c.reading.invariant.way c.in_default.ensures.unshown h)

pub reading-smaller : goal.reading-smaller
reading-smaller g c =
    let f = c.in_ok-fill.ensures in
    smaller c.reading.self c.shown.new.self c.fill.new.self _ _ c.in_ok-fill.field-0 c.in_default.ensures.unshown f.gains c.if-branch-eq0.false f.passed f.blank

pub reading-preserved : goal.reading-preserved
reading-preserved g c =
    let f = c.in_ok-fill.ensures in
    record {
      way =
          goes_on c.args.self.now c.shown.new.self c.fill.new.self _ _ _ c.in_ok-fill.field-0
          (stays_on c.args.self.now c.reading.self c.shown.new.self _ _ c.reading.invariant.way c.in_default.ensures.unshown.stays) f.gains f.passed f.blank
          f.last;
      at_hand = λ h. absurd (not_shown c.args.self.now c.reading.self c.shown.new.self _ _ c.reading.invariant.way c.in_default.ensures.unshown h);
      counted = omega (arith, c.reading.invariant.counted, f.counted);
    }
