use Rattle.std.proofs.Common.{◌≡◌, ◌+◌, ◌-◌, ◌≤◌, length}
use Rattle.std.specs.Prelude.{IsTrue}
use Rattle.pd_feed.specs.Script.{fed_of, is_shown}
use Rattle.pd_feed.proofs.NextLemmas.{IsUnderWay}
use Rattle.pd_feed.proofs.feed.RecordFeed.next.Given as goal

abbrev pub invariant-reading : goal.invariant-reading
invariant-reading g l = record {
  way : IsUnderWay l.fn.self l.self (g.S.Source.left l.fn.source) (g.S.Source.left l.source);
  at_hand : IsTrue (is_shown (fed_of l.fn.self.passed l.fn.self.blank l.fn.self.bytes)) → l.source ≡ l.fn.source;
  counted : g.S.Source.faults l.fn.source ≤ g.S.Source.faults l.source;
}

abbrev pub decreases-reading : goal.decreases-reading
decreases-reading g l = 1073807362 - (l.self.passed + l.self.blank + length l.self.bytes)
