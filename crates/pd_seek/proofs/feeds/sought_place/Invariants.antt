use Rattle.pd_web.specs.Hops.{feed_keys, feed_hops}
use Rattle.pd_seek.proofs.PlaceLemmas.{Sought, up_to}
use Rattle.pd_seek.proofs.feeds.sought_place.Given as goal

abbrev pub invariant-loop-last : goal.invariant-loop-last
invariant-loop-last l =
    Sought l.labels l.line (feed_keys l.web l.line.sink l.line.inlet) (feed_hops l.web l.line.sink l.line.inlet) l.next l.last (up_to (feed_keys l.web l.line.sink l.line.inlet) l.last)

abbrev pub decreases-loop-last : goal.decreases-loop-last
decreases-loop-last l = up_to (feed_keys l.web l.line.sink l.line.inlet) l.last
