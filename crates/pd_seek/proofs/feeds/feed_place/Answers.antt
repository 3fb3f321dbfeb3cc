use Rattle.pd_web.specs.Hops.{feed_keys, hop_from}
use Rattle.pd_seek.proofs.PlaceLemmas.{from_kept, place_first}
use Rattle.pd_seek.proofs.feeds.feed_place.Goals as goal

pub returns-clause-first : goal.returns-clause-first
returns-clause-first c = λ order.
    let w = c.args.web.now in
    let l = c.args.line in
    let p = c.sought_place.ensures in
    place_first c.args.labels.now l (feed_keys w l.sink l.inlet) (hop_from w) c.sought_place.result p.0 (from_kept w) p.1 p.2 order
