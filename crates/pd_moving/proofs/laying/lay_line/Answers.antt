use Rattle.pd_moving.proofs.LayLemmas.{line_laid}
use Rattle.pd_moving.proofs.laying.lay_line.Goals as goal

pub join-requires-clause-next : goal.join-requires-clause-next
join-requires-clause-next c = let p = c.feed_place-next.ensures.place in (p.0, p.1)

pub returns : goal.returns
returns c =
    let p = c.feed_place-next.ensures.place in
    line_laid c.args.web.now c.join.new.self c.args.labels.now c.args.line c.join.result p.0 p.2 (c.join.ensures p.0 p.1) c.requires.meet
