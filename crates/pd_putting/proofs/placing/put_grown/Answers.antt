use Rattle.pd_putting.proofs.HolderLemmas.{others_hold}
use Rattle.pd_putting.proofs.placing.put_grown.Goals as goal

pub put_alone-requires-clause-alone : goal.put_alone-requires-clause-alone
put_alone-requires-clause-alone g c = c.is_alone.ensures.yes c.if-is_alone.true c.args.number

pub put_whole-requires-clause-holder : goal.put_whole-requires-clause-holder
put_whole-requires-clause-holder g c =
    let h = c.requires.grown in
    others_hold c.args.grown h.added h.is c.args.patch.now c.args.number h.holds (c.is_alone.ensures.no c.if-is_alone.false c.args.number h.added h.is)
