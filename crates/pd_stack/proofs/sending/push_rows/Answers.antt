use Rattle.std.proofs.Common.{arith, ◌<◌, ◌-◌, length}
use Rattle.pd_stack.proofs.SendLemmas.{row-within}
use Rattle.pd_stack.proofs.sending.push_rows.Goals as goal

pub push_row-requires-clause-order : goal.push_row-requires-clause-order
push_row-requires-clause-order c =
    let lt : length c.args.rows.now - 1 - c.loop-i.i < length c.args.rows.now = omega arith in
    (row-within c.args.base c.args.full c.args.rows.now _ c.index-rows-count.result c.requires.within lt c.index-rows-count.is).0

pub push_row-requires-clause-within : goal.push_row-requires-clause-within
push_row-requires-clause-within c =
    let lt : length c.args.rows.now - 1 - c.loop-i.i < length c.args.rows.now = omega arith in
    (row-within c.args.base c.args.full c.args.rows.now _ c.index-rows-count.result c.requires.within lt c.index-rows-count.is).1
