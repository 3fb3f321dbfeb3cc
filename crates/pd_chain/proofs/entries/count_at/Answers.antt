use Rattle.std.proofs.Common.{◌≡◌, ◌+◌, length, arith}
use Rattle.pd_chain.specs.Entries.{values_at}
use Rattle.pd_chain.proofs.EntryLemmas.{counted}
use Rattle.pd_chain.proofs.entries.count_at.Goals as goal

pub overflow_sub-result : goal.overflow_sub-result
overflow_sub-result c =
    let k : c.start_of-start.result + length (values_at c.args.entries.now c.args.key) ≡ c.end_of-end.result =
    counted c.args.entries.now c.args.key c.start_of-start.result c.end_of-end.result c.start_of-start.ensures c.end_of-end.ensures in omega arith

pub returns : goal.returns
returns c =
    let k : c.start_of-start.result + length (values_at c.args.entries.now c.args.key) ≡ c.end_of-end.result =
    counted c.args.entries.now c.args.key c.start_of-start.result c.end_of-end.result c.start_of-start.ensures c.end_of-end.ensures in omega arith
