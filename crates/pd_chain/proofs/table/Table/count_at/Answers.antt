use Rattle.std.proofs.Common.{◌≤◌, length, arith}
use Rattle.pd_chain.specs.Entries.{values_at}
use Rattle.pd_chain.proofs.EntryLemmas.{few_values}
use Rattle.pd_chain.proofs.table.Table.count_at.Goals as goal

pub overflow_cast-result : goal.overflow_cast-result
overflow_cast-result c =
    let k : length (values_at c.as_slice.result.now c.args.key) ≤ length c.as_slice.result.now = few_values c.as_slice.result.now c.args.key in
    let l = c.as_slice.ensures.len in
    let o = c.self.inside.entries.ok in
    let i = c.self.invariant.1 in omega arith
