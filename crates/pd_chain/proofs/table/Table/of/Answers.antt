use Rattle.std.proofs.Common.{arith, rules}
use Rattle.std.proofs.lemmas.List.Sorted.{IsNonDecreasingBy-from_sort_by_key}
use Rattle.pd_chain.proofs.EntryLemmas.{tally-moved}
use Rattle.pd_chain.proofs.table.Table.of.Goals as goal

pub invariant_of-result : goal.invariant_of-result
invariant_of-result c = (
  IsNonDecreasingBy-from_sort_by_key (λ e. e.key) _ c.sort_unstable_by_key.ensures.sorted (λ a r q k. search rules),
  (let l = c.sort_unstable_by_key.ensures.len in let a = c.sort_unstable_by_key.new.self.ok in let b = c.args.entries.ok in omega arith),
)

pub returns : goal.returns
returns c = λ x u. tally-moved c.args.entries.items c.sort_unstable_by_key.new.self.items x u c.sort_unstable_by_key.ensures.permutation
