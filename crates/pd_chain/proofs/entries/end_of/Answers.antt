use Rattle.std.proofs.Common.{leb, leb-true, leb-false, arith, rules}
use Rattle.std.proofs.lemmas.List.Sorted.{IsPartitionPoint-from_clause, IsPartitionedBy-leb}
use Rattle.pd_chain.proofs.entries.end_of.Goals as goal

pub returns : goal.returns
returns c =
    let parted = IsPartitionedBy-leb (λ e. e.key) _ c.args.key c.requires in
    let point = IsPartitionPoint-from_clause (λ e. leb e.key c.args.key) _ _ c.partition_point.ensures.partitioned parted (λ a r q k. search rules) in
    record {
      within = c.partition_point.ensures.bound;
      before = λ k d h. leb-true _ _ (point.0 k d (omega arith) h);
      behind = λ k d h l. leb-false _ _ (point.1 k d h l);
    }
