use Rattle.std.proofs.Common.{ℕ, get_or, arith}
use Rattle.pd_order.specs.Wired.{ends_at}
use Rattle.pd_order.proofs.WiredLemmas.{end_skipped, end_missed}
use Rattle.pd_cases.proofs.orders.end_at.Goals as goal
use Rattle.pd_cases.proofs.orders.end_at.Goals.{then-near-k+else-left-eq0, else-near-k}

pub loop-k-preserved : goal.loop-k-preserved
loop-k-preserved c =
    let t : ℕ = get_or (ends_at c.args.near.now c.args.far.now c.args.node) c.args.i 0 in
    record {
      same = elim c.if-near-k.branch [
        | then-near-k+else-left-eq0 w ↦ (end_skipped c.args.near.now c.args.far.now c.loop-k.k c.args.node c.loop-k.left c.if-near-k.left t (omega arith) c.requires.paired w.if-near-k.true w.if-left-eq0.false w.left-is c.loop-k.invariant.same c.loop-k.invariant.there).0
        | else-near-k w ↦ (end_missed c.args.near.now c.args.far.now c.loop-k.k c.args.node c.loop-k.left c.if-near-k.left t (omega arith) c.requires.paired w.if-near-k.false w.left-is c.loop-k.invariant.same c.loop-k.invariant.there).0
      ];
      there = elim c.if-near-k.branch [
        | then-near-k+else-left-eq0 w ↦ (end_skipped c.args.near.now c.args.far.now c.loop-k.k c.args.node c.loop-k.left c.if-near-k.left t (omega arith) c.requires.paired w.if-near-k.true w.if-left-eq0.false w.left-is c.loop-k.invariant.same c.loop-k.invariant.there).1
        | else-near-k w ↦ (end_missed c.args.near.now c.args.far.now c.loop-k.k c.args.node c.loop-k.left c.if-near-k.left t (omega arith) c.requires.paired w.if-near-k.false w.left-is c.loop-k.invariant.same c.loop-k.invariant.there).1
      ];
    }
