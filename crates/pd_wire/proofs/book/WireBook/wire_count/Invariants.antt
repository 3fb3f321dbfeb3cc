use Rattle.pd_wire.proofs.Counting.{IsCounted}
use Rattle.pd_wire.proofs.book.WireBook.wire_count.Given as goal

abbrev pub invariant-loop-node : goal.invariant-loop-node
invariant-loop-node l =
    (goal.iterator-loop-node).can_next l.node-iterator
    × (goal.iterator-loop-node).is_finite l.node-iterator
    × IsCounted l.count l.node-iterator l.self
