use Rattle.std.proofs.Common.{◌≡◌, ◌+◌, ◌++◌, [], length, map, replicate}
use Rattle.pd_boxes.proofs.rows.reach_values.Given as goal

abbrev pub invariant-loop : goal.invariant-loop
invariant-loop l = record {
  told : map (λ b. b.items) l.values.items ≡ map (λ b. b.items) l.fn.values.items ++ replicate l.counter [];
  len : length l.values.items ≡ length l.fn.values.items + l.counter;
}
