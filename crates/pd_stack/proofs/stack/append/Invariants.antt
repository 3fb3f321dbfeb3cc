use Rattle.std.proofs.Common.{◌≡◌, ◌+◌, ◌++◌, take, vec_len, vec_capacity}
use Rattle.pd_stack.proofs.stack.append.Given as goal

abbrev pub invariant-loop-atom : goal.invariant-loop-atom
invariant-loop-atom l = record {
  items : l.list.items ≡ l.fn.list.items ++ take l.atom-index l.atoms;
  len : vec_len l.list ≡ vec_len l.fn.list + l.atom-index;
  capacity : vec_capacity l.list ≡ vec_capacity l.fn.list;
}
