use Rattle.std.proofs.Common.{◌≡◌, ◌≤◌, ◌+◌, length, vec_len, vec_capacity}
use Rattle.pd_queue.proofs.queue.EditQueue.clear.Given as goal

abbrev pub invariant-loop-edit : goal.invariant-loop-edit
invariant-loop-edit l =
    record {
      all : length l.self-inside.waiting.items + length l.self-inside.spare.items ≡ 256;
      waiting : 256 ≤ vec_capacity l.self-inside.waiting;
      spare : 256 ≤ vec_capacity l.self-inside.spare;
    }

abbrev pub decreases-loop-edit : goal.decreases-loop-edit
decreases-loop-edit l = vec_len l.self-inside.waiting
