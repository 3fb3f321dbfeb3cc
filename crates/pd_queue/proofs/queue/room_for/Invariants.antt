use Rattle.std.proofs.Common.{◌≤◌, ◌-◌, length, vec_len, vec_capacity}
use Rattle.pd_queue.proofs.queue.room_for.Given as goal

abbrev pub invariant-room : goal.invariant-room
invariant-room l = record { room : l.count ≤ vec_capacity l.edits; within : vec_len l.edits ≤ l.count }

abbrev pub decreases-room : goal.decreases-room
decreases-room l = l.count - vec_len l.edits
