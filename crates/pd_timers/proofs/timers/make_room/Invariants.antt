use Rattle.std.proofs.Common.{◌≡◌, ◌+◌, ◌≤◌}
use Rattle.pd_timers.proofs.timers.make_room.Given as goal

abbrev pub invariant-loop : goal.invariant-loop
invariant-loop l = record { clocks : l.clocks.clocks ≡ l.fn.clocks.clocks; room : l.fn.clocks.room + l.counter ≤ l.clocks.room }
