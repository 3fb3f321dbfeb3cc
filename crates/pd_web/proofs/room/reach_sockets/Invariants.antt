use Rattle.std.proofs.Common.{◌-◌, vec_len}
use Rattle.pd_web.specs.Spares.{SameSockets}
use Rattle.pd_web.proofs.room.reach_sockets.Given as goal

abbrev pub invariant-loop-alloc : goal.invariant-loop-alloc
invariant-loop-alloc l = SameSockets l.fn.sockets.items l.sockets.items

abbrev pub decreases-loop-alloc : goal.decreases-loop-alloc
decreases-loop-alloc l = l.keys - vec_len l.sockets
