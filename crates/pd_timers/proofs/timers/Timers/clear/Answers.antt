use Rattle.std.proofs.Common.{List, sym, subst}
use Rattle.pd_clock.specs.Queue.{Clock}
use Rattle.pd_timers.specs.Room.{AreBelow}
use Rattle.pd_timers.proofs.RoomLemmas.{below_without}
use Rattle.pd_timers.proofs.timers.Timers.clear.Goals as goal

pub invariant_of-self : goal.invariant_of-self
invariant_of-self c =
    let P : List Clock → Type 0 = λ cs. AreBelow c.args.self.now.end cs in
    record {
      room = record {
        below = subst P (sym c.unset.ensures.clocks) (below_without c.args.self.now.end c.args.owner c.args.self.now.clocks.clocks c.args.self.now.room.below);
        room = rw c.unset.ensures.room (c.args.self.now.room.room);
      };
    }
