use Rattle.std.proofs.Common.{List, sym, subst}
use Rattle.pd_clock.specs.Queue.{Clock}
use Rattle.pd_timers.specs.Room.{AreBelow}
use Rattle.pd_timers.proofs.RoomLemmas.{fits, below_set}
use Rattle.pd_timers.proofs.timers.Timers.set.Goals as goal

pub set-requires : goal.set-requires
set-requires c = fits c.args.self.now.clocks c.args.self.now.end c.args.owner c.args.self.now.room c.laws.ensures.apart c.if-owner-self.true

pub invariant_of-self : goal.invariant_of-self
invariant_of-self c =
    let P : List Clock → Type 0 = λ cs. AreBelow c.args.self.now.end cs in
    record {
      room = record {
        below = subst P (sym c.set.ensures.clocks) (below_set c.args.self.now.end c.args.owner c.args.time c.args.self.now.clocks.clocks c.args.self.now.room.below c.if-owner-self.true);
        room = rw c.set.ensures.room (c.args.self.now.room.room);
      };
    }
