use Rattle.std.proofs.Common.{sym, subst}
use Rattle.pd_clock.specs.Queue.{ClockList}
use Rattle.pd_timers.specs.Room.{HasRoom}
use Rattle.pd_timers.proofs.RoomLemmas.{either, below_taken}
use Rattle.pd_timers.proofs.timers.Timers.next_before.Goals as goal

pub invariant_of-self : goal.invariant_of-self
invariant_of-self c =
    let end = c.args.self.now.end in
    let P : ClockList → Type 0 = λ q. HasRoom q end in
    record {
      room = either c.next_before.result _ (HasRoom c.next_before.new.self end) _ c.next_before.ensures.none c.next_before.ensures.some
          (λ x. subst P (sym x.0) c.args.self.now.room)
          (λ a x. record {
            below = below_taken end _ _ _ x.1 c.args.self.now.room.below;
            room = rw c.next_before.ensures.room (c.args.self.now.room.room);
          });
    }
