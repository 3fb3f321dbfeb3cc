use Rattle.std.proofs.Common.{◌<◌, length, subst, arith}
use Rattle.pd_web.proofs.ChangeLemmas.{same_more}
use Rattle.pd_instances.specs.Needs.{IsRoomFor}
use Rattle.pd_instances.proofs.ListLemmas.{zip_more}
use Rattle.pd_instances.proofs.rooms.box_rooms.Goals as goal

pub loop-i-preserved : goal.loop-i-preserved
loop-i-preserved c =
    let inv = c.loop-i.invariant in
    let low : c.loop-i.i < length c.args.needs.now.items = (let a = c.loop-i-test.true in let k = c.loop-i.auto in let e = c.len-i-end.ensures in let o = c.args.needs.now.ok in omega arith) in
    record {
      same = same_more c.args.web.now c.loop-i.web c.box_room.new.web inv.same c.box_room.ensures.same;
      kept = λ k p n r. c.box_room.ensures.kept k p n (inv.kept k p n r);
      rooms = zip_more IsRoomFor c.args.needs.now.items c.loop-i.rooms.items c.push_back.new.self.items c.loop-i.i c.index.result.now c.in_ok-room.room low c.in_ok-push_back.ensures.items inv.rooms
          (subst (λ n. IsRoomFor n c.in_ok-room.room) c.index.ensures c.in_ok-room.ensures.room);
    }
