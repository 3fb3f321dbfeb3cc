use Rattle.std.proofs.Common.{List, sym, subst}
use Rattle.pd_web.specs.declared.sockets.Spot.{Spot}
use Rattle.pd_web.specs.Spares.{IsLonger}
use Rattle.pd_web.proofs.RoomLemmas.{longer_begun, longer_pushed}
use Rattle.pd_web.proofs.room.reach_spot.Goals as goal

pub loop-spots-init : goal.loop-spots-init
loop-spots-init c = longer_begun c.args.spots.now.items

pub loop-spots-preserved : goal.loop-spots-preserved
loop-spots-preserved c = longer_pushed c.args.spots.now.items c.loop-spots.spots.items c.push.new.self.items _ c.loop-spots.invariant c.in_ok-push.ensures.items

pub returns-in_err-push-clause-longer : goal.returns-in_err-push-clause-longer
returns-in_err-push-clause-longer c =
    let P : List Spot → Type 0 = λ xs. IsLonger c.args.spots.now.items xs in subst P (sym c.in_err-push.ensures.items) c.loop-spots.invariant
