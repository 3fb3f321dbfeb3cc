use Rattle.std.proofs.Common.{List, Option, sym, subst}
use Rattle.pd_web.specs.declared.sockets.Spot.{Spot}
use Rattle.pd_web.specs.Spares.{SameHomes}
use Rattle.pd_web.proofs.RoomLemmas.{homes_begun, homes_pushed}
use Rattle.pd_web.proofs.room.lengthen_homes.Goals as goal

pub loop-homes-init : goal.loop-homes-init
loop-homes-init c = homes_begun c.args.homes.now.items

pub loop-homes-preserved : goal.loop-homes-preserved
loop-homes-preserved c = homes_pushed c.args.homes.now.items c.loop-homes.homes.items c.push.new.self.items c.loop-homes.invariant c.in_ok-push.ensures.items

pub returns-in_err-push-clause-same : goal.returns-in_err-push-clause-same
returns-in_err-push-clause-same c =
    let P : List (Option Spot) → Type 0 = λ xs. SameHomes c.args.homes.now.items xs in subst P (sym c.in_err-push.ensures.items) c.loop-homes.invariant
