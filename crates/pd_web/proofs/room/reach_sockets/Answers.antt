use Rattle.std.proofs.Common.{List, refl, sym, subst}
use Rattle.pd_web.specs.declared.sockets.Sockets.{Sockets}
use Rattle.pd_web.specs.Spares.{SameSockets}
use Rattle.pd_web.proofs.RoomLemmas.{sockets_begun, sockets_pushed}
use Rattle.pd_web.proofs.room.reach_sockets.Goals as goal

pub loop-alloc-init : goal.loop-alloc-init
loop-alloc-init c = sockets_begun c.args.sockets.now.items

pub loop-alloc-preserved : goal.loop-alloc-preserved
loop-alloc-preserved c =
    sockets_pushed c.args.sockets.now.items c.loop-alloc.sockets.items c.push.new.self.items _ c.loop-alloc.invariant c.in_ok-push.ensures.items c.new.ensures.items c.new-in-loop-alloc.ensures.items refl

pub returns-in_err-push-clause-same : goal.returns-in_err-push-clause-same
returns-in_err-push-clause-same c =
    let P : List Sockets → Type 0 = λ xs. SameSockets c.args.sockets.now.items xs in subst P (sym c.in_err-push.ensures.items) c.loop-alloc.invariant
