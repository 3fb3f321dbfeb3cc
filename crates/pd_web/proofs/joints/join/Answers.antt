use Rattle.std.proofs.Common.{◌≡◌, sym, subst, ap, arith}
use Rattle.pd_wire.specs.Book.{Book, live_wires}
use Rattle.pd_web.specs.Wiring.{Holds}
use Rattle.pd_web.proofs.WireLemmas.{holds_more, holds_with_room}
use Rattle.pd_web.proofs.CountLemmas.{wire_is_one_more}
use Rattle.pd_web.proofs.joints.join.Goals as goal

pub returns-clause-holds : goal.returns-clause-holds
returns-clause-holds c = λ js h.
    let P : Book → Type 0 = λ b. Holds b js in
    holds_more c.reserve.new.self c.add_last.new.self c.add_last.result c.args.joint.now js c.laws.ensures c.add_last.ensures
    (subst P (sym (c.in_ok-reserve.ensures.ok)) (holds_with_room c.args.book.now 0 1 js h))

pub returns-clause-more : goal.returns-clause-more
returns-clause-more c =
    let room : live_wires c.reserve.new.self ≡ live_wires c.args.book.now = ap (λ b. live_wires b) c.in_ok-reserve.ensures.ok in
    let more = wire_is_one_more c.reserve.new.self c.add_last.new.self c.add_last.result _ _ _ _ c.add_last.ensures in
    omega (arith, room, more)
