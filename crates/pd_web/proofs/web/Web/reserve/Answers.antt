use Rattle.std.proofs.Common.{ap, arith}
use Rattle.std.proofs.lemmas.Result.{on_ok_weaker}
use Rattle.pd_wire.specs.Book.{Book}
use Rattle.pd_web.specs.Changes.{HasRoom}
use Rattle.pd_web.proofs.ChangeLemmas.{same_more}
use Rattle.pd_web.proofs.web.Web.reserve.Goals as goal

pub returns-in_err-reach_homes-clause-same : goal.returns-in_err-reach_homes-clause-same
returns-in_err-reach_homes-clause-same c = same_more c.args.self.now c.reach_ports.new.self c.reach_homes.new.self c.reach_ports.ensures.same c.reach_homes.ensures.same

pub returns-in_err-reach_homes-clause-kept : goal.returns-in_err-reach_homes-clause-kept
returns-in_err-reach_homes-clause-kept c = λ k p n h. c.reach_homes.ensures.kept k p n (c.reach_ports.ensures.kept k p n h)

pub returns-in_err-reserve_book-clause-same : goal.returns-in_err-reserve_book-clause-same
returns-in_err-reserve_book-clause-same c =
    same_more c.args.self.now c.reach_homes.new.self c.reserve_book.new.self
    (same_more c.args.self.now c.reach_ports.new.self c.reach_homes.new.self c.reach_ports.ensures.same c.reach_homes.ensures.same) c.reserve_book.ensures.same

pub returns-in_err-reserve_book-clause-kept : goal.returns-in_err-reserve_book-clause-kept
returns-in_err-reserve_book-clause-kept c = λ k p n h. c.reserve_book.ensures.kept k p n (c.reach_homes.ensures.kept k p n (c.reach_ports.ensures.kept k p n h))

pub returns-clause-same : goal.returns-clause-same
returns-clause-same c =
    same_more c.args.self.now c.reserve_book.new.self c.reserve_ends.new.self
    (same_more c.args.self.now c.reach_homes.new.self c.reserve_book.new.self
    (same_more c.args.self.now c.reach_ports.new.self c.reach_homes.new.self c.reach_ports.ensures.same c.reach_homes.ensures.same) c.reserve_book.ensures.same)
    c.reserve_ends.ensures.same

pub returns-clause-kept : goal.returns-clause-kept
returns-clause-kept c = λ k p n h.
    c.reserve_ends.ensures.kept k p n (c.reserve_book.ensures.kept k p n (c.reach_homes.ensures.kept k p n (c.reach_ports.ensures.kept k p n h)))

pub returns-clause-room : goal.returns-clause-room
returns-clause-room c =
    let w2 = c.reach_homes.new.self in
    let w3 = c.reserve_book.new.self in
    let ports = c.in_ok-reach_ports.ensures.far in
    let same = c.reach_homes.ensures.ports in
    let homes = c.in_ok-reach_homes.ensures.far in
    let wires = ap (λ (b : Book). b.spare_wires) c.in_ok-reserve_book.ensures.room in
    let own : HasRoom w2 c.args.keys 0 0 = record { boxes = omega (arith, ports, same); homes = omega (arith, homes); ends = omega arith; wires = omega arith } in
    let more : HasRoom w3 0 0 c.args.wires = record { boxes = omega arith; homes = omega arith; ends = omega arith; wires = omega (arith, wires) } in
    let boxes = c.reserve_ends.ensures.kept c.args.keys 0 0 (c.reserve_book.ensures.kept c.args.keys 0 0 own) in
    let kept = c.reserve_ends.ensures.kept 0 0 c.args.wires more in
    on_ok_weaker c.reserve_ends.result (λ h. record { boxes = boxes.boxes; homes = boxes.homes; ends = h.ends; wires = kept.wires }) c.reserve_ends.ensures.room
