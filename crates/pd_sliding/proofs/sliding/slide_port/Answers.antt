use Rattle.std.proofs.Common.{List, ℕ, is_some, refl, sym, ap, subst}
use Rattle.pd_web.specs.Hops.{feed_hops}
use Rattle.pd_seek.specs.Places.{AreInOrder}
use Rattle.pd_patch.specs.declared.patch.Patch.{Patch}
use Rattle.pd_sliding.specs.Slides.{inlet_slid}
use Rattle.pd_sliding.specs.Sliding.{HaveOwnLabel, IsSlid, StaysButPorts}
use Rattle.pd_sliding.proofs.CallLemmas.{lists_then, numbered_then}
use Rattle.pd_sliding.proofs.GroveLemmas.{forest_as, lived}
use Rattle.pd_sliding.proofs.RunLemmas.{blocks_stay, box_holds, can_then, hold_alone, one_elsewhere, stands}
use Rattle.pd_sliding.proofs.sliding.slide_port.Goals as goal

pub move_box-requires : goal.move_box-requires
move_box-requires c = ap is_some c.requires.can.stands

pub follow-requires-clause-holds : goal.follow-requires-clause-holds
follow-requires-clause-holds c =
    let r = c.args.route in
    ap is_some (box_holds c.args.patch.now c.move_box.new.self r.key r.port.node r.port.side r.port.port c.args.x c.args.y c.requires.can c.move_box.ensures)

pub follow-requires-clause-own : goal.follow-requires-clause-own
follow-requires-clause-own c = (forest_as c.args.patch.now.grove c.move_box.new.self c.args.route.key c.args.x c.args.y c.move_box.ensures c.requires.can.can.forest).own

pub follow-requires-clause-near : goal.follow-requires-clause-near
follow-requires-clause-near c = λ k live. c.requires.room.near k (lived c.args.patch.now.grove c.move_box.new.self c.args.route.key c.args.x c.args.y c.move_box.ensures k live)

pub follow-requires-clause-lists : goal.follow-requires-clause-lists
follow-requires-clause-lists c =
    let p = c.args.patch.now in
    let r = c.args.route in
    let can = c.requires.can.can in
    let known = c.port_boxes_are_known.ensures.known p.grove p.web can.runs.own (hold_alone p can) can.runs.ports.ports can.runs.ports.homes can.runs.ports.homes_found in
    lists_then p c.move_box.new.self r.key r.port.node r.port.side r.port.port c.args.x c.args.y c.requires.can c.move_box.ensures known r.around c.requires.room.lists

pub follow-requires-clause-known : goal.follow-requires-clause-known
follow-requires-clause-known c =
    let p = c.args.patch.now in
    let can = c.requires.can.can in
    c.port_boxes_are_known.ensures.known p.grove p.web can.runs.own (hold_alone p can) can.runs.ports.ports can.runs.ports.homes can.runs.ports.homes_found

pub follow-requires-clause-meet : goal.follow-requires-clause-meet
follow-requires-clause-meet c = c.requires.can.meet

pub follow-requires-clause-was : goal.follow-requires-clause-was
follow-requires-clause-was c = c.requires.can.numbered

pub follow-requires-clause-elsewhere : goal.follow-requires-clause-elsewhere
follow-requires-clause-elsewhere c =
    let p = c.args.patch.now in
    let r = c.args.route in
    let can = c.requires.can.can in
    let known = c.port_boxes_are_known.ensures.known p.grove p.web can.runs.own (hold_alone p can) can.runs.ports.ports can.runs.ports.homes can.runs.ports.homes_found in (
      (stands p c.move_box.new.self r.key r.port.node r.port.side r.port.port c.args.x c.args.y c.requires.can c.move_box.ensures).place,
      one_elsewhere p c.move_box.new.self r.key r.port.node r.port.side r.port.port c.args.x c.args.y c.requires.can c.move_box.ensures known,
    )

pub follow-requires-clause-empty : goal.follow-requires-clause-empty
follow-requires-clause-empty c = c.requires.room.empty

pub follow-requires-clause-fits : goal.follow-requires-clause-fits
follow-requires-clause-fits c = c.requires.room.fits

pub follow-requires-clause-ends : goal.follow-requires-clause-ends
follow-requires-clause-ends c = c.requires.room.ends

pub number_of-requires : goal.number_of-requires
number_of-requires c =
    let p = c.args.patch.now in
    let r = c.args.route in
    let can = c.requires.can.can in
    let known = c.port_boxes_are_known.ensures.known p.grove p.web can.runs.own (hold_alone p can) can.runs.ports.ports can.runs.ports.homes can.runs.ports.homes_found in
    ap is_some (numbered_then p c.move_box.new.self r.key r.port.node r.port.side r.port.port c.args.x c.args.y c.requires.can c.move_box.ensures known c.follow.new.web c.follow.ensures.known c.follow.ensures.now)

pub returns : goal.returns
returns c =
    let p = c.args.patch.now in
    let h = c.move_box.new.self in
    let w = c.follow.new.web in
    let q : Patch = record p { grove = h; web = w } in
    let r = c.args.route in
    let C = c.requires.can in
    let A = c.move_box.ensures in
    let can = C.can in
    let known = c.port_boxes_are_known.ensures.known p.grove p.web can.runs.own (hold_alone p can) can.runs.ports.ports can.runs.ports.homes can.runs.ports.homes_found in
    let to = (stands p h r.key r.port.node r.port.side r.port.port c.args.x c.args.y C A).place in
    let O = one_elsewhere p h r.key r.port.node r.port.side r.port.port c.args.x c.args.y C A known in
    let S = c.follow.ensures.slides to O in
    let numbered = numbered_then p h r.key r.port.node r.port.side r.port.port c.args.x c.args.y C A known w c.follow.ensures.known c.follow.ensures.now in
    let rest : StaysButPorts p q = record { names = refl; timers = refl; links = refl; orders = refl; numbers = refl; values = refl; rate = refl; present = refl } in
    let all : IsSlid p q r.key r.port.node r.port.side c.args.x c.args.y r.port.port to = record {
      box = A;
      slides = S;
      in_order = subst (λ (labels : List ℕ). (n i : ℕ) → HaveOwnLabel labels (feed_hops p.web n i) r.port.node → AreInOrder labels (feed_hops p.web n i)
          → AreInOrder labels (feed_hops w n (inlet_slid r.port.side r.port.node r.port.port to n i))) c.as_slice.ensures.value (c.follow.ensures.in_order to O);
      now = c.follow.ensures.now;
      numbered = numbered;
      known = c.follow.ensures.known;
      meet = c.follow.ensures.meet;
      fed = record { lines = c.laws.ensures.feeds; once = c.laws.ensures.once_fed };
      wires = c.follow.ensures.as_many;
      blocks = blocks_stay p.web w _ r.port.node r.port.side r.key r.port.port to O S c.follow.ensures.now;
      rest = rest;
      can = can_then p q r.key r.port.node r.port.side c.args.x c.args.y r.port.port to C A S c.follow.ensures.now c.follow.ensures.known rest;
    } in
    subst (IsSlid p q r.key r.port.node r.port.side c.args.x c.args.y r.port.port) (sym (c.number_of.ensures r.port.node to numbered)) all
