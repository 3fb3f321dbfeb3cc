use Rattle.std.proofs.Common.{◌+◌, ◌*◌, List, length, slice_get, sym, ap, ◌∙◌, subst, arith}
use Rattle.std.proofs.lemmas.List.{length-map}
use Rattle.pd_grove.specs.declared.ports.Side.TheVariants.{Outlets}
use Rattle.pd_web.specs.declared.lines.Line.{Line}
use Rattle.pd_web.specs.Jacks.{jacks_at}
use Rattle.pd_web.specs.Hops.{fan_hops}
use Rattle.pd_ports.proofs.OnceLemmas.{jacks_once}
use Rattle.pd_moving.specs.Outlets.{line_ahead, Lays}
use Rattle.pd_moving.proofs.MoveLemmas.{kept_known, lifted_free, lifted_bare, lifted_keep, lifted_label, lifted_order, known_some, routes, goes_there, moved}
use Rattle.pd_moving.proofs.moving.move_outlet.Goals as goal

pub follow_outlets-requires-clause-near : goal.follow_outlets-requires-clause-near
follow_outlets-requires-clause-near c = λ k lives.
    let r = c.lift_outlet.ensures.lifts.room (k + 1) 0 0 (c.requires.near k lives) in
    record { boxes = r.boxes; homes = r.homes; ends = r.ends; wires = omega arith }

pub follow_outlets-requires-clause-known : goal.follow_outlets-requires-clause-known
follow_outlets-requires-clause-known c = kept_known c.args.web.now c.lift_outlet.new.web c.lift_outlet.ensures.lifts.kept c.requires.known

pub follow_outlets-requires-clause-free : goal.follow_outlets-requires-clause-free
follow_outlets-requires-clause-free c =
    lifted_free c.args.web.now c.lift_outlet.new.web c.args.key c.args.outlet (jacks_at Outlets c.args.grove.now c.args.key) c.lift_outlet.ensures.lifts c.requires.free

pub follow_outlets-requires-clause-gone : goal.follow_outlets-requires-clause-gone
follow_outlets-requires-clause-gone c =
    lifted_bare c.args.web.now c.lift_outlet.new.web c.args.key c.args.outlet (jacks_at Outlets c.args.grove.now c.args.key) c.lift_outlet.ensures.lifts c.requires.gone

pub follow_outlets-requires-clause-meet : goal.follow_outlets-requires-clause-meet
follow_outlets-requires-clause-meet c = c.lift_outlet.ensures.lifts.meet

pub port_number-place-requires : goal.port_number-place-requires
port_number-place-requires c =
    known_some c.follow_outlets.new.web c.args.key c.args.port (jacks_at Outlets c.args.grove.now c.args.key) c.follow_outlets.ensures.known c.follow_outlets.ensures.follows.ports c.requires.is

pub lay_lines-requires-clause-routes : goal.lay_lines-requires-clause-routes
lay_lines-requires-clause-routes c = λ i l e.
    let told = c.as_slice-noted.ensures.value ∙ c.lift_outlet.ensures.lines in
    routes c.args.web.now c.lift_outlet.new.web c.follow_outlets.new.web c.args.key c.args.outlet c.args.port c.port_number-place.result (jacks_at Outlets c.args.grove.now c.args.key) c.lift_outlet.ensures.lifts c.follow_outlets.ensures.follows
    c.requires.known c.follow_outlets.ensures.known c.requires.free c.requires.was c.requires.is c.port_number-place.ensures c.requires.meet i l (ap (λ (ls : List Line). slice_get ls i) (sym told) ∙ e)

pub lay_lines-requires-clause-room : goal.lay_lines-requires-clause-room
lay_lines-requires-clause-room c =
    let told = ap length (c.as_slice-noted.ensures.value ∙ c.lift_outlet.ensures.lines) ∙ length-map (fan_hops c.args.web.now c.args.key c.args.outlet) (line_ahead c.args.key c.args.outlet) in
    let n = length (fan_hops c.args.web.now c.args.key c.args.outlet) in
    let r = c.follow_outlets.ensures.room 0 (2 * n) (0 + n) (c.lift_outlet.ensures.lifts.room 0 (2 * n) 0 c.requires.ends) in
    record { boxes = r.boxes; homes = r.homes; ends = (let x = r.ends in omega (arith, x, told)); wires = (let x = r.wires in omega (arith, x, told)) }

pub lay_lines-requires-clause-meet : goal.lay_lines-requires-clause-meet
lay_lines-requires-clause-meet c = c.follow_outlets.ensures.meet

pub returns-clause-moves : goal.returns-clause-moves
returns-clause-moves c =
    let told = c.as_slice-noted.ensures.value ∙ c.lift_outlet.ensures.lines in
    moved c.args.web.now c.lift_outlet.new.web c.follow_outlets.new.web c.args.key c.args.outlet c.args.port c.port_number-place.result (jacks_at Outlets c.args.grove.now c.args.key) c.lift_outlet.ensures.lifts c.follow_outlets.ensures.follows
    c.requires.known c.follow_outlets.ensures.known c.requires.free c.requires.was c.requires.is c.port_number-place.ensures c.lay_lines.new.web c.args.labels.now c.as_slice-noted.result.now told c.lay_lines.ensures
    (jacks_once c.args.grove.now Outlets c.args.key c.requires.own) c.laws.ensures.fans

pub returns-clause-order : goal.returns-clause-order
returns-clause-order c = λ keep own order.
    let w = c.args.web.now in
    let v = c.lift_outlet.new.web in
    let jacks = jacks_at Outlets c.args.grove.now c.args.key in
    let lifts = c.lift_outlet.ensures.lifts in
    let labels = c.args.labels.now in
    let after = c.follow_outlets.ensures.order labels (lifted_keep w v c.args.key c.args.outlet jacks lifts keep) (lifted_label w v c.args.key c.args.outlet jacks lifts labels own)
    (lifted_order w v c.args.key c.args.outlet jacks lifts labels order) in
    λ n i. c.lay_lines.ensures.in_order n i (after n i)

pub returns-clause-known : goal.returns-clause-known
returns-clause-known c = kept_known c.follow_outlets.new.web c.lay_lines.new.web c.lay_lines.ensures.kept c.follow_outlets.ensures.known

pub returns-clause-meet : goal.returns-clause-meet
returns-clause-meet c = c.lay_lines.ensures.meet

pub returns-clause-steps : goal.returns-clause-steps
returns-clause-steps c =
    let told = c.as_slice-noted.ensures.value ∙ c.lift_outlet.ensures.lines in
    record {
      lifted = c.lift_outlet.new.web;
      lifts = c.lift_outlet.ensures.lifts;
      fans = c.laws.ensures.fans;
      feeds = c.laws.ensures.feeds;
      followed = c.follow_outlets.new.web;
      follows = c.follow_outlets.ensures.follows;
      place = c.port_number-place.result;
      goes = goes_there c.args.web.now c.lift_outlet.new.web c.follow_outlets.new.web c.args.key c.args.outlet c.args.port c.port_number-place.result (jacks_at Outlets c.args.grove.now c.args.key)
          c.lift_outlet.ensures.lifts c.follow_outlets.ensures.follows c.requires.known c.follow_outlets.ensures.known c.requires.free c.requires.was c.requires.is c.port_number-place.ensures;
      lays = subst (λ (ls : List Line). Lays c.follow_outlets.new.web c.lay_lines.new.web c.args.labels.now c.args.key c.port_number-place.result ls) told c.lay_lines.ensures;
    }

pub returns-clause-as_many : goal.returns-clause-as_many
returns-clause-as_many c =
    let out = c.lift_outlet.ensures.lifts.wires in
    let same = c.follow_outlets.ensures.as_many in
    let in_again = c.lay_lines.ensures.wires in
    let told = ap length (c.as_slice-noted.ensures.value ∙ c.lift_outlet.ensures.lines) ∙ length-map (fan_hops c.args.web.now c.args.key c.args.outlet) (line_ahead c.args.key c.args.outlet) in
    omega (arith, out, same, in_again, told)
