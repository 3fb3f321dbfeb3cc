use Rattle.std.proofs.Common.{◌==◌, cond, None, inr, sym, ap, ◌∙◌, subst}
use Rattle.pd_web.specs.declared.sockets.Spot.{Spot}
use Rattle.pd_sliding.specs.Sliding.{CanSlide, IsSlid}
use Rattle.pd_shifting.specs.Moves.{ShiftsPort}
use Rattle.pd_shifting.proofs.sliding.slide.Goals as goal

pub slide_port-number-requires-clause-can : goal.slide_port-number-requires-clause-can
slide_port-number-requires-clause-can c =
    let q = c.reserve_route.new.patch in
    let o = c.args.port in
    let key = c.args.moving.key in
    let still = c.route_room_changes_nothing.ensures c.args.patch.now q key o.node o.side o.port c.reserve_route.ensures.same c.requires.can in
    subst (λ (s : Spot). CanSlide q c.in-Ok.route.key s.node s.side s.port) (sym c.in-Ok.ensures.port) (subst (λ k. CanSlide q k o.node o.side o.port) (sym c.in-Ok.ensures.key) still)

pub returns-clause-moved : goal.returns-clause-moved
returns-clause-moved c = λ path number is.
    let p = c.args.patch.now in
    let q = c.reserve_route.new.patch in
    let new = c.slide_port-number.new.patch in
    let o = c.args.port in
    let key = c.args.moving.key in
    let to = c.slide_port-number.result in
    let shifts : ShiftsPort p new c.args.moving.canvas key c.args.x c.args.y = record {
      port = c.requires.port;
      ready = q;
      room = c.reserve_route.ensures.same;
      holder = o.node;
      side = o.side;
      from = o.port;
      to = to;
      could = c.route_room_changes_nothing.ensures p q key o.node o.side o.port c.reserve_route.ensures.same c.requires.can;
      slid = subst (λ k. IsSlid q new k o.node o.side c.args.x c.args.y o.port to) c.in-Ok.ensures.key
          (subst (λ (s : Spot). IsSlid q new c.in-Ok.route.key s.node s.side c.args.x c.args.y s.port to) c.in-Ok.ensures.port c.slide_port-number.ensures);
    } in
    record {
      is = is;
      shifts = inr shifts;
      around = c.changed.ensures ∙ ap (cond (o.port == to) None) c.canvas_of-around.ensures;
      x_told = c.requires.x_told;
      y_told = c.requires.y_told;
    }
