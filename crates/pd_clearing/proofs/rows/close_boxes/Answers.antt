use Rattle.std.proofs.Common.{◌+◌, take, get_or, false, sym, ◌∙◌, subst}
use Rattle.std.proofs.lemmas.List.{take_more, take_all}
use Rattle.std.proofs.lemmas.Option.{slice_get-get_or}
use Rattle.pd_grove.specs.declared.spots.Spot.{Spot}
use Rattle.pd_grove.specs.TextOrder.{keys_of_spots}
use Rattle.pd_clearing.specs.Layers.{ClosesAll}
use Rattle.pd_clearing.proofs.LoosenLemmas.{among_at}
use Rattle.pd_clearing.proofs.RowLemmas.{closes_next, closes_none}
use Rattle.pd_clearing.proofs.rows.close_boxes.Goals as goal

abbrev none : Spot
none = record { node = 0; is_top = false }

pub loop-spot-init : goal.loop-spot-init
loop-spot-init c = closes_none c.args.web.now c.requires.known

pub close_box-requires-clause-here : goal.close_box-requires-clause-here
close_box-requires-clause-here c =
    let i = c.loop-spot.spot-index in
    let p = get_or c.args.spots.now i none in
    c.loop-spot.invariant.room (p.node + 1) 0 0 (c.requires.here p.node (among_at c.args.spots.now i p (slice_get-get_or c.args.spots.now i none c.loop-spot-test.true)))

pub close_box-requires-clause-bare : goal.close_box-requires-clause-bare
close_box-requires-clause-bare c =
    let i = c.loop-spot.spot-index in
    let p = get_or c.args.spots.now i none in
    let bare = c.requires.bare p.node (among_at c.args.spots.now i p (slice_get-get_or c.args.spots.now i none c.loop-spot-test.true)) in
    record { fans = λ o. c.loop-spot.invariant.fans p.node o ∙ bare.fans o; feeds = λ o. c.loop-spot.invariant.feeds p.node o ∙ bare.feeds o }

pub close_box-requires-clause-homes : goal.close_box-requires-clause-homes
close_box-requires-clause-homes c = c.loop-spot.invariant.known.told (get_or c.args.spots.now c.loop-spot.spot-index none).node

pub loop-spot-preserved : goal.loop-spot-preserved
loop-spot-preserved c =
    let i = c.loop-spot.spot-index in
    let spots = c.args.spots.now in
    let p = get_or spots i none in
    let w = c.loop-spot.web in
    let v = c.close_box.new.web in
    let e = c.close_box.ensures in
    subst (λ qs. ClosesAll c.args.web.now v (keys_of_spots qs)) (sym (take_more spots i none c.loop-spot-test.true))
    (closes_next c.args.web.now w v (take i spots) p c.loop-spot.invariant e.ports e.homes e.room
    (c.port_boxes_stay_known.ensures.closed w v p.node e.ports e.homes c.loop-spot.invariant.known))

pub returns : goal.returns
returns c = subst (λ qs. ClosesAll c.args.web.now c.loop-spot.web (keys_of_spots qs)) (take_all c.loop-spot.spot-index c.args.spots.now c.loop-spot-test.false) c.loop-spot.invariant
