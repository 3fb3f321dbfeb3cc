use Rattle.std.proofs.Common.{◌-◌, ℕ, List, ◌++◌, sym, ap, ◌∙◌}
use Rattle.std.specs.List.{flat_map}
use Rattle.std.proofs.lemmas.List.{append-nil, take_all}
use Rattle.slab.specs.Slab.{get}
use Rattle.pd_grove.specs.declared.spots.Spot.{Spot}
use Rattle.pd_grove.specs.TextOrder.{box_spots, spots_among}
use Rattle.pd_grove.proofs.SpotLemmas.{spots_none, spots_some}
use Rattle.pd_owning.proofs.told.+telling.Goals as goal

pub push_boxes-returns-then-canvases-eq0 : goal.push_boxes-returns-then-canvases-eq0
push_boxes-returns-then-canvases-eq0 t c =
    let nodes = get c.args.grove.now.nodes in
    let boards = get c.args.grove.now.boards in
    let old = c.args.spots.now.items in
    sym (append-nil old)
    ∙ ap (λ (x : List Spot). old ++ x)
    (sym (spots_none nodes boards c.args.is_top c.args.keys.now) ∙ ap (λ m. spots_among nodes boards m c.args.is_top c.args.keys.now) (sym c.if-canvases-eq0.true))

pub push_boxes-returns : goal.push_boxes-returns
push_boxes-returns t c =
    let nodes = get c.args.grove.now.nodes in
    let boards = get c.args.grove.now.boards in
    let old = c.args.spots.now.items in
    let f : ℕ → List Spot = λ k. box_spots boards (spots_among nodes boards (c.args.canvases - 1)) c.args.is_top k (nodes k) in
    c.loop-key.invariant
    ∙ ap (λ ks. old ++ flat_map f ks) (take_all c.loop-key.key-index c.args.keys.now c.loop-key-test.false)
    ∙ ap (λ (x : List Spot). old ++ x) (sym (spots_some nodes boards c.args.canvases c.args.is_top c.args.keys.now c.if-canvases-eq0.false))
