use Rattle.std.proofs.Common.{◌-◌, ◌+◌, ℕ, List, ◌++◌, length, sym, ap, ◌∙◌, arith}
use Rattle.std.specs.List.{flat_map}
use Rattle.std.proofs.lemmas.List.{append-nil, take_all}
use Rattle.std.specs.Prelude.{vec_len}
use Rattle.slab.specs.Slab.{get}
use Rattle.pd_grove.specs.declared.spots.Spot.{Spot}
use Rattle.pd_grove.specs.TextOrder.{box_spots, spots_among}
use Rattle.pd_grove.proofs.SpotLemmas.{spots_none, spots_some}
use Rattle.pd_instances.proofs.SpotLemmas.{len_next, next_fits, told_next}
use Rattle.pd_instances.proofs.spots.+telling.Goals as goal

pub push_boxes-push_box-requires : goal.push_boxes-push_box-requires
push_boxes-push_box-requires t c =
    let nodes = get c.args.grove.now.nodes in
    let boards = get c.args.grove.now.boards in
    let some = c.if-canvases-eq0.false in
    let kept = c.loop-key.invariant.room in
    let fits = next_fits (λ k. box_spots boards (spots_among nodes boards (c.args.canvases - 1)) c.args.is_top k (nodes k)) c.args.keys.now c.loop-key.key-index c.loop-key-test.true _ _ _
    (spots_among nodes boards c.args.canvases c.args.is_top c.args.keys.now) (spots_some nodes boards c.args.canvases c.args.is_top c.args.keys.now some) c.requires.room c.loop-key.invariant.len in
    (omega (arith, c.decreases, some), omega (arith, fits, kept))

pub push_boxes-returns-then-canvases-eq0-clause-told : goal.push_boxes-returns-then-canvases-eq0-clause-told
push_boxes-returns-then-canvases-eq0-clause-told t c =
    let nodes = get c.args.grove.now.nodes in
    let boards = get c.args.grove.now.boards in
    let old = c.args.spots.now.items in
    sym (append-nil old)
    ∙ ap (λ (x : List Spot). old ++ x)
    (sym (spots_none nodes boards c.args.is_top c.args.keys.now) ∙ ap (λ m. spots_among nodes boards m c.args.is_top c.args.keys.now) (sym c.if-canvases-eq0.true))

pub push_boxes-returns-then-canvases-eq0-clause-len : goal.push_boxes-returns-then-canvases-eq0-clause-len
push_boxes-returns-then-canvases-eq0-clause-len t c =
    let nodes = get c.args.grove.now.nodes in
    let boards = get c.args.grove.now.boards in
    let none = ap length (ap (λ m. spots_among nodes boards m c.args.is_top c.args.keys.now) c.if-canvases-eq0.true ∙ spots_none nodes boards c.args.is_top c.args.keys.now) in
    omega (arith, none)

pub push_boxes-returns-clause-told : goal.push_boxes-returns-clause-told
push_boxes-returns-clause-told t c =
    let nodes = get c.args.grove.now.nodes in
    let boards = get c.args.grove.now.boards in
    let old = c.args.spots.now.items in
    let f : ℕ → List Spot = λ k. box_spots boards (spots_among nodes boards (c.args.canvases - 1)) c.args.is_top k (nodes k) in
    c.loop-key.invariant.told
    ∙ ap (λ ks. old ++ flat_map f ks) (take_all c.loop-key.key-index c.args.keys.now c.loop-key-test.false)
    ∙ ap (λ (x : List Spot). old ++ x) (sym (spots_some nodes boards c.args.canvases c.args.is_top c.args.keys.now c.if-canvases-eq0.false))

pub push_boxes-returns-clause-len : goal.push_boxes-returns-clause-len
push_boxes-returns-clause-len t c =
    let nodes = get c.args.grove.now.nodes in
    let boards = get c.args.grove.now.boards in
    let old = vec_len c.args.spots.now in
    let f : ℕ → List Spot = λ k. box_spots boards (spots_among nodes boards (c.args.canvases - 1)) c.args.is_top k (nodes k) in
    c.loop-key.invariant.len
    ∙ ap (λ ks. old + length (flat_map f ks)) (take_all c.loop-key.key-index c.args.keys.now c.loop-key-test.false)
    ∙ ap (λ (x : List Spot). old + length x) (sym (spots_some nodes boards c.args.canvases c.args.is_top c.args.keys.now c.if-canvases-eq0.false))
