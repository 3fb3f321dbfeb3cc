use Rattle.std.proofs.Common.{List, true, map, ap, ◌++◌, ◌∙◌}
use Rattle.slab.specs.Slab.{get}
use Rattle.pd_grove.specs.declared.spots.Spot.{Spot}
use Rattle.pd_grove.specs.TextOrder.{placed_at, spots_among}
use Rattle.pd_grove.proofs.SpotLemmas.{grove_spots, placed_stand}
use Rattle.pd_grove.proofs.grove.Grove.spots.Goals as goal

pub returns-clause-boxes : goal.returns-clause-boxes
returns-clause-boxes c = λ s t G l.
    let g = c.args.self.now in
    ap (map (placed_at (get g.nodes)))
    (c.in_ok-push_spots.ensures
    ∙ ap (λ (x : List Spot). x ++ spots_among (get g.nodes) (get g.boards) 257 true c.keys_in_board-keys.result.now) c.new-spots.ensures.items
    ∙ ap (λ ks. spots_among (get g.nodes) (get g.boards) 257 true ks) c.keys_in_board-keys.ensures
    ∙ grove_spots g s t G l)
    ∙ placed_stand (get g.nodes) (get g.boards) g.root 0 true G.keys t G.stands
