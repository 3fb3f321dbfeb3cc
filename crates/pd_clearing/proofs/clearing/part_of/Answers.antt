use Rattle.std.proofs.Common.{◌++◌, ap, ◌∙◌}
use Rattle.slab.specs.Slab.{get}
use Rattle.pd_owning.specs.Parts.{part_spots}
use Rattle.pd_clearing.proofs.SpotLemmas.{is_part}
use Rattle.pd_clearing.proofs.clearing.part_of.Goals as goal

pub returns-clause-part : goal.returns-clause-part
returns-clause-part c =
    let g = c.args.grove.now in
    let p = c.spot_at.result in
    is_part g c.requires.forest c.args.key p c.push_part.new.spots.items c.spot_at.ensures.node c.spot_at.ensures.stands
    (c.in_ok-push_part.ensures ∙ ap (λ ps. ps ++ part_spots (get g.nodes) (get g.boards) p) c.new-spots.ensures.items)
