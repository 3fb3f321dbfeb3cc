use Rattle.std.proofs.Common.{sym, ap, ◌∙◌, subst}
use Rattle.slab.specs.Slab.{get}
use Rattle.pd_grove.specs.TextOrder.{spot, spots_in_order}
use Rattle.pd_owning.specs.Order.{is_own}
use Rattle.pd_owning.proofs.StandLemmas.{Has, stands}
use Rattle.pd_owning.proofs.spots.spot_at.Goals as goal

pub returns-clause-stands : goal.returns-clause-stands
returns-clause-stands c =
    let g = c.args.grove.now in
    let k = c.args.node in
    subst (λ b. Has (spots_in_order g) (spot b k)) (ap (λ m. is_own (get g.nodes) (get g.boards) m k) (sym c.level_of.ensures) ∙ sym c.is_in_own_document.ensures)
    (stands (get g.nodes) (get g.boards) g.root c.requires.forest k c.requires.here)
