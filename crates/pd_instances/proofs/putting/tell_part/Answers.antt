use Rattle.std.proofs.Common.{◌≡◌, ◌≤◌, ◌+◌, ◌-◌, ◌++◌, ℕ, Bool, List, Some, length, vec_capacity, sym, ap, ◌∙◌, subst, arith}
use Rattle.slab.specs.Slab.{get}
use Rattle.pd_grove.specs.declared.spots.Spot.{Spot}
use Rattle.pd_grove.specs.TextOrder.{box_spots, spot, spots_among, spots_in_order}
use Rattle.pd_owning.specs.Parts.{part_spots}
use Rattle.pd_instances.proofs.NumberLemmas.{box_lives}
use Rattle.pd_instances.proofs.TellLemmas.{spot_same, told_part}
use Rattle.pd_instances.proofs.putting.tell_part.Goals as goal

pub spot_at-at-requires-clause-here : goal.spot_at-at-requires-clause-here
spot_at-at-requires-clause-here c = box_lives (get c.args.grove.now.nodes c.args.key) c.args.canvas c.requires.lies

pub push_box-requires : goal.push_box-requires
push_box-requires c =
    let g = c.args.grove.now in
    let same = ap length (told_part g c.args.canvas c.args.key c.spot_at-at.result.is_top c.saturating_sub-levels.result c.requires.lies (c.saturating_sub-levels.ensures ∙ ap (λ n. 256 - n) c.depth_at.ensures)) in
    let fits = c.requires.room c.spot_at-at.result.is_top in
    let none = c.requires.empty in
    omega (arith, same, fits, none)

pub returns : goal.returns
returns c =
    let g = c.args.grove.now in
    let top = c.spot_at-at.result.is_top in
    let at = c.spot_at-at.ensures.stands in (
      top,
      c.push_box.ensures.told ∙ ap (λ (ps : List Spot). ps ++ box_spots (get g.boards) (spots_among (get g.nodes) (get g.boards) c.saturating_sub-levels.result) top c.args.key (get g.nodes c.args.key)) c.requires.none
          ∙ told_part g c.args.canvas c.args.key top c.saturating_sub-levels.result c.requires.lies (c.saturating_sub-levels.ensures ∙ ap (λ n. 256 - n) c.depth_at.ensures),
      at.0,
      at.1 ∙ ap (λ p. Some p) (spot_same c.spot_at-at.result c.args.key c.spot_at-at.ensures.node),
    )
