use Rattle.std.proofs.Common.{◌+◌, ◌*◌, length}
use Rattle.pd_grove.specs.Planting.{seeds_in}
use Rattle.pd_grove.proofs.Plantings.{Halfway}
use Rattle.pd_grove.proofs.planting.+planting.Given as goal

abbrev pub decreases-plant_box : goal.decreases-plant_box
decreases-plant_box l = 4 * length (seeds_in l.seeds.now) + 3

abbrev pub decreases-plant_inside : goal.decreases-plant_inside
decreases-plant_inside l = 4 * length (seeds_in l.seeds.now) + 2

abbrev pub decreases-plant_next : goal.decreases-plant_next
decreases-plant_next l = 4 * length (seeds_in l.seeds.now)

abbrev pub decreases-plant_boxes : goal.decreases-plant_boxes
decreases-plant_boxes l = 4 * length (seeds_in l.seeds.now) + 1

abbrev pub invariant-plant_boxes-loop : goal.invariant-plant_boxes-loop
invariant-plant_boxes-loop l = Halfway l.fn.nodes l.nodes l.fn.boards l.boards l.fn.labels l.labels (seeds_in l.fn.seeds) (seeds_in l.seeds) l.board l.depth l.counter l.count
