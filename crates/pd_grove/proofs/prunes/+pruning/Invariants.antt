use Rattle.std.proofs.Common.{◌+◌, ◌*◌}
use Rattle.slab.specs.Slab.{slab_len}
use Rattle.pd_grove.proofs.PruningLemmas.{Pruned}
use Rattle.pd_grove.proofs.prunes.+pruning.Given as goal

abbrev pub decreases-prune_inside : goal.decreases-prune_inside
decreases-prune_inside l = 4 * (slab_len l.nodes.now + slab_len l.boards.now) + 1

abbrev pub decreases-prune_canvas : goal.decreases-prune_canvas
decreases-prune_canvas l = 4 * (slab_len l.nodes.now + slab_len l.boards.now)

abbrev pub decreases-prune_boxes : goal.decreases-prune_boxes
decreases-prune_boxes l = 4 * (slab_len l.nodes.now + slab_len l.boards.now) + 3

abbrev pub decreases-prune_box : goal.decreases-prune_box
decreases-prune_box l = 4 * (slab_len l.nodes.now + slab_len l.boards.now) + 2

abbrev pub invariant-prune_boxes-loop-key : goal.invariant-prune_boxes-loop-key
invariant-prune_boxes-loop-key l = Pruned l.fn.nodes l.nodes l.fn.boards l.boards l.keys l.key-index
