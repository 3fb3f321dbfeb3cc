use Rattle.std.proofs.Common.{ℕ, ◌+◌, ◌*◌, ◌≤◌, drop}
use Rattle.slab.specs.Slab.{get}
use Rattle.pd_tree.specs.Trees.{Trees}
use Rattle.pd_grove.specs.Standing.{Stands}
use Rattle.pd_grove.specs.TextOrder.{deep}
use Rattle.pd_grove.proofs.TextOrders.{Told}
use Rattle.pd_grove.proofs.text_order.+zeros.Given as goal

abbrev pub decreases-push_zeros : goal.decreases-push_zeros
decreases-push_zeros l = 2 * l.left + 1

abbrev pub decreases-push_zeros_at : goal.decreases-push_zeros_at
decreases-push_zeros_at l = 2 * l.left

abbrev pub invariant-push_zeros-loop-key : goal.invariant-push_zeros-loop-key
invariant-push_zeros-loop-key l =
    (b d : ℕ) (t : Trees) → Stands (get l.nodes) (get l.boards) b d l.keys t → deep t ≤ l.left
    → Told (get l.nodes) (get l.boards) b d (drop l.key-index l.keys) l.left l.fn.zeros.items l.zeros.items t
