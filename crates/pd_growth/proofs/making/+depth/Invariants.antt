use Rattle.std.proofs.Common.{◌≡◌, ◌+◌, ◌*◌, drop, nat_lt}
use Rattle.pd_canvas.specs.Pages.{boxed}
use Rattle.pd_canvas.specs.Views.{entries_of}
use Rattle.pd_canvas.specs.Proper.{levels}
use Rattle.pd_growth.proofs.making.+depth.Given as goal

abbrev pub decreases-is_deeper : goal.decreases-is_deeper
decreases-is_deeper l = 3 * l.left

abbrev pub decreases-are_deeper : goal.decreases-are_deeper
decreases-are_deeper l = 3 * l.left + 2

abbrev pub decreases-holds_deeper : goal.decreases-holds_deeper
decreases-holds_deeper l = 3 * l.left + 1

abbrev pub invariant-are_deeper-loop-element : goal.invariant-are_deeper-loop-element
invariant-are_deeper-loop-element l =
    nat_lt l.left (levels (boxed (entries_of (drop l.element-index l.elements)))) ≡ nat_lt l.left (levels (boxed (entries_of l.elements)))
