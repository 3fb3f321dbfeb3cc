use Rattle.std.proofs.Common.{◌≡◌, ◌++◌, length}
use Rattle.pd_tree.specs.Trees.{stands_in}
use Rattle.pd_grove.specs.Planting.{stands_ready, AreRoomy}
use Rattle.pd_grove.specs.States.{AreSmall, AreFresh, SeedsSmall}
use Rattle.pd_grove.proofs.seeds.Seeds.prepare.Given as goal

abbrev pub invariant-loop-row : goal.invariant-loop-row
invariant-loop-row l =
    (stands_in l.fn.rows.items ≡ stands_ready l.items.items ++ stands_in l.rows.items) × AreRoomy l.items.items × AreFresh l.rate l.now l.items.items × SeedsSmall l.items.items × AreSmall l.rows.items

abbrev pub decreases-loop-row : goal.decreases-loop-row
decreases-loop-row l = length l.rows.items
