use Rattle.std.proofs.Common.{sym, ap, subst}
use Rattle.pd_grove.specs.Forest.{told, HasOther}
use Rattle.pd_grove.specs.Standing.{depth_of}
use Rattle.pd_grove.proofs.ForestLemmas.{live_board}
use Rattle.pd_grove.proofs.NestLemmas.{canvas_changes}
use Rattle.pd_grove.proofs.GraftLemmas.{forest_more}
use Rattle.pd_forest_law.proofs.MoreLemmas.{tree_more}
use Rattle.pd_grove.proofs.OpenLemmas.{forest_bare, forest_opened, forest_alike}
use Rattle.pd_forest_law.proofs.OtherLemmas.{tree_opened, tree_refit}
use Rattle.pd_forest_law.proofs.PartLemmas.{forest_part}
use Rattle.pd_forest_law.proofs.TakenBackLemmas.{taken_back}
use Rattle.pd_forest_law.proofs.laws.forests_change.Goals as goal

pub returns-clause-tree : goal.returns-clause-tree
returns-clause-tree c = λ nodes nodes' boards boards' root k n u u' F S live high was is.
    let B = live_board (boards k) live in
    subst (λ d. HasOther (told nodes boards d root) (told nodes' boards' d root) u u') high
    (canvas_changes nodes nodes' boards boards' root F (depth_of (boards k)) n k u u' B.0 S B.1 (sym (ap depth_of B.1)) was is)

pub returns-clause-more : goal.returns-clause-more
returns-clause-more c = λ nodes nodes' boards boards' root b k n before behind M F. forest_more nodes nodes' boards boards' root b k n before behind M F

pub returns-clause-tree_more : goal.returns-clause-tree_more
returns-clause-tree_more c = λ nodes nodes' boards boards' root b k n before behind M F. tree_more nodes nodes' boards boards' root b k n before behind M F

pub returns-clause-opened : goal.returns-clause-opened
returns-clause-opened c = λ nodes nodes' boards boards' root k j n b M F. forest_opened nodes nodes' boards boards' root k j n b M F

pub returns-clause-tree_opened : goal.returns-clause-tree_opened
returns-clause-tree_opened c = λ nodes nodes' boards boards' root k j n b M F. tree_opened nodes nodes' boards boards' root k j n b M F

pub returns-clause-alike : goal.returns-clause-alike
returns-clause-alike c = λ nodes nodes' boards boards' root A F. forest_alike nodes nodes' boards boards' root A F

pub returns-clause-tree_refit : goal.returns-clause-tree_refit
returns-clause-tree_refit c = λ nodes nodes' boards boards' root b k n n' M same F. tree_refit nodes nodes' boards boards' root b k n n' M same F

pub returns-clause-bare : goal.returns-clause-bare
returns-clause-bare c = λ nodes boards root b none is free top empty others. forest_bare nodes boards root b none is free top empty others

pub returns-clause-part : goal.returns-clause-part
returns-clause-part c = λ nodes nodes' boards boards' root b k before behind M F. forest_part nodes nodes' boards boards' root b k before behind M F

pub returns-clause-part_less : goal.returns-clause-part_less
returns-clause-part_less c = λ nodes nodes' boards boards' root b k n before behind M F is. taken_back nodes nodes' boards boards' root b k n before behind M F is
