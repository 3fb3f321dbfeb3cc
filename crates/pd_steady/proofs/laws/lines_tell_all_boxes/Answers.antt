use Rattle.std.proofs.Common.{refl}
use Rattle.pd_steady.proofs.StandLemmas.{patch_now}
use Rattle.pd_steady.proofs.ToldLemmas.{order_told, tree_short}
use Rattle.pd_steady.proofs.laws.lines_tell_all_boxes.Goals as goal

pub returns : goal.returns
returns c = λ s t path o e.
    order_told (patch_now s t) s path o (λ way canvas x leads order. tree_short s t (patch_now s t) refl t.of.rewires.orders way canvas x leads order) t.of.net e
