use Rattle.std.proofs.Common.{◌∙◌}
use Rattle.pd_boxes.proofs.KindLemmas.{blocks_count, inlet_count, outlet_count}
use Rattle.pd_instances.specs.Needs.{leaf_need}
use Rattle.pd_instances.proofs.SumLemmas.{same_need}
use Rattle.pd_instances.proofs.needs.need_of_kind.Goals as goal

pub returns : goal.returns
returns c =
    let kind = c.args.kind.now in
    let list = c.ports-list.result in
    same_need _ (leaf_need kind) (c.inlets.ensures ∙ inlet_count kind list c.ports-list.ensures) (c.outlets.ensures ∙ outlet_count kind list c.ports-list.ensures)
    (c.block_count_of.ensures ∙ blocks_count kind list c.ports-list.ensures)
