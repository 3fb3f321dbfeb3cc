use Rattle.std.proofs.Common.{ap, ◌∙◌}
use Rattle.pd_object.specs.Ports.{Ports}
use Rattle.pd_tree.specs.Trees.{stand_of}
use Rattle.pd_fit.specs.Seeing.{marks}
use Rattle.pd_fit.proofs.MarkLemmas.{inlets_marked, outlets_marked}
use Rattle.pd_fit.proofs.SeenLemmas.{leaf_seen}
use Rattle.pd_fit.proofs.boxes.leaf.Goals as goal

pub returns : goal.returns
returns c =
    leaf_seen (stand_of c.args.row.now).cell _ _ _ _ _
    (c.in_ok-inlets.ensures ∙ ap (λ (p : Ports). marks p.signal_inlets p.inlets) c.ports-list.ensures ∙ inlets_marked c.args.row.now.kind)
    (c.in_ok-outlets.ensures ∙ ap (λ (p : Ports). marks p.signal_outlets p.outlets) c.ports-list.ensures ∙ outlets_marked c.args.row.now.kind)
    c.is_made_kind.ensures c.inlet_of.ensures c.outlet_of.ensures
