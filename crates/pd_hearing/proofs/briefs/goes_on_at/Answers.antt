use Rattle.std.proofs.Common.{◌∙◌, sym, ap}
use Rattle.std.specs.Option.{option_copied_mut}
use Rattle.pd_grove.specs.declared.nodes.Node.{Node}
use Rattle.pd_patch.specs.Lending.{with_box}
use Rattle.pd_hearing.specs.Worlds.{net_of}
use Rattle.pd_hearing.proofs.WorldLemmas.{lent-net, resumed-lent}
use Rattle.pd_hearing.proofs.briefs.goes_on_at.Goals as goal

pub returns-in-Some-clause-goes : goal.returns-in-Some-clause-goes
returns-in-Some-clause-goes c = λ names is.
    resumed-lent c.args.patch.now c.args.node names c.in-Some.found.now c.box_goes_on.new.found _ (sym c.node_mut.ensures.value ∙ ap option_copied_mut c.in-Some.is) (c.box_goes_on.ensures.goes names is)

pub returns-in-Some-clause-net : goal.returns-in-Some-clause-net
returns-in-Some-clause-net c =
    ap (λ (n : Node). net_of (with_box c.args.patch.now c.args.node n)) c.box_goes_on.ensures.rest
    ∙ lent-net c.args.patch.now c.args.node c.in-Some.found.now c.box_goes_on.new.found.state (sym c.node_mut.ensures.value ∙ ap option_copied_mut c.in-Some.is)
