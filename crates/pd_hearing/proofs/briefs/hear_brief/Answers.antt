use Rattle.std.proofs.Common.{◌∙◌, sym, ap, Option}
use Rattle.std.specs.Option.{option_copied_mut}
use Rattle.pd_grove.specs.declared.nodes.Node.{Node}
use Rattle.pd_grove.specs.Telling.{kind_in}
use Rattle.pd_patch.specs.Lending.{with_box}
use Rattle.pd_hearing.specs.Hearing.{table_named}
use Rattle.pd_hearing.specs.Worlds.{net_of}
use Rattle.pd_hearing.proofs.BriefLemmas.{heard-both}
use Rattle.pd_hearing.proofs.WorldLemmas.{heard-lent, lent-net}
use Rattle.pd_hearing.proofs.briefs.hear_brief.Goals as goal

pub returns-in-Some-clause-heard : goal.returns-in-Some-clause-heard
returns-in-Some-clause-heard c = λ names now le.
    let found = sym c.node_mut.ensures.value ∙ ap option_copied_mut c.in-Some.is in
    heard-both c.box_hears.result (λ bare e.
    heard-lent c.args.patch.now now c.args.node c.args.inlet _ names names c.in-Some.found.now c.box_hears.new.found _ _
    found (ap (λ (o : Option Node). table_named (kind_in o)) found ∙ bare) e) c.box_hears.ensures.bare (c.box_hears.ensures.heard names now le)

pub returns-in-Some-clause-net : goal.returns-in-Some-clause-net
returns-in-Some-clause-net c =
    ap (λ (n : Node). net_of (with_box c.args.patch.now c.args.node n)) c.box_hears.ensures.rest
    ∙ lent-net c.args.patch.now c.args.node c.in-Some.found.now c.box_hears.new.found.state (sym c.node_mut.ensures.value ∙ ap option_copied_mut c.in-Some.is)
