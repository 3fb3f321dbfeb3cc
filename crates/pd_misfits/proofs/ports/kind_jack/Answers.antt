use Rattle.std.proofs.Common.{nat_lt, sym, ap, ◌∙◌}
use Rattle.std.specs.Prelude.{slice_get}
use Rattle.pd_web.specs.Jacks.{kind_jacks}
use Rattle.pd_misfits.specs.Ports.{plain_jack_if}
use Rattle.pd_misfits.proofs.PortLemmas.{inlet_jack, outlet_jack}
use Rattle.pd_misfits.proofs.ports.kind_jack.Goals as goal

pub returns-in-Inlets : goal.returns-in-Inlets
returns-in-Inlets c =
    let kind = c.args.kind.now in
    let list = c.ports-list.result in
    c.plain_jack.ensures ∙ ap (λ n. plain_jack_if (nat_lt c.args.port n) c.inlet_signal.result) c.inlets.ensures ∙ ap (λ b. plain_jack_if (nat_lt c.args.port list.inlets) b) c.inlet_signal.ensures
    ∙ inlet_jack kind list c.args.port c.ports-list.ensures ∙ ap (λ side. slice_get (kind_jacks side kind) c.args.port) (sym c.in-Inlets.is)

pub returns-in-Outlets : goal.returns-in-Outlets
returns-in-Outlets c =
    let kind = c.args.kind.now in
    let list = c.ports-list.result in
    c.plain_jack-in-Outlets.ensures ∙ ap (λ n. plain_jack_if (nat_lt c.args.port n) c.outlet_signal.result) c.outlets.ensures ∙ ap (λ b. plain_jack_if (nat_lt c.args.port list.outlets) b) c.outlet_signal.ensures
    ∙ outlet_jack kind list c.args.port c.ports-list.ensures ∙ ap (λ side. slice_get (kind_jacks side kind) c.args.port) (sym c.in-Outlets.is)
