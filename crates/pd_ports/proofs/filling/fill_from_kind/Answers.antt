use Rattle.std.proofs.Common.{map, sym, ap, ◌∙◌}
use Rattle.pd_object.specs.Ports.{Ports}
use Rattle.pd_grove.specs.declared.ports.Side.{Side}
use Rattle.pd_web.specs.Jacks.{plain_jack, marks, kind_jacks}
use Rattle.pd_web.specs.Sockets.{loose_ports}
use Rattle.pd_web.proofs.JackLemmas.{inlets_marked, outlets_marked}
use Rattle.pd_ports.proofs.filling.fill_from_kind.Goals as goal

pub returns-in-Inlets : goal.returns-in-Inlets
returns-in-Inlets c =
    c.fill_inlets.ensures ∙ ap (λ (p : Ports). loose_ports (map plain_jack (marks p.signal_inlets p.inlets))) c.ports-own.ensures
    ∙ ap (λ bs. loose_ports (map plain_jack bs)) (inlets_marked c.args.kind.now) ∙ ap (λ (s : Side). loose_ports (kind_jacks s c.args.kind.now)) (sym c.in-Inlets.is)

pub returns-in-Outlets : goal.returns-in-Outlets
returns-in-Outlets c =
    c.fill_outlets.ensures ∙ ap (λ (p : Ports). loose_ports (map plain_jack (marks p.signal_outlets p.outlets))) c.ports-own.ensures
    ∙ ap (λ bs. loose_ports (map plain_jack bs)) (outlets_marked c.args.kind.now) ∙ ap (λ (s : Side). loose_ports (kind_jacks s c.args.kind.now)) (sym c.in-Outlets.is)
