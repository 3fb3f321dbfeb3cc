use Rattle.std.proofs.Common.{◌≡◌, List, map, IfOk, sym, ap, ◌∙◌, subst}
use Rattle.pd_object.specs.Ports.{Ports}
use Rattle.pd_grove.specs.declared.ports.Side.{Side}
use Rattle.pd_web.specs.declared.jacks.Jack.{Jack}
use Rattle.pd_web.specs.Jacks.{plain_jack, marks, kind_jacks as jacks_of_kind}
use Rattle.pd_web.proofs.JackLemmas.{inlets_marked, outlets_marked}
use Rattle.pd_web.proofs.jacks.kind_jacks.Goals as goal

pub returns-in-Inlets : goal.returns-in-Inlets
returns-in-Inlets c =
    let P : List Jack → Type 0 = λ xs. IfOk c.inlet_jacks.result (λ jacks. jacks.items ≡ xs) in
    subst P
    (ap (λ (p : Ports). map plain_jack (marks p.signal_inlets p.inlets)) c.ports-list.ensures
    ∙ ap (λ bs. map plain_jack bs) (inlets_marked c.args.kind.now)
    ∙ ap (λ (s : Side). jacks_of_kind s c.args.kind.now) (sym c.in-Inlets.is))
    c.inlet_jacks.ensures

pub returns-in-Outlets : goal.returns-in-Outlets
returns-in-Outlets c =
    let P : List Jack → Type 0 = λ xs. IfOk c.outlet_jacks.result (λ jacks. jacks.items ≡ xs) in
    subst P
    (ap (λ (p : Ports). map plain_jack (marks p.signal_outlets p.outlets)) c.ports-list.ensures
    ∙ ap (λ bs. map plain_jack bs) (outlets_marked c.args.kind.now)
    ∙ ap (λ (s : Side). jacks_of_kind s c.args.kind.now) (sym c.in-Outlets.is))
    c.outlet_jacks.ensures
