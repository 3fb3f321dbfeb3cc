use Rattle.std.proofs.Common.{position, ◌∙◌, sym, ap}
use Rattle.pd_canvas.specs.Wiring.{is_same, without_wire}
use Rattle.pd_canvas.proofs.WireLemmas.{removed, absent}
use Rattle.pd_canvas.proofs.wires.Wires.disconnect.Goals as goal

pub returns-in-Some : goal.returns-in-Some
returns-in-Some c =
    c.remove.ensures.items
    ∙ (removed c.args.wire c.self.inside.items.items c.in-Some.place
    (ap (position (λ v. is_same v c.args.wire)) (sym c.as_slice.ensures.value) ∙ (sym c.place_of.ensures ∙ c.in-Some.is))
    ∙ ap (without_wire c.args.wire) c.self.view_is)

pub returns-in_default : goal.returns-in_default
returns-in_default c =
    sym (absent c.args.wire c.args.self.now
    (ap (position (λ v. is_same v c.args.wire)) (sym c.self.view_is ∙ sym c.as_slice.ensures.value) ∙ (sym c.place_of.ensures ∙ c.in_default.is)))
