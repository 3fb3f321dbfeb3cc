use Rattle.std.proofs.Common.{length, position, unwrap_or, insert, ap, ◌∙◌}
use Rattle.pd_canvas.specs.Wiring.{precedes, with_wire}
use Rattle.pd_canvas.proofs.WireLemmas.{inserted}
use Rattle.pd_canvas.proofs.wires.Wires.connect.Goals as goal

pub returns-clause-ok : goal.returns-clause-ok
returns-clause-ok c =
    c.in_ok-insert.ensures.items
    ∙ (ap (λ i. insert c.self.inside.items.items i c.args.wire)
    (c.place_for-place.ensures ∙ ap (λ v. unwrap_or (position (precedes c.args.wire) v) (length v)) c.as_slice.ensures.value)
    ∙ (inserted c.args.wire c.self.inside.items.items ∙ ap (with_wire c.args.wire) c.self.view_is))
